-- Lines that are played one after the other.
use Rattle.std.proofs.Common.{◌≡◌, ◌≢◌, ◌⊎◌, inl, inr, ℕ, zero, suc, ◌+◌, ◌-◌, ◌≤◌, cond, List, [], ◌∷◌, Option, Some, None, Result, Ok, Err, refl, sym, ap, ◌∙◌, subst, arith}
use Rattle.std.proofs.lemmas.Bool.{cases_eq}
use Rattle.pw_sections.specs.Steps.{is_empty}
use Rattle.pw_sections.specs.Words.{words}
use Rattle.pw_sections.proofs.Folds.{some_word}
use Rattle.pw_net.specs.Member.{Member, replied, own_id, standing_of, start, restart, turned}
use Rattle.pw_net.specs.Rules.{Reply, on_word, on_refuse, on_wait, on_end}
use Rattle.pw_net.specs.World.{NetWorld, NetEvent, Start, Refuse, Ask, GiveUp, Restart, Deliver, with_member, done, delivered, effect, message_at}
use Rattle.pw_net.specs.declared.message.Net.{Net}
use Rattle.pw_net.specs.declared.message.NetId.{NetId}
use Rattle.pw_net.specs.declared.standing.TransactionState.{TransactionState}
use Rattle.pw_expand.specs.Events.{event_in}
use Rattle.pw_expand.specs.Schedule.{event_on, then_events, events_from, systems_in, schedule_begun, schedule_from}
use Rattle.pw_expand.specs.Systems.{ScheduleGoesOn, HasBegun, PlaysTo, NetStepsTo, played, schedule_played}
use Rattle.pw_expand.specs.declared.fault.ScheduleFault.{ScheduleFault}
use Rattle.pw_expand.specs.declared.fault.ScheduleFault.TheVariants.{At, Memory}
use Rattle.pw_expand.proofs.Kept.{with-same, with-other}

turned-last : (member : Member) (id : NetId) (turns : Option TransactionState) → (turned member id turns).last ≡ member.last
turned-last member id None = refl
turned-last member id (Some x) = refl

-- one system has a member that has begun at most one transaction more
begun-with : (n : ℕ) (members : ℕ → Member) (s : ℕ) (m : Member) → ((t : ℕ) → (members t).last ≤ n) → m.last ≤ (members s).last + 1 → (t : ℕ) → (with_member members s m t).last ≤ n + 1
begun-with n members s m schedule_begun more t = place (cases_eq t s)
  where
    place : (t ≡ s) ⊎ (t ≢ s) → (with_member members s m t).last ≤ n + 1
    place (inl e) =
        let P : ℕ → Type 0 = λ u. (with_member members s m u).last ≤ n + 1 in
        let same : (with_member members s m s).last ≡ m.last = ap (λ (k : Member). k.last) (with-same members s m) in
        let old = schedule_begun s in
        subst P (sym e) (omega (arith, same, old, more))
    place (inr ne) =
        let same : (with_member members s m t).last ≡ (members t).last = ap (λ (k : Member). k.last) (with-other members s m t ne) in
        let old = schedule_begun t in
        omega (arith, same, old)

replied-last : (member : Member) (id : NetId) (reply : Reply) → (replied member id reply).member.last ≤ member.last + 1
replied-last member id reply = let same = turned-last member id reply.turns in omega (arith, same)

begun-reply : (n : ℕ) (world : NetWorld) (s : ℕ) (id : NetId) (reply : Reply) → HasBegun n world → HasBegun (n + 1) (done world s (replied (world.members s) id reply))
begun-reply n world s id reply schedule_begun = begun-with n world.members s (replied (world.members s) id reply).member schedule_begun (replied-last (world.members s) id reply)

-- an event begins at most one transaction
pub effect-begun : (n : ℕ) (world : NetWorld) (event : NetEvent) → HasBegun n world → HasBegun (n + 1) (effect world event)
effect-begun n world (Start s others) schedule_begun = begun-with n world.members s (start (world.members s) others).member schedule_begun (omega arith)
effect-begun n world (Refuse s id) schedule_begun = let m = world.members s in begun-reply n world s id (on_refuse m.system id (standing_of m id)) schedule_begun
effect-begun n world (Ask s id) schedule_begun = let m = world.members s in begun-reply n world s id (on_wait m.system id (standing_of m id)) schedule_begun
effect-begun n world (GiveUp s number) schedule_begun =
    let m = world.members s in
    begun-reply n world s (own_id m number) (on_end m.system (own_id m number) (standing_of m (own_id m number))) schedule_begun
effect-begun n world (Restart s) schedule_begun = begun-with n world.members s (restart (world.members s)) schedule_begun (omega arith)
effect-begun n world (Deliver k) schedule_begun = handed (message_at world.sent k)
  where
    handed : (message : Option Net) → HasBegun (n + 1) (delivered world message)
    handed None = λ t. let old = schedule_begun t in omega (arith, old)
    handed (Some message) =
        let m = world.members message.to in
        begun-reply n world message.to message.id (on_word m.system message.id message.from message.word (standing_of m message.id)) schedule_begun

-- more may have begun
pub begun-more : (n m : ℕ) (world : NetWorld) → n ≤ m → HasBegun n world → HasBegun m world
begun-more n m world le schedule_begun t = let old = schedule_begun t in omega (arith, old, le)

-- a blank line is passed over
pub blank-played : (world : NetWorld) (systems number left : ℕ) (line : List ℕ) (rest : List (List ℕ)) → words line ≡ []
    → played world (events_from systems number left (line ∷ rest)) ≡ played world (events_from systems (number + 1) left rest)
unfolding events_from
blank-played world systems number left line rest none =
    ap (λ b. played world (cond b (events_from systems (number + 1) left rest) (then_events number (event_on systems left line) (events_from systems (number + 1) (left - 1) rest)))) (ap is_empty none)

full-line : (systems number left : ℕ) (line : List ℕ) (rest : List (List ℕ)) → words line ≢ []
    → events_from systems number left (line ∷ rest) ≡ then_events number (event_on systems left line) (events_from systems (number + 1) (left - 1) rest)
unfolding events_from
full-line systems number left line rest some =
    ap (λ b. cond b (events_from systems (number + 1) left rest) (then_events number (event_on systems left line) (events_from systems (number + 1) (left - 1) rest))) (some_word (words line) some)

-- a line without an event is the fault
pub fault-played : (world : NetWorld) (systems number left : ℕ) (line : List ℕ) (rest : List (List ℕ)) → words line ≢ [] → event_on systems left line ≡ None
    → played world (events_from systems number left (line ∷ rest)) ≡ Err number
fault-played world systems number left line rest some none =
    ap (played world) (full-line systems number left line rest some ∙ ap (λ e. then_events number e (events_from systems (number + 1) (left - 1) rest)) none)

later : (world : NetWorld) (number : ℕ) (event : NetEvent) (events : Result (List NetEvent) ℕ) → played world (then_events number (Some event) events) ≡ played (effect world event) events
later world number event (Err fault) = refl
later world number event (Ok events) = refl

-- a line's event is done
pub event-played : (world : NetWorld) (systems number left : ℕ) (line : List ℕ) (rest : List (List ℕ)) (event : NetEvent) → words line ≢ [] → event_on systems left line ≡ Some event
    → played world (events_from systems number left (line ∷ rest)) ≡ played (effect world event) (events_from systems (number + 1) (left - 1) rest)
event-played world systems number left line rest event some is =
    let all = events_from systems (number + 1) (left - 1) rest in
    ap (played world) (full-line systems number left line rest some ∙ ap (λ e. then_events number e all) is) ∙ later world number event all

-- where events may still come, the event of a line is the one that it names
pub event-left : (systems left : ℕ) (line : List ℕ) → left ≢ 0 → event_on systems left line ≡ event_in systems line
event-left systems zero line some = absurd (some refl)
event-left systems (suc left) line some = refl

-- behind a line of an event the rest is played from its world
pub line-ok : (old now : NetWorld) (systems number left : ℕ) (line : List ℕ) → words line ≢ [] → left ≢ 0
    → NetStepsTo (Ok tt) old now number (event_in systems line) → (rest : List (List ℕ))
    → played old (events_from systems number left (line ∷ rest)) ≡ played now (events_from systems (number + 1) (left - 1) rest)
line-ok old now systems number left line some more steps rest = go (event_in systems line) refl steps
  where
    go : (event : Option NetEvent) → event_in systems line ≡ event → NetStepsTo (Ok tt) old now number event
        → played old (events_from systems number left (line ∷ rest)) ≡ played now (events_from systems (number + 1) (left - 1) rest)
    go None is steps = absurd steps
    go (Some event) is steps =
        event-played old systems number left line rest event some (event-left systems left line more ∙ is)
        ∙ ap (λ w. played w (events_from systems (number + 1) (left - 1) rest)) (sym steps)

-- a line that has no event is the fault
pub line-err : (fault : ScheduleFault) (old now : NetWorld) (systems number left : ℕ) (line : List ℕ) → words line ≢ [] → left ≢ 0
    → NetStepsTo (Err fault) old now number (event_in systems line) → ScheduleGoesOn (Err fault) now systems number (λ rest. played old (events_from systems number left (line ∷ rest)))
line-err (At l) old now systems number left line some more steps = go (event_in systems line) refl steps
  where
    go : (event : Option NetEvent) → event_in systems line ≡ event → NetStepsTo (Err (At l)) old now number event
        → (rest : List (List ℕ)) → played old (events_from systems number left (line ∷ rest)) ≡ Err l
    go None is steps = λ rest. fault-played old systems number left line rest some (event-left systems left line more ∙ is) ∙ ap Err (sym steps)
    go (Some event) is steps = absurd steps
line-err Memory old now systems number left line some more steps = tt

-- a line of an event leaves room for as many transactions as there may be lines
pub line-begun : (old now : NetWorld) (number most left : ℕ) (event : Option NetEvent) → left ≢ 0 → left ≤ most → HasBegun (most - left) old
    → NetStepsTo (Ok tt) old now number event → HasBegun (most - (left - 1)) now
line-begun old now number most left None more few schedule_begun steps = absurd steps
line-begun old now number most left (Some event) more few schedule_begun steps =
    let P : NetWorld → Type 0 = λ w. HasBegun (most - (left - 1)) w in
    subst P (sym steps) (begun-more (most - left + 1) (most - (left - 1)) (effect old event) (omega arith) (effect-begun (most - left) old event schedule_begun))

-- where no more events may come, a line that is not blank is the fault
pub too-many : (world : NetWorld) (systems number left : ℕ) (line : List ℕ) → words line ≢ [] → left ≡ 0 → (rest : List (List ℕ))
    → played world (events_from systems number left (line ∷ rest)) ≡ Err number
too-many world systems number left line some none rest = fault-played world systems number left line rest some (ap (λ n. event_on systems n line) none)

-- no line is left
pub none-played : (world : NetWorld) (systems number left : ℕ) (all : List (List ℕ)) → all ≡ [] → played world (events_from systems number left all) ≡ Ok world
unfolding events_from
none-played world systems number left all none = ap (λ ls. played world (events_from systems number left ls)) none

-- a blank line in front is passed over
pub blank-front : (world : NetWorld) (number : ℕ) (line : List ℕ) (rest : List (List ℕ)) → words line ≡ []
    → schedule_played world (schedule_from number (line ∷ rest)) ≡ schedule_played world (schedule_from (number + 1) rest)
unfolding schedule_from
blank-front world number line rest none = ap (λ b. schedule_played world (cond b (schedule_from (number + 1) rest) (schedule_begun number (systems_in line) rest))) (ap is_empty none)

-- the first line that is not blank
pub full-front : (world : NetWorld) (number : ℕ) (line : List ℕ) (rest : List (List ℕ)) → words line ≢ []
    → schedule_played world (schedule_from number (line ∷ rest)) ≡ schedule_played world (schedule_begun number (systems_in line) rest)
unfolding schedule_from
full-front world number line rest some = ap (λ b. schedule_played world (cond b (schedule_from (number + 1) rest) (schedule_begun number (systems_in line) rest))) (some_word (words line) some)

-- where each line is blank, the fault is behind the last
pub none-front : (world : NetWorld) (number : ℕ) (all : List (List ℕ)) → all ≡ [] → schedule_played world (schedule_from number all) ≡ Err number
unfolding schedule_from
none-front world number all none = ap (λ ls. schedule_played world (schedule_from number ls)) none

-- one blank line more
pub blank-more : (world : NetWorld) (number : ℕ) (line : List ℕ) (rest all : List (List ℕ)) (whole : Result (ℕ × NetWorld) ℕ) → all ≡ line ∷ rest → words line ≡ []
    → schedule_played world (schedule_from number all) ≡ whole → schedule_played world (schedule_from (number + 1) rest) ≡ whole
blank-more world number line rest all whole is none so_far =
    sym (ap (λ ls. schedule_played world (schedule_from number ls)) is ∙ blank-front world number line rest none) ∙ so_far

-- the first line is there
pub first-there : (result : Result ℕ ScheduleFault) (now world : NetWorld) (number : ℕ) (line : List ℕ) (rest all : List (List ℕ)) (whole : Result (ℕ × NetWorld) ℕ)
    → all ≡ line ∷ rest → words line ≢ [] → schedule_played world (schedule_from number all) ≡ whole
    → PlaysTo result now (schedule_played world (schedule_begun number (systems_in line) rest)) → PlaysTo result now whole
first-there result now world number line rest all whole is some so_far plays =
    let same : schedule_played world (schedule_begun number (systems_in line) rest) ≡ whole =
    sym (ap (λ ls. schedule_played world (schedule_from number ls)) is ∙ full-front world number line rest some) ∙ so_far in
    let P : Result (ℕ × NetWorld) ℕ → Type 0 = λ d. PlaysTo result now d in
    subst P same plays
