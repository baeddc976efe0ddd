-- What a terminal may still enter falls with each way in which an entry changes what the state has of it.
use Rattle.std.proofs.Common.{◌≡◌, ℕ, suc, ◌+◌, ◌*◌, ◌<◌, ◌≤◌, Bool, true, false, ◌&&◌, ◌||◌, is_none, List, [], ◌∷◌, ◌++◌, length, length-append, Option, Some, None, refl, ap, sym, subst, ◌∙◌, arith}
use Rattle.std.proofs.lemmas.Nat.{mul-le}
use Rattle.pw_code.specs.declared.verb.Verb.{Verb}
use Rattle.pw_code.specs.declared.verb.Verb.TheVariants as verb
use Rattle.pw_event.specs.declared.event.Ending.{Ending}
use Rattle.pw_laws.proofs.induction.Views.{View, path_in, verb_in}
use Rattle.pw_laws.proofs.requests.Requests.{Place}
use Rattle.pw_laws.proofs.restarts.Counting.{weight}
use Rattle.pw_laws.proofs.terms.TermOk.{HasMessages, IsWorking}
use Rattle.pw_laws.specs.legal.Verbs.{begins_unit}
use Rattle.pw_onecopy.specs.Behaviour.{Behaviour}
use Rattle.pw_onecopy.specs.Path.{PathAnswer}
use Rattle.pw_paired.specs.Raising.{settled_mode, with_message}
use Rattle.pw_paired.specs.State.{Alone, BackupCopy, Down, Gone, Message, OpenUnit, PairMode, Paired, Raising}
use Rattle.pw_paired.specs.Terminal.{closing_answer, unit_with_attempt}
use Rattle.pw_paired.specs.Units.{attempt_of}
use Rattle.pw_run_bounds.specs.Bound.{stretch}
use Rattle.pw_run_bounds.proofs.Left.{ahead, ahead-few, asking, asking-few, attempts, by_mode, checks, checks-few, copying, is_wanted, lacks_end, lacks_start, left, times-less, unless_ended, weight-few, working}

module _ (sys : Behaviour) (n m t : ℕ) where
  abbrev whole : View → Place → ℕ
  whole v place = 1 + attempts n (sys.max_restarts t) v * (stretch n m + 1) + ahead sys n m t v place

  live-left : (v : View) (place : Place) → v.term.ending ≡ None → left sys n m t v place ≡ whole v place
  live-left v place live = ap (λ (e : Option Ending). unless_ended e (whole v place)) live

  -- the same work and checkpoints behind an entry, and as many attempts
  by-ahead : (v w : View) (place after : Place) → v.term.ending ≡ None → w.term.ending ≡ None
      → attempts n (sys.max_restarts t) w ≤ attempts n (sys.max_restarts t) v → ahead sys n m t w after < ahead sys n m t v place
      → left sys n m t w after < left sys n m t v place
  by-ahead v w place after live alive few less =
      omega (arith, live-left v place live, live-left w after alive, mul-le _ (stretch n m + 1) _ (stretch n m + 1) few (let same : stretch n m + 1 ≤ stretch n m + 1 = omega arith in same), less)

  -- where a member works, and the mode stays
  less-ahead : (most work now checkpoints others : ℕ) (mode : PairMode) → IsWorking mode → now + 3 ≤ work → others ≤ checkpoints + 2
      → by_mode most now others mode < by_mode most work checkpoints mode
  less-ahead most work now checkpoints others Alone works less few = omega (arith, less)
  less-ahead most work now checkpoints others Raising works less few = omega (arith, less, few)
  less-ahead most work now checkpoints others Paired works less few = omega (arith, less, few)
  less-ahead most work now checkpoints others Down works less few = absurd works
  less-ahead most work now checkpoints others Gone works less few = absurd works

  -- the path gets an answer
  pub grows-less : (v w : View) (place after : Place) (a : PathAnswer) → v.term.ending ≡ None → w.term.ending ≡ None → IsWorking v.mode
      → w.mode ≡ v.mode → path_in w ≡ path_in v ++ a ∷ [] → length (path_in w) ≤ n → w.memory ≡ v.memory → w.flight ≡ v.flight
      → attempts n (sys.max_restarts t) w ≤ attempts n (sys.max_restarts t) v → left sys n m t w after < left sys n m t v place
  grows-less v w place after a live alive works mode path low memory flight few =
      let longer : length (path_in w) ≡ length (path_in v) + 1 = ap (λ (p : List PathAnswer). length p) path ∙ length-append (path_in v) (a ∷ []) in
      let answers = times-less n (length (path_in w)) (length (path_in v)) (m + 6) longer low in
      let work : working n m w after + 3 ≤ working n m v place =
      omega (arith, answers, weight-few (is_none (attempt_of w.unit)), asking-few m after) in
      let copies : copying w.flight w.memory ≡ copying v.flight v.memory = ap (λ (f : Option Message). copying f w.memory) flight ∙ ap (copying v.flight) memory in
      let checked : checks sys t w ≤ checks sys t v + 2 = omega (arith, copies, weight-few (is_wanted sys t w)) in
      by-ahead v w place after live alive few
      (subst (λ (o : PairMode). by_mode (stretch n m) (working n m w after) (checks sys t w) o < ahead sys n m t v place) (sym mode)
      (less-ahead (stretch n m) (working n m v place) (working n m w after) (checks sys t v) (checks sys t w) v.mode works work checked))

  -- where there may be messages
  less-checks : (most work checkpoints others : ℕ) (mode : PairMode) → HasMessages mode → others < checkpoints
      → by_mode most work others mode < by_mode most work checkpoints mode
  less-checks most work checkpoints others Alone has less = absurd has
  less-checks most work checkpoints others Raising has less = omega (arith, less)
  less-checks most work checkpoints others Paired has less = omega (arith, less)
  less-checks most work checkpoints others Down has less = absurd has
  less-checks most work checkpoints others Gone has less = absurd has

  -- a message is in flight
  pub sends-less : (v : View) (place : Place) (message : Message) → v.term.ending ≡ None → HasMessages v.mode → v.flight ≡ None
      → 1 + 2 * weight (is_wanted sys t (record v { flight = Some message })) < copying None v.memory + 2 * weight (is_wanted sys t v)
      → left sys n m t (record v { flight = Some message }) place < left sys n m t v place
  sends-less v place message live has none less =
      let w : View = record v { flight = Some message } in
      let before : checks sys t v ≡ copying None v.memory + 2 * weight (is_wanted sys t v) = ap (λ (f : Option Message). copying f v.memory + 2 * weight (is_wanted sys t v)) none in
      let fewer : checks sys t w < checks sys t v = omega (arith, before, less) in
      by-ahead v w place place live live (let same : attempts n (sys.max_restarts t) v ≤ attempts n (sys.max_restarts t) v = omega arith in same)
      (less-checks (stretch n m) (working n m v place) (checks sys t v) (checks sys t w) v.mode has fewer)

  -- and is taken in, so that the backup has the terminal
  pub applies-less : (v : View) (place : Place) (message : Message) (held : BackupCopy) → v.term.ending ≡ None → HasMessages v.mode
      → v.flight ≡ Some message → with_message (Some message) v.memory ≡ Some held
      → left sys n m t (record v { memory = with_message (Some message) v.memory; flight = None }) place < left sys n m t v place
  applies-less v place message held live has flies there =
      let w : View = record v { memory = with_message (Some message) v.memory; flight = None } in
      let begins : Bool = is_none (attempt_of v.unit) && begins_unit (verb_in sys t v) (path_in v) in
      let wanted : is_wanted sys t v ≡ is_wanted sys t w =
      ap (λ (f : Option Message). lacks_start (with_message f v.memory) (path_in v) begins || lacks_end (with_message f v.memory) (path_in v) (closing_answer (verb_in sys t v))) flies in
      let before : copying v.flight v.memory ≡ 1 = ap (λ (f : Option Message). copying f v.memory) flies in
      let behind : copying None (with_message (Some message) v.memory) ≡ 0 = ap (copying None) there in
      let fewer : checks sys t w < checks sys t v = omega (arith, before, behind, ap weight wanted) in
      by-ahead v w place place live live (let same : attempts n (sys.max_restarts t) v ≤ attempts n (sys.max_restarts t) v = omega arith in same)
      (less-checks (stretch n m) (working n m v place) (checks sys t v) (checks sys t w) v.mode has fewer)

  -- less work, and no more checkpoints
  less-work : (most work now checkpoints others : ℕ) (mode : PairMode) → IsWorking mode → now < work → others ≤ checkpoints
      → by_mode most now others mode < by_mode most work checkpoints mode
  less-work most work now checkpoints others Alone works less few = omega (arith, less)
  less-work most work now checkpoints others Raising works less few = omega (arith, less, few)
  less-work most work now checkpoints others Paired works less few = omega (arith, less, few)
  less-work most work now checkpoints others Down works less few = absurd works
  less-work most work now checkpoints others Gone works less few = absurd works

  -- a unit that is one SEND begins
  pub begins-less : (v : View) (place : Place) (c number birth : ℕ) (message : List ℕ) → v.term.ending ≡ None → IsWorking v.mode
      → attempt_of v.unit ≡ None → verb_in sys t v ≡ verb.Send c message
      → attempts n (sys.max_restarts t) (record v { unit = Some (unit_with_attempt number birth (path_in v) v.unit) }) ≤ attempts n (sys.max_restarts t) v
      → left sys n m t (record v { unit = Some (unit_with_attempt number birth (path_in v) v.unit) }) place < left sys n m t v place
  begins-less v place c number birth message live works idle asks few =
      let w : View = record v { unit = Some (unit_with_attempt number birth (path_in v) v.unit) } in
      let runs : is_none (attempt_of w.unit) ≡ false = by v.unit in
      let calm : is_none (attempt_of v.unit) ≡ true = ap is_none idle in
      let unwanted : is_wanted sys t w ≡ false =
      ap (λ (b : Bool). lacks_start (with_message v.flight v.memory) (path_in v) (b && begins_unit (verb_in sys t v) (path_in v)) || lacks_end (with_message v.flight v.memory) (path_in v) (closing_answer (verb_in sys t v))) runs
      ∙ ap (λ (x : Verb). lacks_end (with_message v.flight v.memory) (path_in v) (closing_answer x)) asks in
      let less : working n m w place < working n m v place = omega (arith, ap weight runs, ap weight calm) in
      let same : checks sys t w ≤ checks sys t v = omega (arith, ap weight unwanted) in
      by-ahead v w place place live live few
      (less-work (stretch n m) (working n m v place) (working n m w place) (checks sys t v) (checks sys t w) v.mode works less same)
    where
      by : (unit : Option OpenUnit) → is_none (attempt_of (Some (unit_with_attempt number birth (path_in v) unit))) ≡ false
      by None = refl
      by (Some unit) = refl

  -- its request goes on
  pub asks-less : (v : View) (place after : Place) → v.term.ending ≡ None → IsWorking v.mode → asking m after < asking m place
      → left sys n m t v after < left sys n m t v place
  asks-less v place after live works less =
      by-ahead v v place after live live (let same : attempts n (sys.max_restarts t) v ≤ attempts n (sys.max_restarts t) v = omega arith in same)
      (less-work (stretch n m) (working n m v place) (working n m v after) (checks sys t v) (checks sys t v) v.mode works (omega (arith, less)) (let same : checks sys t v ≤ checks sys t v = omega arith in same))

  -- its attempt restarts
  pub restarts-less : (v w : View) (place after : Place) → v.term.ending ≡ None → w.term.ending ≡ None
      → attempts n (sys.max_restarts t) w + 1 ≤ attempts n (sys.max_restarts t) v → left sys n m t w after < left sys n m t v place
  restarts-less v w place after live alive less =
      let one : attempts n (sys.max_restarts t) w + 1 ≡ suc (attempts n (sys.max_restarts t) w) = omega arith in
      let times : (attempts n (sys.max_restarts t) w + 1) * (stretch n m + 1) ≡ attempts n (sys.max_restarts t) w * (stretch n m + 1) + (stretch n m + 1) = rw one (omega arith) in
      omega (
        arith,
        live-left v place live,
        live-left w after alive,
        times,
        mul-le _ (stretch n m + 1) _ (stretch n m + 1) less (let same : stretch n m + 1 ≤ stretch n m + 1 = omega arith in same),
        ahead-few sys n m t w after,
      )

  -- it ends
  pub ends-less : (v w : View) (place after : Place) (e : Ending) → v.term.ending ≡ None → w.term.ending ≡ Some e → left sys n m t w after < left sys n m t v place
  ends-less v w place after e live dead =
      let none : left sys n m t w after ≡ 0 = ap (λ (o : Option Ending). unless_ended o (whole w after)) dead in
      omega (arith, live-left v place live, none)

  -- something fails
  pub fails-most : (v w : View) (place after : Place) → w.term.ending ≡ v.term.ending
      → attempts n (sys.max_restarts t) w ≤ attempts n (sys.max_restarts t) v → left sys n m t w after ≤ left sys n m t v place + stretch n m
  fails-most v w place after same few = by v.term.ending refl
    where
      by : (e : Option Ending) → v.term.ending ≡ e → left sys n m t w after ≤ left sys n m t v place + stretch n m
      by None live =
          omega (arith, live-left v place live, live-left w after (same ∙ live), mul-le _ (stretch n m + 1) _ (stretch n m + 1) few (let fits : stretch n m + 1 ≤ stretch n m + 1 = omega arith in fits), ahead-few sys n m t w after)
      by (Some e) dead = let none : left sys n m t w after ≡ 0 = ap (λ (o : Option Ending). unless_ended o (whole w after)) (same ∙ dead) in omega (arith, none)

  -- no more is ahead
  pub no-more : (v w : View) (place after : Place) → w.term.ending ≡ v.term.ending
      → attempts n (sys.max_restarts t) w ≤ attempts n (sys.max_restarts t) v → ahead sys n m t w after ≤ ahead sys n m t v place
      → left sys n m t w after ≤ left sys n m t v place
  no-more v w place after same few less = by v.term.ending refl
    where
      by : (e : Option Ending) → v.term.ending ≡ e → left sys n m t w after ≤ left sys n m t v place
      by None live =
          omega (arith, live-left v place live, live-left w after (same ∙ live), mul-le _ (stretch n m + 1) _ (stretch n m + 1) few (let fits : stretch n m + 1 ≤ stretch n m + 1 = omega arith in fits), less)
      by (Some e) dead = let none : left sys n m t w after ≡ 0 = ap (λ (o : Option Ending). unless_ended o (whole w after)) (same ∙ dead) in omega (arith, none)

  -- the backup takes over
  pub taken-over-most : (v w : View) (place after : Place) → v.mode ≡ Down → w.term.ending ≡ v.term.ending
      → attempts n (sys.max_restarts t) w ≤ attempts n (sys.max_restarts t) v → left sys n m t w after ≤ left sys n m t v place
  taken-over-most v w place after down same few =
      let all : ahead sys n m t v place ≡ stretch n m = ap (by_mode (stretch n m) (working n m v place) (checks sys t v)) down in
      no-more v w place after same few (let low = ahead-few sys n m t w after in omega (arith, all, low))

  -- a new backup is raised
  pub raised-most : (v : View) (place : Place) → v.mode ≡ Alone → left sys n m t (record v { mode = Raising; memory = None }) place ≤ left sys n m t v place
  raised-most v place alone =
      let w : View = record v { mode = Raising; memory = None } in
      let all : ahead sys n m t v place ≡ working n m v place + 4 = ap (by_mode (stretch n m) (working n m v place) (checks sys t v)) alone in
      no-more v w place place refl (let same : attempts n (sys.max_restarts t) v ≤ attempts n (sys.max_restarts t) v = omega arith in same)
      (omega (arith, all, checks-few sys n m t w))

  -- its pair may be up to date now
  pub settled-same : (v : View) (place : Place) (lacks : Bool) → left sys n m t (record v { mode = settled_mode v.mode lacks }) place ≡ left sys n m t v place
  settled-same v place lacks = ap (λ (k : ℕ). unless_ended v.term.ending (1 + attempts n (sys.max_restarts t) v * (stretch n m + 1) + k)) (by v.mode lacks)
    where
      by : (mode : PairMode) (lacks : Bool)
          → by_mode (stretch n m) (working n m v place) (checks sys t v) (settled_mode mode lacks) ≡ by_mode (stretch n m) (working n m v place) (checks sys t v) mode
      by Alone lacks = refl
      by Raising true = refl
      by Raising false = refl
      by Paired lacks = refl
      by Down lacks = refl
      by Gone lacks = refl
