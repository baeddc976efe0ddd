-- Each actor has a place of its own, so what is noted of one is noted of no other.
use Rattle.std.proofs.Common.{◌≡◌, ◌≢◌, ℕ, ◌+◌, ◌-◌, ◌<◌, ◌≤◌, Bool, true, false, List, length, Some, None, ⊎_elim, rules, subst, sym, ap, ap₂, ◌∙◌, arith}
use Rattle.std.specs.Prelude.{slice_set, slice_index_or}
use Rattle.std.proofs.Math.Path.{fun_ext}
use Rattle.std.proofs.lemmas.Bool.{cases_Bool, cond-true, cond-false}
use Rattle.std.proofs.lemmas.List.{get_or-set_same, get_or-set_other, get_or_default}
use Rattle.std.specs.Prelude.{position, replicate}
use Rattle.std.specs.List.{position_or_len}
use Rattle.std.proofs.lemmas.Bool.Decides.{nat_tests}
use Rattle.std.proofs.lemmas.Bool.{cases_lt}
use Rattle.std.proofs.lemmas.List.{get_or-drop, get_or-replicate, get_or_past, length-drop, length-replicate}
use Rattle.std.proofs.lemmas.List.Quantifiers.{position-Some}
use Rattle.std.proofs.lemmas.List.Sums.{fails_before_first}
use Rattle.std.specs.Prelude.{IfSome, Option, if◌then◌else◌, drop, nat_le, take, ◌++◌}
use Rattle.std.specs.List.{sum_by}
use Rattle.std.proofs.lemmas.List.{take-append-le, take_all}
use Rattle.std.proofs.lemmas.List.Sums.{sum_by-set}
use Rattle.pw_base.proofs.Plain.{cond_none}
use Rattle.pw_actor_queue.specs.Line.{ComesNext, IsNearest, TakesTurn, RosterState, first_in_line, line_behind, steps_ahead, waits_at}
use Rattle.pw_actor_queue.specs.Places.{all_marked, blank, is_waiting, is_placed, is_same_actor, actor_noted, notes_in, actor_place, waiting, with_mark}
use Rattle.pw_actor_queue.specs.declared.actor.Actor.{Actor}
use Rattle.pw_actor_queue.specs.declared.actor.Actor.TheVariants.{Terminal, Process, Pair, Class}
use Rattle.pw_actor_queue.specs.declared.roster.ActorNote.{ActorNote}

-- two actors that are one are equal
pub same-is : (a b : Actor) → is_same_actor a b ≡ true → a ≡ b
same-is (Terminal t) (Terminal u) e = let h : t ≡ u = grind arith in ap Terminal h
same-is (Terminal t) (Process d j) e = search rules
same-is (Terminal t) (Pair q) e = search rules
same-is (Terminal t) (Class d) e = search rules
same-is (Process c i) (Terminal u) e = search rules
same-is (Process c i) (Process d j) e = let h : c ≡ d = grind arith in let k : i ≡ j = grind arith in ap (Process c) k ∙ ap (λ x. Process x j) h
same-is (Process c i) (Pair q) e = search rules
same-is (Process c i) (Class d) e = search rules
same-is (Pair p) (Terminal u) e = search rules
same-is (Pair p) (Process d j) e = search rules
same-is (Pair p) (Pair q) e = let h : p ≡ q = grind arith in ap Pair h
same-is (Pair p) (Class d) e = search rules
same-is (Class c) (Terminal u) e = search rules
same-is (Class c) (Process d j) e = search rules
same-is (Class c) (Pair q) e = search rules
same-is (Class c) (Class d) e = let h : c ≡ d = grind arith in ap Class h

-- two actors with one place are one
placed-apart : (a b : Actor) → is_placed a ≡ true → is_placed b ≡ true → actor_place a ≡ actor_place b → is_same_actor a b ≡ true
placed-apart (Terminal t) (Terminal u) low low' e = grind arith
placed-apart (Terminal t) (Process d j) low low' e = grind arith
placed-apart (Terminal t) (Pair q) low low' e = grind arith
placed-apart (Terminal t) (Class d) low low' e = grind arith
placed-apart (Process c i) (Terminal u) low low' e = grind arith
placed-apart (Process c i) (Process d j) low low' e = grind arith
placed-apart (Process c i) (Pair q) low low' e = grind arith
placed-apart (Process c i) (Class d) low low' e = grind arith
placed-apart (Pair p) (Terminal u) low low' e = grind arith
placed-apart (Pair p) (Process d j) low low' e = grind arith
placed-apart (Pair p) (Pair q) low low' e = grind arith
placed-apart (Pair p) (Class d) low low' e = grind arith
placed-apart (Class c) (Terminal u) low low' e = grind arith
placed-apart (Class c) (Process d j) low low' e = grind arith
placed-apart (Class c) (Pair q) low low' e = grind arith
placed-apart (Class c) (Class d) low low' e = grind arith

-- what is noted at a place
notes-at : (notes : List ActorNote) (a : Actor) → is_placed a ≡ true → notes_in notes a ≡ slice_index_or notes (actor_place a) blank
notes-at notes a placed = cond-true (is_placed a) _ _ placed

-- the note of another actor is left
other-note : (notes : List ActorNote) (a b : Actor) (new : ActorNote) → is_placed a ≡ true → is_same_actor b a ≡ false
    → notes_in (slice_set notes (actor_place a) new) b ≡ notes_in notes b
other-note notes a b new placed ne =
    ⊎_elim
    (λ there.
    let apart : actor_place b ≢ actor_place a = λ e. let is : is_same_actor b a ≡ true = placed-apart b a there placed e in cc (is, ne) in
    notes-at (slice_set notes (actor_place a) new) b there ∙ (get_or-set_other notes (actor_place a) (actor_place b) new blank apart ∙ sym (notes-at notes b there)))
    (λ missing. cond-false (is_placed b) _ _ missing ∙ sym (cond-false (is_placed b) _ _ missing))
    (cases_Bool (is_placed b))

-- one note is changed
pub note-changed : (change : ActorNote → ActorNote) (notes : List ActorNote) (a : Actor) (n : ℕ) (old new : ActorNote) → length notes ≡ 408 → is_placed a ≡ true
    → n ≡ actor_place a → n < 408 → old ≡ slice_index_or notes n old → new ≡ change old
    → notes_in (slice_set notes n new) ≡ actor_noted a change (notes_in notes)
note-changed change notes a n old new size placed at low is made = fun_ext (λ b.
    ⊎_elim
    (λ same.
    let one : b ≡ a = same-is b a same in
    let lt : n < length notes = omega (arith, size, low) in
    let was : old ≡ notes_in notes a =
    is ∙ (get_or_default notes n old blank lt ∙ (ap (λ k. slice_index_or notes k blank) at ∙ sym (notes-at notes a placed))) in
    let read : notes_in (slice_set notes n new) a ≡ new =
    notes-at (slice_set notes n new) a placed
    ∙ (ap (λ k. slice_index_or (slice_set notes n new) k blank) (sym at) ∙ get_or-set_same notes n new blank lt) in
    let there : actor_noted a change (notes_in notes) b ≡ change (notes_in notes b) = cond-true (is_same_actor b a) _ _ same in
    ap (notes_in (slice_set notes n new)) one
    ∙ (read ∙ (made ∙ (ap change was ∙ (ap (λ x. change (notes_in notes x)) (sym one) ∙ sym there)))))
    (λ ne.
    ap (λ k. notes_in (slice_set notes k new) b) at
    ∙ (other-note notes a b new placed ne ∙ sym (cond-false (is_same_actor b a) _ _ ne)))
    (cases_Bool (is_same_actor b a)))

-- ---- at first

-- a list of blanks has a blank at each place
blank-at : (n k : ℕ) → slice_index_or (replicate n blank) k blank ≡ blank
blank-at n k =
    ⊎_elim
    (λ low. get_or-replicate n k blank blank low)
    (λ high. get_or_past (replicate n blank) k blank (omega (arith, length-replicate n blank, high)))
    (cases_lt k n)

pub all-blank : (notes : List ActorNote) → notes ≡ replicate 408 blank → notes_in notes ≡ (λ actor. blank)
all-blank notes is = fun_ext (λ a.
    ap (λ ns. notes_in ns a) is
    ∙ ⊎_elim
    (λ there. notes-at (replicate 408 blank) a there ∙ blank-at 408 (actor_place a))
    (λ missing. cond-false (is_placed a) _ _ missing)
    (cases_Bool (is_placed a)))

-- ---- the first that waits

-- each place is below their number
place-low : (a : Actor) → is_placed a ≡ true → actor_place a < 408
place-low (Terminal t) e = grind arith
place-low (Process c i) e = grind arith
place-low (Pair p) e = grind arith
place-low (Class c) e = grind arith

-- ---- the nearest in the round

-- the search from where the round stands is one of all behind it
pub from-round : (notes : List ActorNote) (round : ℕ) (result : Option ℕ) → result ≡ position is_waiting (take (length notes - round) (drop round notes))
    → position is_waiting (drop round notes) ≡ result
from-round notes round result found =
    let whole = take_all (length notes - round) (drop round notes) (omega (arith, length-drop round notes)) in
    ap (position is_waiting) (sym whole) ∙ sym found

-- where no note waits from a place on, one that waits is before it
before : (notes : List ActorNote) (round k : ℕ) → position is_waiting (drop round notes) ≡ None → waits_at notes k ≡ true → k < length notes → k < round
before notes round k none waits lt =
    ⊎_elim
    (λ low. low)
    (λ high.
    let at : round + (k - round) ≡ k = omega (arith, high) in
    let rest = drop round notes in
    let past = cond_none _ _ none in
    let all : length rest ≤ position_or_len is_waiting rest = grind (arith, nat_tests, past) in
    let near : k - round < position_or_len is_waiting rest = omega (arith, all, high, lt, length-drop round notes) in
    let rests : waits_at notes k ≡ false =
    ap (λ n. is_waiting (slice_index_or notes n blank)) (sym at)
    ∙ (ap is_waiting (sym (get_or-drop round notes (k - round) blank)) ∙ fails_before_first is_waiting rest (k - round) blank near) in
    absurd (cc (waits, rests)))
    (cases_lt k round)

-- nobody waits where the search finds nobody
pub nobody-waits : (notes : List ActorNote) (k : ℕ) → position is_waiting notes ≡ None → waits_at notes k ≡ false
nobody-waits notes k none =
    let past = cond_none _ _ none in
    let all : length notes ≤ position_or_len is_waiting notes = grind (arith, nat_tests, past) in
    ⊎_elim
    (λ low. fails_before_first is_waiting notes k blank (omega (arith, all, low)))
    (λ high. ap is_waiting (get_or_past notes k blank high))
    (cases_lt k (length notes))

-- how far ahead a place is that is not below where the round stands, and one that is
steps-over : (round place : ℕ) → round ≤ place → steps_ahead round place ≡ place - round
steps-over round place high =
    let test : nat_le round place ≡ true = grind (arith, nat_tests, high) in
    cond-true (nat_le round place) (place - round) (place + 408 - round) test

steps-under : (round place : ℕ) → place < round → steps_ahead round place ≡ place + 408 - round
steps-under round place low =
    let test : nat_le round place ≡ false = grind (arith, nat_tests, low) in
    cond-false (nat_le round place) (place - round) (place + 408 - round) test

-- what is found from where the round stands waits
pub waits-ahead : (notes : List ActorNote) (round ahead : ℕ) → position is_waiting (drop round notes) ≡ Some ahead
    → (ahead < length (drop round notes)) × (waits_at notes (round + ahead) ≡ true)
waits-ahead notes round ahead e =
    let first = position-Some is_waiting (drop round notes) ahead blank e in
    (first.0, ap is_waiting (sym (get_or-drop round notes ahead blank)) ∙ first.1)

-- and is the nearest
pub nearest-ahead : (notes : List ActorNote) (round ahead : ℕ) → length notes ≡ 408
    → position is_waiting (drop round notes) ≡ Some ahead → IsNearest notes round (round + ahead)
nearest-ahead notes round ahead size e other lt waits =
    let first = position-Some is_waiting (drop round notes) ahead blank e in
    let own : steps_ahead round (round + ahead) ≡ round + ahead - round = steps-over round (round + ahead) (omega arith) in
    ⊎_elim
    (λ low.
    let steps : steps_ahead round other ≡ other + 408 - round = steps-under round other low in
    let within : ahead < length (drop round notes) = first.0 in
    let long : length (drop round notes) ≡ length notes - round = length-drop round notes in
    omega (arith, own, steps, within, long, size))
    (λ high.
    let steps : steps_ahead round other ≡ other - round = steps-over round other high in
    let le : ahead ≤ other - round =
    ⊎_elim
    (λ less.
    let at : round + (other - round) ≡ other = omega (arith, high) in
    let rests : waits_at notes other ≡ false =
    ap (λ n. is_waiting (slice_index_or notes n blank)) (sym at)
    ∙ (ap is_waiting (sym (get_or-drop round notes (other - round) blank)) ∙ first.2 (other - round) less) in
    absurd (cc (waits, rests)))
    (λ more. more)
    (cases_lt (other - round) ahead) in
    omega (arith, own, steps, le))
    (cases_lt other round)

-- the first of all waits, and is the nearest where none waits from where the round stands
pub waits-first : (notes : List ActorNote) (place : ℕ) → position is_waiting notes ≡ Some place
    → (place < length notes) × (waits_at notes place ≡ true)
waits-first notes place e =
    let first = position-Some is_waiting notes place blank e in
    (first.0, first.1)

pub nearest-first : (notes : List ActorNote) (round place : ℕ) → length notes ≡ 408 → position is_waiting (drop round notes) ≡ None
    → position is_waiting notes ≡ Some place → IsNearest notes round place
nearest-first notes round place size none e other lt waits =
    let first = position-Some is_waiting notes place blank e in
    let own-low : place < round = before notes round place none first.1 first.0 in
    let low : other < round = before notes round other none waits (omega (arith, size, lt)) in
    let own : steps_ahead round place ≡ place + 408 - round = steps-under round place own-low in
    let steps : steps_ahead round other ≡ other + 408 - round = steps-under round other low in
    let le : place ≤ other =
    ⊎_elim (λ less. let rests : waits_at notes other ≡ false = first.2 other less in absurd (cc (waits, rests))) (λ more. more) (cases_lt other place) in
    omega (arith, own, steps, le)

-- the same of what the search finds, if it finds one
pub found-waits : (notes : List ActorNote) (result : Option ℕ) → result ≡ position is_waiting notes → IfSome result (λ place. waits_at notes place ≡ true)
found-waits notes None is = tt
found-waits notes (Some place) is = (waits-first notes place (sym is)).1

pub found-nearest : (notes : List ActorNote) (round : ℕ) (result : Option ℕ) → length notes ≡ 408 → position is_waiting (drop round notes) ≡ None
    → result ≡ position is_waiting notes → IfSome result (IsNearest notes round)
found-nearest notes round None size none is = tt
found-nearest notes round (Some place) size none is = nearest-first notes round place size none (sym is)

-- ---- who comes

-- where no place waits, no actor does
pub none-waits : (notes : List ActorNote) → ((place : ℕ) → waits_at notes place ≡ false) → (a : Actor) → is_waiting (notes_in notes a) ≡ false
none-waits notes none a =
    ⊎_elim
    (λ there. ap is_waiting (notes-at notes a there) ∙ none (actor_place a))
    (λ missing. ap is_waiting (cond-false (is_placed a) (slice_index_or notes (actor_place a) blank) blank missing))
    (cases_Bool (is_placed a))

-- the actor of a place that waits does
pub one-waits : (notes : List ActorNote) (a : Actor) (place : ℕ) → waits_at notes place ≡ true → is_placed a ≡ true → actor_place a ≡ place
    → is_waiting (notes_in notes a) ≡ true
one-waits notes a place waits placed at = ap is_waiting (notes-at notes a placed ∙ ap (λ k. slice_index_or notes k blank) at) ∙ waits

pub turn-of-line : (old : RosterState) (a : Actor) (place : ℕ) (line : List ℕ) → first_in_line old ≡ Some place → line ≡ line_behind old → actor_place a ≡ place
    → TakesTurn old (Some a) (record old { line = line; passed = old.passed + 1 })
turn-of-line old a place line first behind at =
    subst (λ o. ComesNext o old (Some a) (record old { line = line; passed = old.passed + 1 })) (sym first)
    (at, ap (λ l. record old { line = l; passed = old.passed + 1 }) behind)

pub turn-of-round : (old : RosterState) (a : Actor) (place : ℕ) (line : List ℕ) → first_in_line old ≡ None → line ≡ line_behind old → actor_place a ≡ place
    → IsNearest old.notes old.round place → TakesTurn old (Some a) (record old { line = line; round = place + 1; passed = 0 })
turn-of-round old a place line first behind at nearest =
    subst (λ o. ComesNext o old (Some a) (record old { line = line; round = place + 1; passed = 0 })) (sym first) (
      subst (IsNearest old.notes old.round) (sym at) nearest,
      ap₂ (λ l n. record old { line = l; round = n + 1; passed = 0 }) behind (sym at),
    )

pub turn-of-none : (old : RosterState) (line : List ℕ) → first_in_line old ≡ None → line ≡ line_behind old
    → TakesTurn old None (record old { line = line; passed = 0 })
turn-of-none old line first behind =
    subst (λ o. ComesNext o old None (record old { line = line; passed = 0 })) (sym first)
    (ap (λ l. record old { line = l; passed = 0 }) behind)

-- where each note is marked, marking them all changes none
pub marked-already : (notes : List ActorNote) → ((k : ℕ) → k < 408 → (slice_index_or notes k blank).marked ≡ true)
    → notes_in notes ≡ all_marked (notes_in notes)
marked-already notes marks = fun_ext (λ a.
    ⊎_elim
    (λ there.
    let own = marks (actor_place a) (place-low a there) in
    let is : (notes_in notes a).marked ≡ true = ap (λ (n : ActorNote). n.marked) (notes-at notes a there) ∙ own in
    ap (λ b. record (notes_in notes a) { marked = b }) is
    ∙ sym (cond-true (is_placed a) (with_mark true (notes_in notes a)) (notes_in notes a) there))
    (λ missing. sym (cond-false (is_placed a) (with_mark true (notes_in notes a)) (notes_in notes a) missing))
    (cases_Bool (is_placed a)))

-- ---- marks

-- where an actor that waits does so no more, fewer wait
pub fewer-wait : (notes : List ActorNote) (a : Actor) (n : ℕ) (new : ActorNote) → length notes ≡ 408 → is_placed a ≡ true → n ≡ actor_place a → n < 408
    → is_waiting new ≡ false → is_waiting (notes_in notes a) ≡ true → waiting (slice_set notes n new) < waiting notes
fewer-wait notes a n new size placed at low rests waits =
    let f : ActorNote → ℕ = λ (note : ActorNote). if is_waiting note then 1 else 0 in
    let was : is_waiting (slice_index_or notes n blank) ≡ true =
    ap is_waiting (ap (λ k. slice_index_or notes k blank) at ∙ sym (notes-at notes a placed)) ∙ waits in
    let one : f (slice_index_or notes n blank) ≡ 1 = ap (λ (b : Bool). if b then 1 else 0) was in
    let none : f new ≡ 0 = ap (λ (b : Bool). if b then 1 else 0) rests in
    let lt : n < length notes = omega (arith, size, low) in
    let total : sum_by f (slice_set notes n new) + f (slice_index_or notes n blank) ≡ sum_by f notes + f new =
    sum_by-set f notes n new blank lt in
    let less : sum_by f (slice_set notes n new) < sum_by f notes = omega (arith, total, one, none) in
    less

-- every note is marked
pub marked-everywhere : (notes new : List ActorNote) → length notes ≡ 408
    → ((k : ℕ) → k < length notes → slice_index_or new k blank ≡ with_mark true (slice_index_or notes k blank))
    → notes_in new ≡ all_marked (notes_in notes)
marked-everywhere notes new size marks = fun_ext (λ a.
    ⊎_elim
    (λ there.
    let low : actor_place a < length notes = let below = place-low a there in omega (arith, size, below) in
    notes-at new a there
    ∙ (marks (actor_place a) low
    ∙ (ap (with_mark true) (sym (notes-at notes a there))
    ∙ sym (cond-true (is_placed a) (with_mark true (notes_in notes a)) (notes_in notes a) there))))
    (λ missing.
    cond-false (is_placed a) (slice_index_or new (actor_place a) blank) blank missing
    ∙ (sym (cond-false (is_placed a) (slice_index_or notes (actor_place a) blank) blank missing)
    ∙ sym (cond-false (is_placed a) (with_mark true (notes_in notes a)) (notes_in notes a) missing)))
    (cases_Bool (is_placed a)))

-- what was written back whole is all that there is
pub written-whole : (n : ℕ) (new rest : List ActorNote) → n ≡ length new → take n (new ++ rest) ≡ new
written-whole n new rest is =
    let le : n ≤ length new = omega arith in
    let ge : length new ≤ n = omega arith in
    take-append-le n new rest le ∙ take_all n new ge
