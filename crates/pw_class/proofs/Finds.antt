-- Whether a place is found.
use Rattle.std.proofs.Common.{◌≡◌, ℕ, ◌+◌, ◌-◌, ◌<◌, ◌≤◌, ◌||◌, sym, List, length, get_or, Option, None, Some, Bool, true, false, refl, ap, ◌∙◌, arith}
use Rattle.std.specs.Prelude.{position, IfSome, IsTrue, is_some, ◌==◌}
use Rattle.std.specs.List.{list_any, position_or_len}
use Rattle.std.proofs.lemmas.Bool.Decides.{nat_tests}
use Rattle.std.proofs.lemmas.List.Folds.{list_any_none, list_any_at}
use Rattle.std.proofs.lemmas.List.Quantifiers.{position-Some}
use Rattle.std.proofs.lemmas.List.Sums.{fails_before_first}
use Rattle.std.proofs.lemmas.List.{get_or_default}
use Rattle.pw_base.proofs.Plain.{cond_none}
use Rattle.pw_class.specs.Book.{queue_at}
use Rattle.pw_class.specs.Places.{IsRequestPlace}
use Rattle.pw_class.specs.Queue.{Queue, is_of, works_for, at_process, has_request, IsIn}
use Rattle.pw_class.specs.declared.request.RequestPlace.{RequestPlace}
use Rattle.pw_class.specs.declared.request.RequestPlace.TheVariants.{Busy, Waiting}

-- where no place is found, none passes
pub none-each : {X : Type 0} (p : X → Bool) (xs : List X) → position p xs ≡ None → (k : ℕ) (d : X) → k < length xs → p (get_or xs k d) ≡ false
none-each p xs e k d lt =
    let past = cond_none _ _ e in
    let all : length xs ≤ position_or_len p xs = grind (arith, nat_tests, past) in
    fails_before_first p xs k d (omega arith)

pub none-any : {X : Type 0} (p : X → Bool) (xs : List X) → position p xs ≡ None → list_any p xs ≡ false
none-any p xs e = list_any_none p xs (none-each p xs e)

-- where one is found, it passes
pub some-any : {X : Type 0} (p : X → Bool) (xs : List X) (i : ℕ) (d : X) → position p xs ≡ Some i → list_any p xs ≡ true
some-any p xs i d e = let found = position-Some p xs i d e in list_any_at p xs i d found.0 found.1

-- where a process works for the terminal, the class has a request of it
pub has-some : (terminal : ℕ) (queue : Queue) (place : ℕ) → position (works_for terminal) queue.busy ≡ Some place → true ≡ has_request terminal queue
has-some terminal queue place e =
    sym (or_true (list_any (is_of terminal) queue.waiting) (list_any (works_for terminal) queue.busy) (some-any (works_for terminal) queue.busy place None e))
  where
    or_true : (a b : Bool) → b ≡ true → (a || b) ≡ true
    or_true true b h = refl
    or_true false b h = h

-- and it is at the process of that place
pub works-at : (terminal : ℕ) (queue : Queue) (place : ℕ) → position (works_for terminal) queue.busy ≡ Some place
    → IsTrue (works_for terminal (at_process queue (place + 1)))
works-at terminal queue place e =
    let found = position-Some (works_for terminal) queue.busy place None e in
    let number : (place + 1 == 0) ≡ false = grind (arith, nat_tests) in
    let before : place + 1 - 1 ≡ place = omega arith in
    rw (number, before) found.1

-- where none waits and no process works for the terminal, the class has no request of it
pub has-none : (terminal : ℕ) (queue : Queue) → list_any (is_of terminal) queue.waiting ≡ false → position (works_for terminal) queue.busy ≡ None
    → false ≡ has_request terminal queue
has-none terminal queue waits e = let works = none-any (works_for terminal) queue.busy e in rw (waits, works) refl

-- the place that the first class with a request tells is the terminal's
pub is-place : (terminal : ℕ) (book : List Queue) (class : ℕ) (queue : Queue) (result : Option RequestPlace) → position (has_request terminal) book ≡ Some class
    → queue ≡ get_or book class queue → is_some result ≡ has_request terminal queue → IfSome result (IsIn queue class terminal)
    → IsRequestPlace book terminal result
is-place terminal book class queue result e is found place =
    let at = position-Some (has_request terminal) book class queue e in
    let here : queue ≡ queue_at book class = is ∙ get_or_default book class queue _ at.0 in
    of result here (found ∙ (ap (has_request terminal) is ∙ at.1)) place
  where
    of : (result : Option RequestPlace) → queue ≡ queue_at book class → is_some result ≡ true → IfSome result (IsIn queue class terminal) → IsRequestPlace book terminal result
    of None here some place = absurd (cc some)
    of (Some (Waiting own)) here some place = (refl, rw (place.0, ← here) place.1)
    of (Some (Busy own process)) here some place = (refl, rw (place.0, ← here) place.1)
