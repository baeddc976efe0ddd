-- What is taken of a class.
use Rattle.std.proofs.Common.{◌≡◌, ◌≢◌, ℕ, ◌+◌, ◌-◌, ◌<◌, ◌≤◌, List, [], ◌∷◌, get_or, false, Option, None, Some, refl, sym, ap, subst, ◌∙◌, arith}
use Rattle.std.specs.Prelude.{All, IsSome, is_none, position, slice_get, ◌==◌, ◌↔◌}
use Rattle.std.proofs.lemmas.Bool.Decides.{nat_tests}
use Rattle.std.proofs.lemmas.List.Quantifiers.{position-Some}
use Rattle.pw_base.proofs.Plain.{is_none-None}
use Rattle.pw_class.specs.Queue.{Queue, at_process, free_place, taken, taken_of}
use Rattle.pw_class.specs.Taking.{IsFirstFree}
use Rattle.pw_class.specs.declared.request.Request.{Request}
use Rattle.pw_class.specs.declared.request.Taken.TheVariants.{Got, Empty, NoneFree}
use Rattle.pw_class.proofs.Finds.{none-each}

empty_of : (waiting : List Request) (free : Option ℕ) → taken_of waiting free ≡ Empty → waiting ≡ []
empty_of [] free e = refl
empty_of (request ∷ rest) None e = absurd (cc e)
empty_of (request ∷ rest) (Some place) e = absurd (cc e)

pub taken-Empty : (queue : Queue) → (taken queue ≡ Empty) ↔ (queue.waiting ≡ [])
taken-Empty queue = (empty_of queue.waiting (free_place queue), λ none. ap (λ waiting. taken_of waiting (free_place queue)) none)

none_free_of : (waiting : List Request) (free : Option ℕ) → taken_of waiting free ≡ NoneFree → (waiting ≢ []) × (free ≡ None)
none_free_of [] free e = absurd (cc e)
none_free_of (request ∷ rest) None e = (λ none. absurd (cc none), refl)
none_free_of (request ∷ rest) (Some place) e = absurd (cc e)

is_some_of : {X : Type 0} (work : Option X) → is_none work ≡ false → IsSome work
is_some_of None e = absurd (cc e)
is_some_of (Some x) e = refl

taken_none : (waiting : List Request) → waiting ≢ [] → taken_of waiting None ≡ NoneFree
taken_none [] some = absurd (some refl)
taken_none (request ∷ rest) some = refl

no_free : (busy : List (Option Request)) (free : Option ℕ) → position is_none busy ≡ free → All IsSome busy → free ≡ None
no_free busy None e all = refl
no_free busy (Some place) e all =
    let found = position-Some is_none busy place None e in
    let none : get_or busy place None ≡ None = is_none-None _ found.1 in
    let some : IsSome (get_or busy place None) = all place None found.0 in
    absurd (cc (none, some))

pub taken-NoneFree : (queue : Queue) → (taken queue ≡ NoneFree) ↔ ((queue.waiting ≢ []) × All IsSome queue.busy)
taken-NoneFree queue = (
  λ e.
      let parts = none_free_of queue.waiting (free_place queue) e in
      (parts.0, λ k d lt. is_some_of _ (none-each is_none queue.busy parts.1 k d lt)),
  λ h. ap (taken_of queue.waiting) (no_free queue.busy (free_place queue) refl h.1) ∙ taken_none queue.waiting h.0,
)

got_of : (waiting : List Request) (free : Option ℕ) (process : ℕ) (request : Request) → taken_of waiting free ≡ Got process request
    → (slice_get waiting 0 ≡ Some request) × ((place : ℕ) × (free ≡ Some place) × (process ≡ place + 1))
got_of [] free process request e = absurd (cc e)
got_of (first ∷ rest) None process request e = absurd (cc e)
got_of (first ∷ rest) (Some place) process request e =
    let one : first ≡ request = cc e in
    let number : place + 1 ≡ process = cc e in
    (ap Some one, (place, refl, sym number))

at_number : (queue : Queue) (process : ℕ) → 1 ≤ process → at_process queue process ≡ get_or queue.busy (process - 1) None
at_number queue process le = let no : (process == 0) ≡ false = grind (arith, nat_tests) in rw no refl

pub taken-Got : (queue : Queue) (process : ℕ) (request : Request) → taken queue ≡ Got process request
    → (slice_get queue.waiting 0 ≡ Some request) × IsFirstFree queue process
taken-Got queue process request e =
    let parts = got_of queue.waiting (free_place queue) process request e in
    let place = parts.1.0 in
    let number : process ≡ place + 1 = parts.1.2 in
    let found = position-Some is_none queue.busy place None parts.1.1 in
    let from_one : 1 ≤ process = omega arith in
    let before : process - 1 ≡ place = omega arith in (
      parts.0,
      record {
        from_one = from_one;
        there = omega (arith, found.0);
        free = at_number queue process from_one ∙ (ap (λ k. get_or queue.busy k None) before ∙ is_none-None _ found.1);
        smaller_busy = λ other le lt.
            let below : other - 1 < place = omega arith in
            subst IsSome (sym (at_number queue other le)) (is_some_of _ (found.2 (other - 1) below));
      },
    )
