-- What is noted of a terminal stays where the classes change for another one.
use Rattle.std.proofs.Common.{◌≡◌, ◌≢◌, ◌<◌, ◌+◌, ◌||◌, ℕ, zero, suc, Bool, true, false, List, [], ◌∷◌, Option, None, Some, get_or, length, map, replicate, set, refl, sym, ap, subst, ◌∙◌, arith}
use Rattle.std.specs.Prelude.{IsTrue, ◌==◌}
use Rattle.std.specs.List.{list_any}
use Rattle.std.proofs.lemmas.Bool.Decides.{nat_tests}
use Rattle.pw_code.specs.declared.system.ClassInfo.{ClassInfo}
use Rattle.pw_class.specs.Book.{first_queue, is_out, queue_at}
use Rattle.pw_class.specs.Places.{noted_place, AreNoted, IsRequestPlace}
use Rattle.pw_class.specs.Queue.{Queue, at_process, has_request, is_of, works_for}
use Rattle.pw_class.specs.declared.request.RequestPlace.{RequestPlace}
use Rattle.pw_class.specs.declared.request.RequestPlace.TheVariants.{Waiting, Busy}

-- two queues have the same of a terminal
pub record SameFor (terminal : ℕ) (old new : Queue) : Type 0 where
  pub waits : list_any (is_of terminal) old.waiting ≡ list_any (is_of terminal) new.waiting
  pub any : list_any (works_for terminal) old.busy ≡ list_any (works_for terminal) new.busy
  pub each : (process : ℕ) → works_for terminal (at_process old process) ≡ works_for terminal (at_process new process)

pub same-queue : (terminal : ℕ) (queue : Queue) → SameFor terminal queue queue
same-queue terminal queue = record { waits = refl; any = refl; each = λ process. refl }

has-same : (terminal : ℕ) (old new : Queue) → SameFor terminal old new → has_request terminal old ≡ has_request terminal new
has-same terminal old new same = rw (same.waits, same.any) refl

-- two books have the same of a terminal
pub record SameBook (terminal : ℕ) (old new : List Queue) : Type 0 where
  pub class : (class : ℕ) → SameFor terminal (queue_at old class) (queue_at new class)
  pub out : is_out old terminal ≡ is_out new terminal

pub book-set : (terminal : ℕ) (book : List Queue) (class : ℕ) (queue : Queue) → SameFor terminal (queue_at book class) queue
    → SameBook terminal book (set book class queue)
book-set terminal [] class queue same = record { class = λ k. same-queue terminal _; out = refl }
book-set terminal (first ∷ rest) zero queue same = record {
  class = elim [ zero ↦ same | suc k ↦ same-queue terminal _ ];
  out = ap (λ b. b || is_out rest terminal) (has-same terminal first queue same);
}
book-set terminal (first ∷ rest) (suc class) queue same =
    let behind = book-set terminal rest class queue same in
    record {
      class = elim [ zero ↦ same-queue terminal first | suc k ↦ behind.class k ];
      out = ap (λ b. has_request terminal first || b) behind.out;
    }

pub book-map : (terminal : ℕ) (change : Queue → Queue) → ((queue : Queue) → SameFor terminal queue (change queue)) → (book : List Queue)
    → SameBook terminal book (map change book)
book-map terminal change same [] = record { class = λ k. same-queue terminal _; out = refl }
book-map terminal change same (first ∷ rest) =
    let behind = book-map terminal change same rest in
    record {
      class = elim [ zero ↦ same first | suc k ↦ behind.class k ];
      out = rw (has-same terminal first (change first) (same first), behind.out) refl;
    }

same-place : (terminal : ℕ) (old new : List Queue) (place : Option RequestPlace) → SameBook terminal old new → IsRequestPlace old terminal place
    → IsRequestPlace new terminal place
same-place terminal old new None same is = sym same.out ∙ is
same-place terminal old new (Some (Waiting own)) same is = (refl, sym (same.class own).waits ∙ is.1)
same-place terminal old new (Some (Busy own process)) same is = (refl, sym ((same.class own).each process) ∙ is.1)

-- the places stay noted where the books have the same of all terminals but one, and of that one the new place is noted
pub still-noted : (old new : List Queue) (places placed : List (Option RequestPlace)) (terminal : ℕ) → AreNoted old places
    → ((other : ℕ) → other ≢ terminal → noted_place placed other ≡ noted_place places other)
    → ((other : ℕ) → other ≢ terminal → SameBook other old new)
    → IsRequestPlace new terminal (noted_place placed terminal)
    → AreNoted new placed
still-noted old new places placed terminal was others same here other = by_test (other == terminal) refl
  where
    by_test : (b : Bool) → (other == terminal) ≡ b → IsRequestPlace new other (noted_place placed other)
    by_test true e = let one : other ≡ terminal = grind (arith, nat_tests) in rw one here
    by_test false e =
        let apart : other ≢ terminal = grind (arith, nat_tests) in
        subst (IsRequestPlace new other) (sym (others other apart)) (same-place other old new _ (same other apart) (was other))

-- a terminal of which a request is out has room
pub room : (book : List Queue) (places : List (Option RequestPlace)) (terminal : ℕ) → AreNoted book places → is_out book terminal ≡ true
    → terminal < length places
room book places terminal was out = from places terminal (was terminal)
  where
    from : (places : List (Option RequestPlace)) (k : ℕ) → IsRequestPlace book terminal (noted_place places k) → k < length places
    from [] k none = absurd (cc (none, out))
    from (place ∷ rest) zero is = omega arith
    from (place ∷ rest) (suc k) is = let behind = from rest k is in omega (arith, behind)

-- a request that a class has is out
pub out-at : (terminal : ℕ) (book : List Queue) (class : ℕ) → has_request terminal (queue_at book class) ≡ true → is_out book terminal ≡ true
out-at terminal [] class has = absurd (cc has)
out-at terminal (first ∷ rest) zero has = rw has refl
out-at terminal (first ∷ rest) (suc class) has = or_right (has_request terminal first) (is_out rest terminal) (out-at terminal rest class has)
  where
    or_right : (a b : Bool) → b ≡ true → (a || b) ≡ true
    or_right true b h = refl
    or_right false b h = h

no-work : (terminal n : ℕ) → list_any (works_for terminal) (replicate n None) ≡ false
no-work terminal zero = refl
no-work terminal (suc n) = no-work terminal n

-- no request is out at first
pub first-out : (terminal : ℕ) (classes : List ClassInfo) → is_out (map first_queue classes) terminal ≡ false
first-out terminal [] = refl
first-out terminal (class ∷ rest) = rw (no-work terminal class.processes) (first-out terminal rest)
