-- What a class has of one terminal, where a request of another one comes, is taken, replied or cancelled.
use Rattle.std.proofs.Common.{◌≡◌, ◌≢◌, ◌<◌, ◌≤◌, ◌+◌, ◌-◌, ◌||◌, ◌++◌, ℕ, zero, suc, Bool, true, false, not, cond, List, [], ◌∷◌, Option, None, Some, get_or, length, map, set, refl, sym, ap, subst, ◌∙◌, arith}
use Rattle.std.specs.Prelude.{IsSome, ◌==◌, filter, is_none, is_some, position}
use Rattle.std.specs.List.{list_any}
use Rattle.std.proofs.lemmas.Bool.Decides.{nat_tests}
use Rattle.std.proofs.lemmas.List.{get_or-set_same}
use Rattle.std.proofs.lemmas.List.Folds.{list_any-append}
use Rattle.std.proofs.lemmas.List.Quantifiers.{position-Some}
use Rattle.pw_base.proofs.Plain.{or-false}
use Rattle.pw_class.specs.Book.{is_out, queue_at}
use Rattle.pw_class.specs.Places.{AreNoted, IsRequestPlace, noted_place}
use Rattle.pw_class.specs.Queue.{Queue, after_take, after_take_of, at_process, busy_without, free_place, has_request, is_of, taken, taken_of, with_free, with_request, without, works_for}
use Rattle.pw_class.specs.declared.request.RequestPlace.{RequestPlace}
use Rattle.pw_class.specs.declared.request.RequestPlace.TheVariants.{Busy, Waiting}
use Rattle.pw_class.specs.declared.request.Request.{Request}
use Rattle.pw_class.specs.declared.request.Taken.TheVariants.{Got, Empty, NoneFree}
use Rattle.pw_class.proofs.Noting.{SameBook, SameFor, book-map, book-set, out-at, room, same-queue, still-noted}

-- the test of a process's work, where one place changes and passes as before
set-each : {X : Type 0} (p : X → Bool) (xs : List X) (i : ℕ) (y d : X) → p (get_or xs i d) ≡ p y → (k : ℕ)
    → p (get_or xs k d) ≡ p (get_or (set xs i y) k d)
set-each p [] i y d same k = refl
set-each p (x ∷ xs) zero y d same zero = same
set-each p (x ∷ xs) zero y d same (suc k) = refl
set-each p (x ∷ xs) (suc i) y d same zero = refl
set-each p (x ∷ xs) (suc i) y d same (suc k) = set-each p xs i y d same k

set-any : {X : Type 0} (p : X → Bool) (xs : List X) (i : ℕ) (y d : X) → p (get_or xs i d) ≡ p y
    → list_any p xs ≡ list_any p (set xs i y)
set-any p [] i y d same = refl
set-any p (x ∷ xs) zero y d same = ap (λ b. b || list_any p xs) same
set-any p (x ∷ xs) (suc i) y d same = ap (λ b. p x || b) (set-any p xs i y d same)

at-same : (terminal : ℕ) (old new : Queue) → ((k : ℕ) → works_for terminal (get_or old.busy k None) ≡ works_for terminal (get_or new.busy k None))
    → (process : ℕ) → works_for terminal (at_process old process) ≡ works_for terminal (at_process new process)
at-same terminal old new same zero = refl
at-same terminal old new same (suc k) = let past : (suc k == 0) ≡ false = grind (arith, nat_tests) in rw past (same (suc k - 1))

at-number : (queue : Queue) (k : ℕ) → at_process queue (suc k) ≡ get_or queue.busy (suc k - 1) None
at-number queue k = let past : (suc k == 0) ≡ false = grind (arith, nat_tests) in rw past refl

-- the work of one process changes, and is for the terminal neither before nor after
busy-set : (terminal : ℕ) (queue : Queue) (place : ℕ) (work : Option Request) → works_for terminal (get_or queue.busy place None) ≡ works_for terminal work
    → SameFor terminal queue (record queue { busy = set queue.busy place work })
busy-set terminal queue place work same = record {
  waits = refl;
  any = set-any (works_for terminal) queue.busy place work None same;
  each = at-same terminal queue (record queue { busy = set queue.busy place work }) (set-each (works_for terminal) queue.busy place work None same);
}

pub put-same : (terminal : ℕ) (queue : Queue) (request : Request) → is_of terminal request ≡ false → SameFor terminal queue (with_request queue request)
put-same terminal queue request differs = record {
  waits = sym (list_any-append (is_of terminal) queue.waiting (request ∷ []) ∙ rw differs (or-false _));
  any = refl;
  each = λ process. refl;
}

pub take-same : (terminal : ℕ) (queue : Queue) (process : ℕ) (request : Request) → taken queue ≡ Got process request → is_of terminal request ≡ false
    → SameFor terminal queue (after_take queue)
take-same terminal queue process request e differs = of queue.waiting (free_place queue) refl refl e
  where
    of : (waiting : List Request) (free : Option ℕ) → queue.waiting ≡ waiting → free_place queue ≡ free → taken_of waiting free ≡ Got process request
        → SameFor terminal queue (after_take_of queue waiting free)
    of [] free w f e = absurd (cc e)
    of (first ∷ rest) None w f e = absurd (cc e)
    of (first ∷ rest) (Some place) w f e =
        let one : first ≡ request = cc e in
        let other : is_of terminal first ≡ false = rw one differs in
        let found = position-Some is_none queue.busy place None f in
        let free : works_for terminal (get_or queue.busy place None) ≡ works_for terminal (Some first) = is_free _ found.1 ∙ sym other in
        let busy = busy-set terminal queue place (Some first) free in
        record {
          waits = ap (list_any (is_of terminal)) w ∙ ap (λ b. b || list_any (is_of terminal) rest) other;
          any = busy.any;
          each = busy.each;
        }
      where
        is_free : (work : Option Request) → is_none work ≡ true → works_for terminal work ≡ false
        is_free None e = refl
        is_free (Some r) e = absurd (cc e)

pub free-same : (terminal : ℕ) (queue : Queue) (process : ℕ) (request : Request) → at_process queue process ≡ Some request → is_of terminal request ≡ false
    → SameFor terminal queue (with_free queue process)
free-same terminal queue zero request e differs = absurd (cc e)
free-same terminal queue (suc k) request e differs =
    busy-set terminal queue (suc k - 1) None (ap (works_for terminal) (sym (at-number queue k) ∙ e) ∙ differs)

filter-any : (terminal gone : ℕ) → terminal ≢ gone → (xs : List Request)
    → list_any (is_of terminal) xs ≡ list_any (is_of terminal) (filter (λ request. not (is_of gone request)) xs)
filter-any terminal gone apart [] = refl
filter-any terminal gone apart (x ∷ xs) = of (is_of gone x) refl (filter-any terminal gone apart xs)
  where
    of : (b : Bool) → is_of gone x ≡ b
        → list_any (is_of terminal) xs ≡ list_any (is_of terminal) (filter (λ request. not (is_of gone request)) xs)
        → (is_of terminal x || list_any (is_of terminal) xs)
        ≡ list_any (is_of terminal) (cond (not b) (x ∷ filter (λ request. not (is_of gone request)) xs) (filter (λ request. not (is_of gone request)) xs))
    of true e behind = let other : is_of terminal x ≡ false = grind (arith, nat_tests) in rw other behind
    of false e behind = ap (λ b. is_of terminal x || b) behind

work-kept : (terminal gone : ℕ) → terminal ≢ gone → (work : Option Request) → works_for terminal work ≡ works_for terminal (busy_without gone work)
work-kept terminal gone apart None = refl
work-kept terminal gone apart (Some request) = of (is_of gone request) refl
  where
    of : (b : Bool) → is_of gone request ≡ b → is_of terminal request ≡ works_for terminal (cond b None (Some request))
    of true e = grind (arith, nat_tests)
    of false e = refl

map-any : {X Y : Type 0} (p : X → Bool) (q : Y → Bool) (f : X → Y) → ((x : X) → p x ≡ q (f x)) → (xs : List X) → list_any p xs ≡ list_any q (map f xs)
map-any p q f same [] = refl
map-any p q f same (x ∷ xs) = rw (same x, map-any p q f same xs) refl

map-each : (terminal gone : ℕ) → terminal ≢ gone → (busy : List (Option Request)) (k : ℕ)
    → works_for terminal (get_or busy k None) ≡ works_for terminal (get_or (map (busy_without gone) busy) k None)
map-each terminal gone apart [] k = refl
map-each terminal gone apart (work ∷ rest) zero = work-kept terminal gone apart work
map-each terminal gone apart (work ∷ rest) (suc k) = map-each terminal gone apart rest k

pub cancel-same : (terminal gone : ℕ) → terminal ≢ gone → (queue : Queue) → SameFor terminal queue (without gone queue)
cancel-same terminal gone apart queue = record {
  waits = filter-any terminal gone apart queue.waiting;
  any = map-any _ _ (busy_without gone) (work-kept terminal gone apart) queue.busy;
  each = at-same terminal queue (without gone queue) (map-each terminal gone apart queue.busy);
}

none-left : (terminal : ℕ) (xs : List Request) → list_any (is_of terminal) (filter (λ request. not (is_of terminal request)) xs) ≡ false
none-left terminal [] = refl
none-left terminal (x ∷ xs) = of (is_of terminal x) refl (none-left terminal xs)
  where
    of : (b : Bool) → is_of terminal x ≡ b → list_any (is_of terminal) (filter (λ request. not (is_of terminal request)) xs) ≡ false
        → list_any (is_of terminal) (cond (not b) (x ∷ filter (λ request. not (is_of terminal request)) xs) (filter (λ request. not (is_of terminal request)) xs)) ≡ false
    of true e behind = behind
    of false e behind = rw e behind

none-busy : (terminal : ℕ) (busy : List (Option Request)) → list_any (works_for terminal) (map (busy_without terminal) busy) ≡ false
none-busy terminal [] = refl
none-busy terminal (None ∷ rest) = none-busy terminal rest
none-busy terminal (Some request ∷ rest) = of (is_of terminal request) refl (none-busy terminal rest)
  where
    of : (b : Bool) → is_of terminal request ≡ b → list_any (works_for terminal) (map (busy_without terminal) rest) ≡ false
        → (works_for terminal (cond b None (Some request)) || list_any (works_for terminal) (map (busy_without terminal) rest)) ≡ false
    of true e behind = behind
    of false e behind = rw e behind

-- differs request of a terminal is out that was cancelled
pub none-out : (terminal : ℕ) (book : List Queue) → is_out (map (without terminal) book) terminal ≡ false
none-out terminal [] = refl
none-out terminal (queue ∷ rest) = rw (none-left terminal queue.waiting, none-busy terminal queue.busy) (none-out terminal rest)

-- a request that was put waits
pub put-waits : (terminal : ℕ) (book : List Queue) (class : ℕ) (request : Request) → class < length book → is_of terminal request ≡ true
    → list_any (is_of terminal) (queue_at (set book class (with_request (queue_at book class) request)) class).waiting ≡ true
put-waits terminal book class request lt one =
    rw (get_or-set_same book class (with_request (queue_at book class) request) (record { waiting = []; busy = [] }) lt)
    (list_any-append (is_of terminal) (queue_at book class).waiting (request ∷ []) ∙ rw one (or_true _))
  where
    or_true : (b : Bool) → (b || true) ≡ true
    or_true true = refl
    or_true false = refl

-- a request that was taken is at its process
pub take-works : (terminal : ℕ) (book : List Queue) (class process : ℕ) (request : Request) → taken (queue_at book class) ≡ Got process request
    → is_of terminal request ≡ true
    → works_for terminal (at_process (queue_at (set book class (after_take (queue_at book class))) class) process) ≡ true
take-works terminal [] class process request e one = absurd (cc e)
take-works terminal (queue ∷ rest) zero process request e one = of queue.waiting (free_place queue) refl e
  where
    of : (waiting : List Request) (free : Option ℕ) → free_place queue ≡ free → taken_of waiting free ≡ Got process request
        → works_for terminal (at_process (after_take_of queue waiting free) process) ≡ true
    of [] free f e = absurd (cc e)
    of (first ∷ behind) None f e = absurd (cc e)
    of (first ∷ behind) (Some place) f e =
        let is : first ≡ request = cc e in
        let number : place + 1 ≡ process = cc e in
        let found = position-Some is_none queue.busy place None f in
        let past : (process == 0) ≡ false = grind (arith, nat_tests) in
        let before : process - 1 ≡ place = omega arith in
        rw (past, before, get_or-set_same queue.busy place (Some first) None found.0, is) one
take-works terminal (queue ∷ rest) (suc class) process request e one = take-works terminal rest class process request e one

-- a class has the request that is taken of it
pub taken-has : (terminal : ℕ) (queue : Queue) (process : ℕ) (request : Request) → taken queue ≡ Got process request → is_of terminal request ≡ true
    → has_request terminal queue ≡ true
taken-has terminal queue process request e one = of queue.waiting (free_place queue) refl e
  where
    of : (waiting : List Request) (free : Option ℕ) → queue.waiting ≡ waiting → taken_of waiting free ≡ Got process request → has_request terminal queue ≡ true
    of [] free w e = absurd (cc e)
    of (first ∷ behind) None w e = absurd (cc e)
    of (first ∷ behind) (Some place) w e = let is : first ≡ request = cc e in rw (w, is, one) refl

-- and the one on which a process works
pub busy-has : (terminal : ℕ) (queue : Queue) (process : ℕ) (request : Request) → at_process queue process ≡ Some request → is_of terminal request ≡ true
    → has_request terminal queue ≡ true
busy-has terminal queue zero request e one = absurd (cc e)
busy-has terminal queue (suc k) request e one = or_right _ _ (found queue.busy (suc k - 1) (sym (at-number queue k) ∙ e))
  where
    or_right : (a b : Bool) → b ≡ true → (a || b) ≡ true
    or_right true b h = refl
    or_right false b h = h

    found : (busy : List (Option Request)) (k : ℕ) → get_or busy k None ≡ Some request → list_any (works_for terminal) busy ≡ true
    found [] k e = absurd (cc e)
    found (work ∷ rest) zero e = rw (e, one) refl
    found (work ∷ rest) (suc k) e = or_right _ _ (found rest k e)

is-own : (request : Request) → is_of request.terminal request ≡ true
is-own request = grind (arith, nat_tests)

is-other : (other : ℕ) (request : Request) → other ≢ request.terminal → is_of other request ≡ false
is-other other request apart = grind (arith, nat_tests)

-- the places that are noted of the other terminals
abbrev pub Others : ℕ → List (Option RequestPlace) → List (Option RequestPlace) → Type 0
Others terminal places placed = (other : ℕ) → other ≢ terminal → noted_place placed other ≡ noted_place places other

pub noted-put : (book : List Queue) (places placed : List (Option RequestPlace)) (class : ℕ) (request : Request) (queue : Queue) → class < length book
    → AreNoted book places → Others request.terminal places placed → queue ≡ with_request (queue_at book class) request
    → noted_place placed request.terminal ≡ Some (Waiting class) → AreNoted (set book class queue) placed
noted-put book places placed class request queue lt was others is here =
    still-noted book (set book class queue) places placed request.terminal was others
    (λ other apart. subst (λ q. SameBook other book (set book class q)) (sym is)
    (book-set other book class _ (put-same other (queue_at book class) request (is-other other request apart))))
    (rw (here, is) (refl, put-waits request.terminal book class request lt (is-own request)))

pub noted-take : (book : List Queue) (places placed : List (Option RequestPlace)) (class process : ℕ) (request : Request)
    → taken (queue_at book class) ≡ Got process request → AreNoted book places → Others request.terminal places placed
    → noted_place placed request.terminal ≡ Some (Busy class process) → AreNoted (set book class (after_take (queue_at book class))) placed
noted-take book places placed class process request got was others here =
    still-noted book _ places placed request.terminal was others
    (λ other apart. book-set other book class _ (take-same other (queue_at book class) process request got (is-other other request apart)))
    (rw here (refl, take-works request.terminal book class process request got (is-own request)))

pub noted-reply : (book : List Queue) (places placed : List (Option RequestPlace)) (class process : ℕ) (request : Request)
    → at_process (queue_at book class) process ≡ Some request → AreNoted book places → Others request.terminal places placed
    → IsRequestPlace (set book class (with_free (queue_at book class) process)) request.terminal (noted_place placed request.terminal)
    → AreNoted (set book class (with_free (queue_at book class) process)) placed
noted-reply book places placed class process request at was others here =
    still-noted book _ places placed request.terminal was others
    (λ other apart. book-set other book class _ (free-same other (queue_at book class) process request at (is-other other request apart)))
    here

pub noted-cancel : (book : List Queue) (places placed : List (Option RequestPlace)) (terminal : ℕ) → AreNoted book places → Others terminal places placed
    → noted_place placed terminal ≡ None → AreNoted (map (without terminal) book) placed
noted-cancel book places placed terminal was others here =
    still-noted book _ places placed terminal was others
    (λ other apart. book-map other (without terminal) (cancel-same other terminal apart) book)
    (rw here (none-out terminal book))

-- a terminal whose request is taken, or worked on, has room
pub room-taken : (book : List Queue) (places : List (Option RequestPlace)) (class process : ℕ) (request : Request)
    → taken (queue_at book class) ≡ Got process request → AreNoted book places → request.terminal < length places
room-taken book places class process request got was =
    room book places request.terminal was
    (out-at request.terminal book class (taken-has request.terminal (queue_at book class) process request got (is-own request)))

pub room-busy : (book : List Queue) (places : List (Option RequestPlace)) (class process : ℕ) (request : Request)
    → at_process (queue_at book class) process ≡ Some request → AreNoted book places → request.terminal < length places
room-busy book places class process request at was =
    room book places request.terminal was
    (out-at request.terminal book class (busy-has request.terminal (queue_at book class) process request at (is-own request)))

-- a class that has a busy process is one of the book
pub class-within : (book : List Queue) (class process : ℕ) → IsSome (at_process (queue_at book class) process) → class < length book
class-within [] class zero some = absurd (cc some)
class-within [] class (suc k) some = absurd (cc (some, ap is_some (at-number (record { waiting = []; busy = [] }) k)))
class-within (queue ∷ rest) zero process some = omega arith
class-within (queue ∷ rest) (suc class) process some = let behind = class-within rest class process some in omega (arith, behind)
