-- What the paired state says of a class is what the book of requests says of its queue.
use Rattle.std.proofs.Common.{◌≡◌, ◌≢◌, ℕ, zero, suc, ◌+◌, ◌-◌, ◌<◌, ◌≤◌, ⊎_elim, Bool, true, false, ◌||◌, is_none, List, [], ◌∷◌, ◌++◌, length, get_or, set, map, cond, Option, Some, None, refl, sym, ap, ap₂, ◌∙◌, arith}
use Rattle.std.specs.Prelude.{◌==◌, nat_lt, position}
use Rattle.std.specs.List.{list_any}
use Rattle.std.proofs.lemmas.Bool.{cases_eq}
use Rattle.std.proofs.lemmas.Bool.Decides.{nat_tests}
use Rattle.std.proofs.lemmas.List.Folds.{list_any-append}
use Rattle.std.proofs.lemmas.List.Quantifiers.{position-Some}
use Rattle.std.proofs.lemmas.List.Sums.{position_or_len_is}
use Rattle.pw_base.proofs.Plain.{or-false, is_none-None}
use Rattle.pw_class.specs.Queue as queue
use Rattle.pw_class.specs.declared.request.Request.{Request}
use Rattle.pw_class.specs.declared.request.Taken.TheVariants.{Got}
use Rattle.pw_onecopy.proofs.Update.{upd_elim, upd-same, upd-other}
use Rattle.pw_onecopy.specs.Update.{upd}
use Rattle.pw_paired.specs.Queues.{queue_of, requests_from}
use Rattle.pw_paired.specs.Server.{first_free, with_first_taken, with_job_at}
use Rattle.pw_paired.specs.State.{Class, Job}
use Rattle.pw_paired.specs.Terminal.{with_request}
use Rattle.pw_paired.specs.Units.{any_below, freed_of, has_request, only, request_in, without_requests}
use Rattle.pw_laws.proofs.requests.Classes.{found_free, new_job}

-- The list of requests: its length, its elements, and what changes of the processes leave of it.

length-requests : (busy : ℕ → Option Job) (k n : ℕ) → length (requests_from busy k n) ≡ n
length-requests busy k zero = refl
length-requests busy k (suc n) = ap suc (length-requests busy (k + 1) n)

get-requests : (busy : ℕ → Option Job) (k n j i : ℕ) → j < n → k + j ≡ i
    → get_or (requests_from busy k n) j None ≡ request_in (busy i)
get-requests busy k zero j i low at = absurd (omega (arith, low))
get-requests busy k (suc n) zero i low at =
    ap (λ p. request_in (busy p)) (let same : k ≡ i = omega (arith, at) in same)
get-requests busy k (suc n) (suc j) i low at =
    get-requests busy (k + 1) n j i (omega (arith, low)) (omega (arith, at))

beyond-requests : (busy : ℕ → Option Job) (i : ℕ) (v : Option Job) (k n : ℕ) → i < k
    → requests_from (upd busy i v) k n ≡ requests_from busy k n
beyond-requests busy i v k zero above = refl
beyond-requests busy i v k (suc n) above =
    ap₂ (λ x xs. x ∷ xs) (ap request_in (upd-other busy i v k (λ same. omega (arith, above, same))))
    (beyond-requests busy i v (k + 1) n (omega (arith, above)))

set-requests : (busy : ℕ → Option Job) (v : Option Job) (k n j i : ℕ) → j < n → k + j ≡ i
    → requests_from (upd busy i v) k n ≡ set (requests_from busy k n) j (request_in v)
set-requests busy v k zero j i low at = absurd (omega (arith, low))
set-requests busy v k (suc n) zero i low at =
    ap₂ (λ x xs. x ∷ xs) (ap request_in (upd-same busy i v k (omega (arith, at))))
    (beyond-requests busy i v (k + 1) n (omega (arith, at)))
set-requests busy v k (suc n) (suc j) i low at =
    ap₂ (λ x xs. x ∷ xs) (ap request_in (upd-other busy i v k (λ same. omega (arith, at, same))))
    (set-requests busy v (k + 1) n j i (omega (arith, low)) (omega (arith, at)))

same-requests : (busy : ℕ → Option Job) (i : ℕ) (v : Option Job) → request_in v ≡ request_in (busy i) → (k n : ℕ)
    → requests_from (upd busy i v) k n ≡ requests_from busy k n
same-requests busy i v same k zero = refl
same-requests busy i v same k (suc n) =
    ap₂ (λ x xs. x ∷ xs)
    (upd_elim busy i v k (λ w. request_in w ≡ request_in (busy k)) (λ is. same ∙ ap (λ p. request_in (busy p)) (sym is)) (λ _. refl))
    (same-requests busy i v same (k + 1) n)

-- one process more, at the end
push-requests : (busy : ℕ → Option Job) (k n : ℕ)
    → requests_from busy k (suc n) ≡ requests_from busy k n ++ request_in (busy (n + k)) ∷ []
push-requests busy k zero = ap (λ p. request_in (busy p) ∷ []) (let same : k ≡ 0 + k = omega arith in same)
push-requests busy k (suc n) =
    ap (λ xs. request_in (busy k) ∷ xs)
    (push-requests busy (k + 1) n
    ∙ ap (λ p. requests_from busy (k + 1) n ++ request_in (busy p) ∷ []) (let same : n + (k + 1) ≡ suc n + k = omega arith in same))

any-requests : (test : Option Request → Bool) (busy : ℕ → Option Job) (k n : ℕ)
    → any_below n (λ i. test (request_in (busy (i + k)))) ≡ list_any test (requests_from busy k n)
any-requests test busy k zero = refl
any-requests test busy k (suc n) =
    ap₂ (λ a b. a || b) (any-requests test busy k n) (sym (or-false (test (request_in (busy (n + k))))))
    ∙ (sym (list_any-append test (requests_from busy k n) (request_in (busy (n + k)) ∷ [])) ∙ ap (list_any test) (sym (push-requests busy k n)))

-- a class has a request of a terminal where its queue has one
pub has-queue : (n t : ℕ) (class : Class) → has_request t n class ≡ queue.has_request t (queue_of n class)
has-queue n t class = ap (λ b. list_any (queue.is_of t) class.waiting || b) (any-requests (queue.works_for t) class.busy 1 n)

-- a process works on what the queue has there
pub works-queue : (n i : ℕ) (class : Class) → 1 ≤ i → i ≤ n → queue.at_process (queue_of n class) i ≡ request_in (class.busy i)
works-queue n i class low high =
    let number : (i == 0) ≡ false = grind (arith, nat_tests, low) in
    let element = get-requests class.busy 1 n (i - 1) i (omega (arith, low, high)) (omega (arith, low)) in
    rw number element

-- a request is sent
pub sent-queue : (n : ℕ) (class : Class) (request : Request)
    → queue_of n (with_request request class) ≡ queue.with_request (queue_of n class) request
sent-queue n class request = refl

-- a process goes on
pub next-queue : (n i : ℕ) (class : Class) (job next : Job) → class.busy i ≡ Some job → next.request ≡ job.request
    → queue_of n (with_job_at i (Some next) class) ≡ queue_of n class
next-queue n i class job next works same =
    ap (λ busy. record { waiting = class.waiting; busy = busy })
    (same-requests class.busy i (Some next) (ap Some same ∙ ap request_in (sym works)) 1 n)

-- a process is free again
pub replied-queue : (n i : ℕ) (class : Class) → 1 ≤ i → i ≤ n
    → queue_of n (with_job_at i None class) ≡ queue.with_free (queue_of n class) i
replied-queue n i class low high =
    ap (λ busy. record { waiting = class.waiting; busy = busy })
    (set-requests class.busy None 1 n (i - 1) i (omega (arith, low, high)) (omega (arith, low)))

-- cancelling, process by process
freed-request : (t : ℕ) (work : Option Job) → request_in (freed_of (only t) work) ≡ queue.busy_without t (request_in work)
freed-request t None = refl
freed-request t (Some job) = by_test (queue.is_of t job.request)
  where
    by_test : (b : Bool) → request_in (cond b None (Some job)) ≡ cond b None (Some job.request)
    by_test true = refl
    by_test false = refl

freed-requests : (t : ℕ) (busy : ℕ → Option Job) (k n : ℕ)
    → requests_from (λ i. freed_of (only t) (busy i)) k n ≡ map (queue.busy_without t) (requests_from busy k n)
freed-requests t busy k zero = refl
freed-requests t busy k (suc n) = ap₂ (λ x xs. x ∷ xs) (freed-request t (busy k)) (freed-requests t busy (k + 1) n)

-- requests of a terminal are cancelled
pub cancelled-queue : (n t : ℕ) (class : Class) → queue_of n (without_requests (only t) class) ≡ queue.without t (queue_of n class)
cancelled-queue n t class =
    ap (λ busy. record { waiting = (queue.without t (queue_of n class)).waiting; busy = busy }) (freed-requests t class.busy 1 n)

-- The free process of smallest number.

none-request : (work : Option Job) → is_none (request_in work) ≡ is_none work
none-request None = refl
none-request (Some job) = refl

before-free : (busy : ℕ → Option Job) (k n i : ℕ) → first_free busy k n ≡ Some i → (j : ℕ) → k ≤ j → j < i → is_none (busy j) ≡ false
before-free busy k zero i found j from below = absurd (cc found)
before-free busy k (suc n) i found j from below = by_work (busy k) refl (λ rest differ. before-free busy (k + 1) n i rest j (omega (arith, from, differ)) below)
  where
    by_work : (work : Option Job) → busy k ≡ work → (first_free busy (k + 1) n ≡ Some i → j ≢ k → is_none (busy j) ≡ false)
        → is_none (busy j) ≡ false
    by_work None free later =
        let here : k ≡ i = cc (rw free at found) in
        absurd (omega (arith, here, from, below))
    by_work (Some job) works later =
        ⊎_elim (λ same. ap (λ p. is_none (busy p)) same ∙ ap is_none works) (λ differ. later (rw works at found) differ) (cases_eq j k)

free-is : (busy : ℕ → Option Job) (k n i : ℕ) → k ≤ i → i < k + n → busy i ≡ None
    → ((j : ℕ) → k ≤ j → j < i → is_none (busy j) ≡ false) → first_free busy k n ≡ Some i
free-is busy k zero i from below free before = absurd (omega (arith, from, below))
free-is busy k (suc n) i from below free before =
    ⊎_elim
    (λ same. let here : busy k ≡ None = ap busy (sym same) ∙ free in rw here (ap Some (sym same)))
    (λ differ. by_work (busy k) refl (before k (omega arith) (omega (arith, from, differ)))
    (free-is busy (k + 1) n i (omega (arith, from, differ)) (omega (arith, below)) free (λ j low. before j (omega (arith, low)))))
    (cases_eq i k)
  where
    by_work : (work : Option Job) → busy k ≡ work → is_none (busy k) ≡ false → first_free busy (k + 1) n ≡ Some i
        → first_free busy k (suc n) ≡ Some i
    by_work None none taken rest = absurd (cc (none, taken))
    by_work (Some job) works taken rest = rw works rest

place-is : (busy : ℕ → Option Job) (n i : ℕ) → first_free busy 1 n ≡ Some i → position is_none (requests_from busy 1 n) ≡ Some (i - 1)
place-is busy n i free =
    let found = found_free busy 1 n i free in
    let all : length (requests_from busy 1 n) ≡ n = length-requests busy 1 n in
    let low : i - 1 < n = omega (arith, found.1, found.2) in
    let first = position_or_len_is is_none (requests_from busy 1 n) (i - 1) None (omega (arith, low, all))
    (λ j below. ap is_none (get-requests busy 1 n j (j + 1) (omega (arith, below, low)) (omega arith)) ∙ none-request (busy (j + 1))
    ∙ before-free busy 1 n i free (j + 1) (omega arith) (omega (arith, below)))
    (λ _. ap is_none (get-requests busy 1 n (i - 1) i low (omega (arith, found.1))) ∙ none-request (busy i) ∙ ap is_none found.0) in
    rw (first, all) (let is_low = nat_lt_true (i - 1) n low in rw is_low refl)
  where
    nat_lt_true : (a b : ℕ) → a < b → nat_lt a b ≡ true
    nat_lt_true a b low = grind (arith, nat_tests, low)

take-is : (n i place : ℕ) (class : Class) (waiting : List Request) (request : Request) (others : List Request) → waiting ≡ request ∷ others
    → (free : Option ℕ) → free ≡ Some place → i ≡ place + 1
    → (queue.taken_of waiting free ≡ Got i request)
    × (queue.after_take_of (queue_of n class) waiting free ≡ record { waiting = others; busy = set (requests_from class.busy 1 n) place (Some request) })
take-is n i place class waiting request others first free is number = rw (first, is, number) (refl, refl)

-- the first request is taken
pub taken-queue : (n i : ℕ) (class : Class) (request : Request) (others : List Request) → class.waiting ≡ request ∷ others
    → first_free class.busy 1 n ≡ Some i
    → (queue.taken (queue_of n class) ≡ Got i request) × (queue_of n (with_first_taken i class.waiting class) ≡ queue.after_take (queue_of n class))
taken-queue n i class request others first free =
    let found = found_free class.busy 1 n i free in
    let parts = take-is n i (i - 1) class class.waiting request others first (position is_none (requests_from class.busy 1 n))
    (place-is class.busy n i free) (omega (arith, found.1)) in (
      parts.0,
      ap (λ waiting. queue_of n (with_first_taken i waiting class)) first
          ∙ (ap (λ busy. record { waiting = others; busy = busy })
          (set-requests class.busy (Some (new_job request)) 1 n (i - 1) i (omega (arith, found.1, found.2)) (omega (arith, found.1))) ∙ sym parts.1),
    )

got-of : (waiting : List Request) (free : Option ℕ) (i : ℕ) (request : Request) → queue.taken_of waiting free ≡ Got i request
    → ((place : ℕ) × (free ≡ Some place) × (i ≡ place + 1)) × ((others : List Request) × (waiting ≡ request ∷ others))
got-of [] free i request is = absurd (cc is)
got-of (first ∷ rest) None i request is = absurd (cc is)
got-of (first ∷ rest) (Some place) i request is =
    let one : first ≡ request = cc is in
    let number : i ≡ place + 1 = cc is in
    ((place, refl, number), (rest, ap (λ r. r ∷ rest) one))

-- what the queue gives is the first request, for the first free process
pub got-queue : (n i : ℕ) (class : Class) (request : Request) → queue.taken (queue_of n class) ≡ Got i request
    → (first_free class.busy 1 n ≡ Some i) × ((others : List Request) × (class.waiting ≡ request ∷ others))
got-queue n i class request is =
    let parts = got-of class.waiting (position is_none (requests_from class.busy 1 n)) i request is in
    let place : ℕ = parts.0.0 in
    let requests : List (Option Request) = requests_from class.busy 1 n in
    let found = position-Some is_none requests place None parts.0.1 in
    let all : length requests ≡ n = length-requests class.busy 1 n in
    let number : i ≡ place + 1 = parts.0.2 in
    let low : place < n = omega (arith, found.0, all) in
    let at : get_or requests place None ≡ request_in (class.busy i) = get-requests class.busy 1 n place i low (omega (arith, number)) in (
      free-is class.busy 1 n i (omega (arith, number)) (omega (arith, low, number))
          (is_none-None (class.busy i) (sym (none-request (class.busy i)) ∙ (ap is_none (sym at) ∙ found.1)))
          (λ j from below.
          sym (none-request (class.busy j))
          ∙ (ap is_none (sym (get-requests class.busy 1 n (j - 1) j (omega (arith, below, number, low)) (omega (arith, from))))
          ∙ found.2 (j - 1) (omega (arith, below, number, from)))),
      parts.1,
    )
