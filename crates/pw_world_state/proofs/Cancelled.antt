-- The requests of some terminals are cancelled.
use Rattle.std.proofs.Common.{◌≡◌, ℕ, zero, suc, ◌+◌, ◌==◌, ◌||◌, List, [], ◌∷◌, get_or, map, filter, Option, Some, None, Bool, true, false, cond, not, refl, sym, ap, ap₂, subst, ◌∙◌}
use Rattle.std.specs.Prelude.{All, IsSome}
use Rattle.std.specs.List.{list_any}
use Rattle.std.proofs.lemmas.List.Elements.{All-head, All-tail}
use Rattle.pw_base.proofs.Plain.{or-false, eqb-swap}
use Rattle.pw_class.specs.Queue.{Queue, at_process, busy_without, without, works_for}
use Rattle.pw_class.specs.declared.request.Request.{Request}
use Rattle.pw_code.specs.declared.context.Context.{Context}
use Rattle.pw_code.specs.declared.system.ClassInfo.{ClassInfo}
use Rattle.pw_code.specs.declared.system.System.{System}
use Rattle.pw_world_state.specs.Changes.{job_without, without_each}
use Rattle.pw_world_state.specs.Stands.{StandsForClass, StandsForJob, StandsIfAny}
use Rattle.pw_paired.specs.Queues.{queue_of, requests_from}
use Rattle.pw_paired.specs.State.{Class, Job}
use Rattle.pw_paired.specs.Units.{freed_of, only, request_in, without_requests}
use Rattle.pw_laws.proofs.requests.Queues.{works-queue}
use Rattle.pw_tmf.specs.Leaving.{is_among}

-- ---- a process works for one of them

-- the request is of one of these terminals
abbrev works_for_one : List ℕ → Option Request → Bool
works_for_one terminals work = list_any (λ t. works_for t work) terminals

works-none : (terminals : List ℕ) → works_for_one terminals None ≡ false
works-none [] = refl
works-none (t ∷ terminals) = works-none terminals

works-one : (terminals : List ℕ) (request : Request) → works_for_one terminals (Some request) ≡ is_among terminals request.terminal
works-one [] request = refl
works-one (t ∷ terminals) request = ap₂ (λ a b. a || b) (eqb-swap request.terminal t) (works-one terminals request)

-- what a process works on, but nothing where that was for one of them
abbrev busy_without_each : List ℕ → Option Request → Option Request
busy_without_each terminals work = cond (works_for_one terminals work) None work

busy-next : (t : ℕ) (terminals : List ℕ) (work : Option Request) → busy_without_each terminals (busy_without t work) ≡ busy_without_each (t ∷ terminals) work
busy-next t terminals work = by (works_for t work)
  where
    by : (b : Bool) → busy_without_each terminals (cond b None work) ≡ cond (b || works_for_one terminals work) None work
    by true = rw (works-none terminals) refl
    by false = refl

-- ---- a whole queue

-- requests that are not of one of them
abbrev spared : List ℕ → List Request → List Request
spared terminals waiting = filter (λ request. not (is_among terminals request.terminal)) waiting

spared-none : (waiting : List Request) → spared [] waiting ≡ waiting
spared-none [] = refl
spared-none (request ∷ waiting) = ap (λ xs. request ∷ xs) (spared-none waiting)

spared-more : (t : ℕ) (terminals : List ℕ) (request : Request) (rest waiting : List Request) → spared terminals rest ≡ spared (t ∷ terminals) waiting → (a b : Bool) → a ≡ b
    → spared terminals (cond (not a) (request ∷ rest) rest) ≡ cond (not (b || is_among terminals request.terminal)) (request ∷ spared (t ∷ terminals) waiting) (spared (t ∷ terminals) waiting)
spared-more t terminals request rest waiting same true true e = same
spared-more t terminals request rest waiting same false false e = last (is_among terminals request.terminal)
  where
    last : (b : Bool) → cond (not b) (request ∷ spared terminals rest) (spared terminals rest) ≡ cond (not b) (request ∷ spared (t ∷ terminals) waiting) (spared (t ∷ terminals) waiting)
    last true = same
    last false = ap (λ xs. request ∷ xs) same
spared-more t terminals request rest waiting same true false e = absurd (cc e)
spared-more t terminals request rest waiting same false true e = absurd (cc e)

spared-next : (t : ℕ) (terminals : List ℕ) (waiting : List Request) → spared terminals (filter (λ request. not (request.terminal == t)) waiting) ≡ spared (t ∷ terminals) waiting
spared-next t terminals [] = refl
spared-next t terminals (request ∷ waiting) =
    spared-more t terminals request (filter (λ request. not (request.terminal == t)) waiting) waiting (spared-next t terminals waiting)
    (request.terminal == t) (t == request.terminal) (eqb-swap request.terminal t)

mapped-twice : {A : Type 0} (f g h : A → A) → ((a : A) → f (g a) ≡ h a) → (xs : List A) → map f (map g xs) ≡ map h xs
mapped-twice f g h same [] = refl
mapped-twice f g h same (x ∷ xs) = ap₂ (λ a as'. a ∷ as') (same x) (mapped-twice f g h same xs)

without-all : (terminals : List ℕ) (queue : Queue) → without_each terminals queue ≡ record { waiting = spared terminals queue.waiting; busy = map (busy_without_each terminals) queue.busy }
without-all [] queue = ap₂ (λ w b. record { waiting = w; busy = b }) (sym (spared-none queue.waiting)) (sym (kept-busy queue.busy))
  where
    kept-busy : (busy : List (Option Request)) → map (busy_without_each []) busy ≡ busy
    kept-busy [] = refl
    kept-busy (work ∷ busy) = ap (λ xs. work ∷ xs) (kept-busy busy)
without-all (t ∷ terminals) queue =
    without-all terminals (without t queue)
    ∙ ap₂ (λ w b. record { waiting = w; busy = b }) (spared-next t terminals queue.waiting)
    (mapped-twice (busy_without_each terminals) (busy_without t) (busy_without_each (t ∷ terminals)) (busy-next t terminals) queue.busy)

-- ---- a class of the paired system

-- the requests of a class are of these terminals where they are of those that are meant
pub record AgreesOn (whose : ℕ → Bool) (terminals : List ℕ) (class : Class) : Type 0 where
  pub waiting : All (λ request. whose request.terminal ≡ is_among terminals request.terminal) class.waiting
  pub busy : (i : ℕ) (job : Job) → class.busy i ≡ Some job → whose job.request.terminal ≡ is_among terminals job.request.terminal

spared-same : (whose : ℕ → Bool) (terminals : List ℕ) (waiting : List Request) → All (λ request. whose request.terminal ≡ is_among terminals request.terminal) waiting
    → spared terminals waiting ≡ filter (λ request. not (whose request.terminal)) waiting
spared-same whose terminals [] all = refl
spared-same whose terminals (request ∷ waiting) all =
    ap₂ (λ b xs. cond (not b) (request ∷ xs) xs) (sym (All-head (λ (r : Request). whose r.terminal ≡ is_among terminals r.terminal) request waiting all))
    (spared-same whose terminals waiting (All-tail (λ (r : Request). whose r.terminal ≡ is_among terminals r.terminal) request waiting all))

freed-same : (whose : ℕ → Bool) (terminals : List ℕ) (job : Option Job) → ((own : Job) → job ≡ Some own → whose own.request.terminal ≡ is_among terminals own.request.terminal)
    → busy_without_each terminals (request_in job) ≡ request_in (freed_of whose job)
freed-same whose terminals None agrees = rw (works-none terminals) refl
freed-same whose terminals (Some job) agrees =
    ap (λ b. cond b None (Some job.request)) (works-one terminals job.request ∙ sym (agrees job refl)) ∙ by (whose job.request.terminal)
  where
    by : (b : Bool) → cond b None (Some job.request) ≡ request_in (cond b None (Some job))
    by true = refl
    by false = refl

freed-all : (whose : ℕ → Bool) (terminals : List ℕ) (busy : ℕ → Option Job) (k n : ℕ) → ((i : ℕ) (job : Job) → busy i ≡ Some job → whose job.request.terminal ≡ is_among terminals job.request.terminal)
    → map (busy_without_each terminals) (requests_from busy k n) ≡ requests_from (λ i. freed_of whose (busy i)) k n
freed-all whose terminals busy k zero agrees = refl
freed-all whose terminals busy k (suc n) agrees = ap₂ (λ x xs. x ∷ xs) (freed-same whose terminals (busy k) (agrees k)) (freed-all whose terminals busy (k + 1) n agrees)

pub no-job : (R : Job → Context → Type 0) (b : Bool) → StandsIfAny R None (cond b None None)
no-job R true = tt
no-job R false = tt

freed-job : (R : Job → Context → Type 0) (b : Bool) (job : Job) (context : Context) → R job context → StandsIfAny R (cond b None (Some job)) (cond b None (Some context))
freed-job R true job context h = tt
freed-job R false job context h = h

works-on : (R : Job → Context → Type 0) (whose : ℕ → Bool) (terminals : List ℕ) (queue : Queue) (i : ℕ) (job : Option Job) (context : Option Context)
    → (IsSome job → at_process queue i ≡ request_in job) → ((own : Job) → job ≡ Some own → whose own.request.terminal ≡ is_among terminals own.request.terminal)
    → StandsIfAny R job context → StandsIfAny R (freed_of whose job) (job_without terminals (at_process queue i) context)
works-on R whose terminals queue i None None at agrees h = no-job R (works_for_one terminals (at_process queue i))
works-on R whose terminals queue i None (Some context) at agrees h = absurd h
works-on R whose terminals queue i (Some job) None at agrees h = absurd h
works-on R whose terminals queue i (Some job) (Some context) at agrees h =
    rw (at refl) (subst (λ b. StandsIfAny R (freed_of whose (Some job)) (cond b None (Some context))) (agrees job refl ∙ sym (works-one terminals job.request))
    (freed-job R (whose job.request.terminal) job context h))

some-before : (whose : ℕ → Bool) (job : Option Job) → IsSome (freed_of whose job) → IsSome job
some-before whose None some = some
some-before whose (Some job) some = refl

pub cancelled-stands : (system : System) (info : ClassInfo) (whose : ℕ → Bool) (terminals : List ℕ) (class : Class) (queue : Queue) (jobs : ℕ → Option Context)
    → AgreesOn whose terminals class → StandsForClass system info class queue jobs
    → StandsForClass system info (without_requests whose class) (without_each terminals queue) (λ i. job_without terminals (at_process queue i) (jobs i))
cancelled-stands system info whose terminals class queue jobs agrees old = record {
  queue_is = ap (without_each terminals) old.queue_is ∙ (without-all terminals (queue_of info.processes class)
      ∙ ap₂ (λ w b. record { waiting = w; busy = b }) (spared-same whose terminals class.waiting agrees.waiting) (freed-all whose terminals class.busy 1 info.processes agrees.busy));
  works_on = λ i. works-on (StandsForJob system info) whose terminals queue i (class.busy i) (jobs i)
      (λ some. let place = old.within i some in ap (λ q. at_process q i) old.queue_is ∙ works-queue info.processes i class place.0 place.1)
      (agrees.busy i) (old.works_on i);
  within = λ i some. old.within i (some-before whose (class.busy i) some);
}

-- ---- a terminal alone

pub only-among : (t s : ℕ) → only t s ≡ is_among (t ∷ []) s
only-among t s = eqb-swap s t ∙ sym (or-false (t == s))

pub only-agrees : (t : ℕ) (class : Class) → AgreesOn (only t) (t ∷ []) class
only-agrees t class = record {
  waiting = λ k d low. only-among t (get_or class.waiting k d).terminal;
  busy = λ i job works. only-among t job.request.terminal;
}
