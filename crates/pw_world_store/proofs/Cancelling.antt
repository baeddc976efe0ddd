-- The requests of terminals are cancelled.
use Rattle.std.proofs.Common.{◌≡◌, ℕ, ◌-◌, ◌==◌, ◌≤◌, ◌||◌, Bool, true, false, List, [], ◌∷◌, Option, Some, None, map, cond, ◌∙◌, ⊎_elim, refl, sym, ap, ap₂, subst, length, arith}
use Rattle.std.specs.Prelude.{slice_index_or}
use Rattle.std.specs.List.{list_any}
use Rattle.std.proofs.Math.Path.{fun_ext}
use Rattle.std.proofs.lemmas.Bool.{cases_lt}
use Rattle.std.proofs.lemmas.List.{get_or-map, get_or_past, length-map}
use Rattle.pw_base.proofs.Plain.{some_is}
use Rattle.pw_class.specs.Book.{queue_at}
use Rattle.pw_class.specs.Queue.{Queue, at_process, busy_without, without, works_for}
use Rattle.pw_class.specs.declared.request.Request.{Request}
use Rattle.pw_code.specs.declared.context.Context.{Context}
use Rattle.pw_code.specs.declared.system.System.{System}
use Rattle.pw_world_store.specs.Calls.{cancel_of}
use Rattle.pw_world_store.specs.Keeps.{IsKeep, IsStaffed, JobHasVerb, job_of, job_terminal, jobs_at, kept_by, kept_of, pair_at, request_terminal, seat_at}
use Rattle.pw_world_store.proofs.Parts.{of-parts}
use Rattle.pw_world_store.proofs.Posts.{from-one, no_queue, post-terminal}
use Rattle.pw_world_state.specs.Changes.{cancel}
use Rattle.pw_world_state.specs.Kept.{Kept}
use Rattle.pw_pair.specs.Pairs.{SeenPair}
use Rattle.pw_world_store.specs.Jobs.{context_of, dropped_for, is_for}
use Rattle.pw_world_store.specs.declared.job.ProcessJob.{ProcessJob}
use Rattle.pw_world_store.specs.declared.seat.Seat.{Seat}
use Rattle.pw_tmf.specs.Told.{Told}

-- ---- lists

-- what is read of a list whose members are changed
pub map-or : {A B : Type 0} (f : A → B) (xs : List A) (i : ℕ) (d : A) (e : B) → e ≡ f d → slice_index_or (map f xs) i e ≡ f (slice_index_or xs i d)
map-or f xs i d e same =
    ⊎_elim
    (λ lt. get_or-map f xs i d e lt)
    (λ past.
    get_or_past (map f xs) i e (subst (λ n. n ≤ i) (sym (length-map xs f)) past)
    ∙ (same ∙ ap f (sym (get_or_past xs i d past))))
    (cases_lt i (length xs))

-- the same at numbers from 1
from-one-map : {X : Type 0} (f : Option X → Option X) → None ≡ f None → (xs : List (Option X)) (i : ℕ) → from-one (map f xs) i ≡ f (from-one xs i)
from-one-map {X} f none xs i = by (i == 0)
  where
    by : (b : Bool) → cond b None (slice_index_or (map f xs) (i - 1) None) ≡ f (cond b None (slice_index_or xs (i - 1) None))
    by true = none
    by false = map-or f xs (i - 1) None None none

-- ---- a post

-- a job is for the terminal where its request is of it
for-same : (t : ℕ) (job : Option ProcessJob) (request : Option Request) → job_terminal job ≡ request_terminal request → is_for t job ≡ works_for t request
for-same t None None e = refl
for-same t None (Some r) e = absurd (cc e)
for-same t (Some own) None e = absurd (cc e)
for-same t (Some own) (Some r) e = ap (λ k. k == t) (some_is e)

both-gone : (b : Bool) (job : Option ProcessJob) (request : Option Request) → job_terminal job ≡ request_terminal request → job_terminal (cond b None job) ≡ request_terminal (cond b None request)
both-gone true job request e = refl
both-gone false job request e = e

still-post : (t : ℕ) (job : Option ProcessJob) (request : Option Request) → job_terminal job ≡ request_terminal request
    → job_terminal (dropped_for t job) ≡ request_terminal (busy_without t request)
still-post t job request e = ap (λ b. job_terminal (cond b None job)) (for-same t job request e) ∙ both-gone (works_for t request) job request e

verb-if : (system : System) (b : Bool) (job : Option ProcessJob) → JobHasVerb system job → JobHasVerb system (cond b None job)
verb-if system true job h = tt
verb-if system false job h = h

-- what is left of its context
context-left : (t : ℕ) (job : Option ProcessJob) (request : Option Request) → job_terminal job ≡ request_terminal request
    → context_of (dropped_for t job) ≡ cond (works_for t request || false) None (context_of job)
context-left t job request e = ap (λ b. context_of (cond b None job)) (for-same t job request e) ∙ by (works_for t request)
  where
    by : (b : Bool) → context_of (cond b None job) ≡ cond (b || false) None (context_of job)
    by true = refl
    by false = refl

-- what the jobs and the book have of a process, in each class
posts-all : (system : System) (seats : List Seat) (disc : Told) (book : List Queue) (jobs : List (List (Option ProcessJob))) (pairs : List SeenPair) (c i : ℕ)
    → IsKeep system seats disc book jobs pairs
    → job_terminal (job_of (jobs_at jobs c) i) ≡ request_terminal (at_process (queue_at book c) i)
posts-all system seats disc book jobs pairs c i old =
    ⊎_elim
    (λ low. post-terminal system seats disc book jobs pairs c i old low)
    (λ past.
    let js : jobs_at jobs c ≡ [] = get_or_past jobs c [] (subst (λ n. n ≤ c) (sym old.job_lists) past) in
    let q : queue_at book c ≡ no_queue = get_or_past book c no_queue (subst (λ n. n ≤ c) (sym old.classes) past) in
    ap (λ l. job_terminal (job_of l i)) js ∙ (none i ∙ sym (ap (λ qu. request_terminal (at_process qu i)) q)))
    (cases_lt c (length system.classes))
  where
    none : (k : ℕ) → job_terminal (job_of [] k) ≡ request_terminal (at_process no_queue k)
    none k = by (k == 0)
      where
        by : (b : Bool) → job_terminal (cond b None (slice_index_or [] (k - 1) None)) ≡ request_terminal (cond b None (slice_index_or [] (k - 1) None))
        by true = refl
        by false = ap job_terminal (get_or_past [] (k - 1) None (omega arith)) ∙ sym (ap request_terminal (get_or_past [] (k - 1) None (omega arith)))

-- ---- the requests of one terminal

queue-map : (t : ℕ) (book : List Queue) (c : ℕ) → queue_at (map (without t) book) c ≡ without t (queue_at book c)
queue-map t book c = map-or (without t) book c no_queue no_queue refl

jobs-map : (t : ℕ) (jobs : List (List (Option ProcessJob))) (c : ℕ) → jobs_at (map (map (dropped_for t)) jobs) c ≡ map (dropped_for t) (jobs_at jobs c)
jobs-map t jobs c = map-or (map (dropped_for t)) jobs c [] [] refl

job-map : (t : ℕ) (jobs : List (List (Option ProcessJob))) (c i : ℕ) → job_of (jobs_at (map (map (dropped_for t)) jobs) c) i ≡ dropped_for t (job_of (jobs_at jobs c) i)
job-map t jobs c i = ap (λ js. job_of js i) (jobs-map t jobs c) ∙ from-one-map (dropped_for t) refl (jobs_at jobs c) i

pub keep-cancelled : (system : System) (seats : List Seat) (disc : Told) (book : List Queue) (jobs : List (List (Option ProcessJob))) (pairs : List SeenPair) (t : ℕ)
    → IsKeep system seats disc book jobs pairs
    → IsKeep system seats disc (map (without t) book) (map (map (dropped_for t)) jobs) pairs
keep-cancelled system seats disc book jobs pairs t old = record {
  valid = old.valid;
  terminals = old.terminals;
  classes = length-map book (without t) ∙ old.classes;
  job_lists = length-map jobs (map (dropped_for t)) ∙ old.job_lists;
  pairs_are = old.pairs_are;
  disc_terminals = old.disc_terminals;
  disc_files = old.disc_files;
  units = old.units;
  runs = old.runs;
  members = old.members;
  verbs = old.verbs;
  staffed = λ c info at.
      let staff = old.staffed c info at in
      subst (λ q. IsStaffed info q (jobs_at (map (map (dropped_for t)) jobs) c)) (sym (queue-map t book c))
      (subst (IsStaffed info (without t (queue_at book c))) (sym (jobs-map t jobs c)) (record {
        book = length-map (queue_at book c).busy (busy_without t) ∙ staff.book;
        jobs_are = length-map (jobs_at jobs c) (dropped_for t) ∙ staff.jobs_are;
        posts = λ i.
            ap job_terminal (from-one-map (dropped_for t) refl (jobs_at jobs c) i)
            ∙ (still-post t (job_of (jobs_at jobs c) i) (at_process (queue_at book c) i) (staff.posts i)
            ∙ sym (ap request_terminal (from-one-map (busy_without t) refl (queue_at book c).busy i)));
      }));
  job_verbs = λ c i.
      subst (JobHasVerb system) (sym (job-map t jobs c i))
      (verb-if system (is_for t (job_of (jobs_at jobs c) i)) (job_of (jobs_at jobs c) i) (old.job_verbs c i));
}

pub kept-cancelled : (system : System) (seats : List Seat) (disc : Told) (book : List Queue) (jobs : List (List (Option ProcessJob))) (pairs : List SeenPair) (births t : ℕ)
    → IsKeep system seats disc book jobs pairs
    → kept_by seats disc (map (without t) book) (map (map (dropped_for t)) jobs) pairs births ≡ cancel_of t (kept_by seats disc book jobs pairs births)
kept-cancelled system seats disc book jobs pairs births t old =
    ap₂ (λ (queues : ℕ → Queue) (all : ℕ → ℕ → Option Context). of-parts (λ u. kept_of (seat_at seats u)) disc queues all (pair_at pairs) births)
    (fun_ext (queue-map t book))
    (fun_ext (λ c. fun_ext (λ i.
    ap context_of (job-map t jobs c i)
    ∙ context-left t (job_of (jobs_at jobs c) i) (at_process (queue_at book c) i) (posts-all system seats disc book jobs pairs c i old))))

-- ---- the requests of several

works-none : (terminals : List ℕ) → list_any (λ u. works_for u None) terminals ≡ false
works-none [] = refl
works-none (t ∷ terminals) = works-none terminals

left-next : (t : ℕ) (terminals : List ℕ) (request : Option Request) (job : Option Context)
    → cond (works_for t request || list_any (λ u. works_for u request) terminals) None job
    ≡ cond (list_any (λ u. works_for u (busy_without t request)) terminals) None (cond (works_for t request || false) None job)
left-next t terminals request job = by (works_for t request)
  where
    by : (b : Bool) → cond (b || list_any (λ u. works_for u request) terminals) None job
        ≡ cond (list_any (λ u. works_for u (cond b None request)) terminals) None (cond (b || false) None job)
    by true = sym (ap (λ b. cond b None None) (works-none terminals))
    by false = refl

-- one of them, and then the others
pub cancel-next : (t : ℕ) (terminals : List ℕ) (kept : Kept) → cancel (t ∷ terminals) kept ≡ cancel terminals (cancel_of t kept)
cancel-next t terminals kept =
    ap (λ (all : ℕ → ℕ → Option Context). record (cancel (t ∷ terminals) kept) { jobs = all })
    (fun_ext (λ c. fun_ext (λ i.
    left-next t terminals (at_process (kept.queues c) i) (kept.jobs c i)
    ∙ ap (λ r. cond (list_any (λ u. works_for u r) terminals) None (cond (works_for t (at_process (kept.queues c) i) || false) None (kept.jobs c i)))
    (sym (from-one-map (busy_without t) refl (kept.queues c).busy i)))))

-- of none
pub cancel-none : (kept : Kept) → cancel [] kept ≡ kept
cancel-none kept = refl
