-- Processes and their jobs, where one place is changed.
use Rattle.std.proofs.Common.{◌≡◌, ◌≢◌, ℕ, ◌+◌, ◌-◌, ◌<◌, ◌≤◌, List, [], ◌∷◌, Option, Some, None, true, false, ◌∙◌, ⊎_elim, get_or, refl, sym, ap, subst, length, arith}
use Rattle.std.specs.Prelude.{slice_get, slice_set, slice_index_or, ◌==◌, IsSome, is_none, is_some, if◌then◌else◌}
use Rattle.std.proofs.Math.Path.{fun_ext}
use Rattle.std.proofs.lemmas.Bool.{false≢true, cases_eq, cases_lt, cond-false, cond-true, eq-eqb, ne_eqb}
use Rattle.std.proofs.lemmas.List.{get_or-set_same, get_or-set_other, get_or_default, get_or_past, length-set}
use Rattle.std.proofs.lemmas.List.Folds.{list_any_none}
use Rattle.std.proofs.lemmas.List.Quantifiers.{position-Some}
use Rattle.std.proofs.lemmas.Option.{slice_get-get_or}
use Rattle.pw_base.proofs.Plain.{some_is}
use Rattle.pw_class.specs.Book.{queue_at}
use Rattle.pw_class.specs.Book.{is_out}
use Rattle.pw_class.specs.Queue.{Queue, after_take, after_take_of, at_process, free_place, has_request, taken, taken_of, with_free}
use Rattle.pw_class.specs.declared.request.Request.{Request}
use Rattle.pw_class.specs.declared.request.Taken.{Taken}
use Rattle.pw_class.specs.declared.request.Taken.TheVariants.{Got, Empty, NoneFree}
use Rattle.pw_code.specs.declared.context.Context.{Context}
use Rattle.pw_code.specs.declared.system.ClassInfo.{ClassInfo}
use Rattle.pw_code.specs.declared.system.System.{System}
use Rattle.pw_code.specs.declared.verb.Verb.{Verb}
use Rattle.pw_world_store.specs.Calls.{process_of}
use Rattle.pw_world_store.specs.Keeps.{IsKeep, IsStaffed, IsVerbOf, JobHasVerb, job_of, job_terminal, jobs_at, kept_by, kept_of, pair_at, request_terminal, seat_at}
use Rattle.pw_world_store.proofs.Parts.{of-parts}
use Rattle.pw_world_state.specs.Changes.{at_class, free_process, kept_take, with_job}
use Rattle.pw_onecopy.specs.Update.{upd}
use Rattle.pw_onecopy.proofs.Update.{upd_elim}
use Rattle.pw_pair.specs.Pairs.{SeenPair}
use Rattle.pw_world_store.specs.Jobs.{context_of, gone_on, job_in}
use Rattle.pw_world_store.specs.declared.job.ProcessJob.{ProcessJob}
use Rattle.pw_world_store.specs.declared.seat.Seat.{Seat}
use Rattle.pw_tmf.specs.Told.{Told}
use Rattle.pw_tmf.proofs.Stored.{get-set}

-- what stands where there is no class
abbrev pub no_queue : Queue
no_queue = record { waiting = []; busy = [] }

abbrev no_class : ClassInfo
no_class = record { name = []; server = 0; processes = 0 }

-- what is at a number that counts from 1
abbrev pub from-one : {X : Type 0} → List (Option X) → ℕ → Option X
from-one xs i = if i == 0 then None else slice_index_or xs (i - 1) None

pub from-one-at : {X : Type 0} (xs : List (Option X)) (i : ℕ) → 1 ≤ i → from-one xs i ≡ slice_index_or xs (i - 1) None
from-one-at xs i low = cond-false (i == 0) None (slice_index_or xs (i - 1) None) (ne_eqb i 0 (omega (arith, low)))

pub from-one-same : {X : Type 0} (xs : List (Option X)) (i : ℕ) (x : Option X) → 1 ≤ i → i - 1 < length xs → from-one (slice_set xs (i - 1) x) i ≡ x
from-one-same xs i x low lt = from-one-at (slice_set xs (i - 1) x) i low ∙ get_or-set_same xs (i - 1) x None lt

pub from-one-other : {X : Type 0} (xs : List (Option X)) (i j : ℕ) (x : Option X) → 1 ≤ i → j ≢ i → from-one (slice_set xs (i - 1) x) j ≡ from-one xs j
from-one-other xs i j x low ne =
    ⊎_elim
    (λ zero.
    cond-true (j == 0) None _ (eq-eqb j 0 zero) ∙ sym (cond-true (j == 0) None _ (eq-eqb j 0 zero)))
    (λ more.
    let up : 1 ≤ j = omega (arith, more) in
    let apart : j - 1 ≢ i - 1 = λ e. ne (omega (arith, low, up, e)) in
    from-one-at (slice_set xs (i - 1) x) j up
    ∙ (get_or-set_other xs (i - 1) (j - 1) x None apart ∙ sym (from-one-at xs j up)))
    (cases_eq j 0)

-- the contexts of a class's jobs
abbrev pub contexts : List (Option ProcessJob) → ℕ → Option Context
contexts jobs i = context_of (job_of jobs i)

-- one job is changed
pub contexts-set : (jobs : List (Option ProcessJob)) (i : ℕ) (job : Option ProcessJob) → 1 ≤ i → i - 1 < length jobs
    → contexts (slice_set jobs (i - 1) job) ≡ upd (contexts jobs) i (context_of job)
contexts-set jobs i job low lt = fun_ext (λ j.
    upd_elim (contexts jobs) i (context_of job) j (λ y. contexts (slice_set jobs (i - 1) job) j ≡ y)
    (λ is. ap (contexts (slice_set jobs (i - 1) job)) is ∙ ap context_of (from-one-same jobs i job low lt))
    (λ ne. ap context_of (from-one-other jobs i j job low ne)))

-- the jobs of one class are changed at one process
pub jobs-set : (jobs : List (List (Option ProcessJob))) (c i : ℕ) (job : Option ProcessJob) → c < length jobs → 1 ≤ i → i - 1 < length (jobs_at jobs c)
    → (λ (d : ℕ). contexts (jobs_at (slice_set jobs c (slice_set (jobs_at jobs c) (i - 1) job)) d))
    ≡ upd (λ d. contexts (jobs_at jobs d)) c (upd (contexts (jobs_at jobs c)) i (context_of job))
jobs-set jobs c i job there low lt =
    get-set contexts jobs c (slice_set (jobs_at jobs c) (i - 1) job) [] there
    ∙ ap (upd (λ d. contexts (jobs_at jobs d)) c) (contexts-set (jobs_at jobs c) i job low lt)

-- each part is as before but one class, which is staffed
pub keep-class : (system : System) (seats : List Seat) (disc : Told) (book new_book : List Queue) (jobs new_jobs : List (List (Option ProcessJob))) (pairs : List SeenPair) (c : ℕ)
    → IsKeep system seats disc book jobs pairs
    → length new_book ≡ length book → length new_jobs ≡ length jobs
    → ((d : ℕ) → d ≢ c → queue_at new_book d ≡ queue_at book d)
    → ((d : ℕ) → d ≢ c → jobs_at new_jobs d ≡ jobs_at jobs d)
    → ((info : ClassInfo) → slice_get system.classes c ≡ Some info → IsStaffed info (queue_at new_book c) (jobs_at new_jobs c))
    → ((i : ℕ) → JobHasVerb system (job_of (jobs_at new_jobs c) i))
    → IsKeep system seats disc new_book new_jobs pairs
keep-class system seats disc book new_book jobs new_jobs pairs c old books lists other_books other_jobs staffed verbs = record {
  valid = old.valid;
  terminals = old.terminals;
  classes = books ∙ old.classes;
  job_lists = lists ∙ old.job_lists;
  pairs_are = old.pairs_are;
  disc_terminals = old.disc_terminals;
  disc_files = old.disc_files;
  units = old.units;
  runs = old.runs;
  members = old.members;
  verbs = old.verbs;
  staffed = λ d info here.
      ⊎_elim
      (λ is. subst (λ k. slice_get system.classes k ≡ Some info → IsStaffed info (queue_at new_book k) (jobs_at new_jobs k)) (sym is) (staffed info) here)
      (λ ne.
      subst (λ q. IsStaffed info q (jobs_at new_jobs d)) (sym (other_books d ne))
      (subst (IsStaffed info (queue_at book d)) (sym (other_jobs d ne)) (old.staffed d info here)))
      (cases_eq d c);
  job_verbs = λ d i.
      ⊎_elim
      (λ is. subst (λ k. JobHasVerb system (job_of (jobs_at new_jobs k) i)) (sym is) (verbs i))
      (λ ne. subst (λ js. JobHasVerb system (job_of js i)) (sym (other_jobs d ne)) (old.job_verbs d i))
      (cases_eq d c);
}

-- ---- a post

-- a process that works has a place
at-work : (busy : List (Option Request)) (i : ℕ) → IsSome (from-one busy i) → (1 ≤ i) × (i - 1 < length busy)
at-work busy i some =
    ⊎_elim
    (λ zero.
    let none : from-one busy i ≡ None = cond-true (i == 0) None (slice_index_or busy (i - 1) None) (eq-eqb i 0 zero) in
    absurd (false≢true (subst (λ (o : Option Request). is_some o ≡ true) none some)))
    (λ more.
    let up : 1 ≤ i = omega (arith, more) in
    ⊎_elim
    (λ lt. (up, lt))
    (λ past.
    let none : from-one busy i ≡ None = from-one-at busy i up ∙ get_or_past busy (i - 1) None past in
    absurd (false≢true (subst (λ (o : Option Request). is_some o ≡ true) none some)))
    (cases_lt (i - 1) (length busy)))
    (cases_eq i 0)

-- a class that is there
class-there : (system : System) (c : ℕ) → c < length system.classes → (info : ClassInfo) × (slice_get system.classes c ≡ Some info)
class-there system c low = (get_or system.classes c no_class, slice_get-get_or system.classes c no_class low)

-- where a process works there is a place for its job
pub post-there : (system : System) (seats : List Seat) (disc : Told) (book : List Queue) (jobs : List (List (Option ProcessJob))) (pairs : List SeenPair) (c i : ℕ)
    → IsKeep system seats disc book jobs pairs → c < length system.classes → IsSome (at_process (queue_at book c) i)
    → (1 ≤ i) × (i - 1 < length (jobs_at jobs c))
post-there system seats disc book jobs pairs c i old low some =
    let class = class-there system c low in
    let staff = old.staffed c class.0 class.1 in
    let found = at-work (queue_at book c).busy i some in
    (found.0, subst (λ n. i - 1 < n) (staff.book ∙ sym staff.jobs_are) found.1)

-- and there is a job there
some-job : (job : Option ProcessJob) (request : Option Request) → job_terminal job ≡ request_terminal request → IsSome request → (own : ProcessJob) × (job ≡ Some own)
some-job None None e some = absurd (false≢true some)
some-job None (Some r) e some = absurd (cc e)
some-job (Some own) request e some = (own, refl)

pub post-job : (system : System) (seats : List Seat) (disc : Told) (book : List Queue) (jobs : List (List (Option ProcessJob))) (pairs : List SeenPair) (c i : ℕ)
    → IsKeep system seats disc book jobs pairs → c < length system.classes → IsSome (at_process (queue_at book c) i)
    → (own : ProcessJob) × (job_of (jobs_at jobs c) i ≡ Some own)
post-job system seats disc book jobs pairs c i old low some =
    let class = class-there system c low in
    some-job (job_of (jobs_at jobs c) i) (at_process (queue_at book c) i) ((old.staffed c class.0 class.1).posts i) some

-- what the book has of a process
pub post-terminal : (system : System) (seats : List Seat) (disc : Told) (book : List Queue) (jobs : List (List (Option ProcessJob))) (pairs : List SeenPair) (c i : ℕ)
    → IsKeep system seats disc book jobs pairs → c < length system.classes
    → job_terminal (job_of (jobs_at jobs c) i) ≡ request_terminal (at_process (queue_at book c) i)
post-terminal system seats disc book jobs pairs c i old low =
    let class = class-there system c low in (old.staffed c class.0 class.1).posts i

-- the post of one process is changed, in the book and in its job
pub keep-post : (system : System) (seats : List Seat) (disc : Told) (book new_book : List Queue) (jobs : List (List (Option ProcessJob))) (pairs : List SeenPair) (c i : ℕ) (q : Queue) (x : Option ProcessJob)
    → IsKeep system seats disc book jobs pairs → c < length system.classes → 1 ≤ i → i - 1 < length (jobs_at jobs c)
    → length new_book ≡ length book → ((d : ℕ) → d ≢ c → queue_at new_book d ≡ queue_at book d) → queue_at new_book c ≡ q
    → length q.busy ≡ length (queue_at book c).busy → ((j : ℕ) → j ≢ i → at_process q j ≡ at_process (queue_at book c) j)
    → job_terminal x ≡ request_terminal (at_process q i) → JobHasVerb system x
    → IsKeep system seats disc new_book (slice_set jobs c (slice_set (jobs_at jobs c) (i - 1) x)) pairs
keep-post system seats disc book new_book jobs pairs c i q x old low up lt size others here busy same own verb =
    let js : List (Option ProcessJob) = slice_set (jobs_at jobs c) (i - 1) x in
    let there : c < length jobs = subst (λ n. c < n) (sym old.job_lists) low in
    let mine : jobs_at (slice_set jobs c js) c ≡ js = get_or-set_same jobs c js [] there in
    keep-class system seats disc book new_book jobs (slice_set jobs c js) pairs c old size (length-set jobs c js) others
    (λ d ne. get_or-set_other jobs c d js [] ne)
    (λ info at.
    let staff = old.staffed c info at in
    subst (IsStaffed info (queue_at new_book c)) (sym mine)
    (subst (λ qu. IsStaffed info qu js) (sym here) (record {
      book = busy ∙ staff.book;
      jobs_are = length-set (jobs_at jobs c) (i - 1) x ∙ staff.jobs_are;
      posts = λ j.
          ⊎_elim
          (λ is. subst (λ k. job_terminal (job_of js k) ≡ request_terminal (at_process q k)) (sym is) (ap job_terminal (from-one-same (jobs_at jobs c) i x up lt) ∙ own))
          (λ ne. ap job_terminal (from-one-other (jobs_at jobs c) i j x up ne) ∙ (staff.posts j ∙ ap request_terminal (sym (same j ne))))
          (cases_eq j i);
    })))
    (λ j. subst (λ l. JobHasVerb system (job_of l j)) (sym mine)
    (⊎_elim
    (λ is. subst (λ k. JobHasVerb system (job_of js k)) (sym is) (subst (JobHasVerb system) (sym (from-one-same (jobs_at jobs c) i x up lt)) verb))
    (λ ne. subst (JobHasVerb system) (sym (from-one-other (jobs_at jobs c) i j x up ne)) (old.job_verbs c j))
    (cases_eq j i)))

-- ---- what is kept of them

pub job-step : (seats : List Seat) (disc : Told) (book : List Queue) (jobs : List (List (Option ProcessJob))) (pairs : List SeenPair) (births c i : ℕ) (x : Option ProcessJob)
    → c < length jobs → 1 ≤ i → i - 1 < length (jobs_at jobs c)
    → kept_by seats disc book (slice_set jobs c (slice_set (jobs_at jobs c) (i - 1) x)) pairs births
    ≡ with_job c i (context_of x) (kept_by seats disc book jobs pairs births)
job-step seats disc book jobs pairs births c i x there up lt =
    ap (λ (all : ℕ → ℕ → Option Context). of-parts (λ t. kept_of (seat_at seats t)) disc (queue_at book) all (pair_at pairs) births) (jobs-set jobs c i x there up lt)

pub queue-step : (change : Queue → Queue) (seats : List Seat) (disc : Told) (book : List Queue) (jobs : List (List (Option ProcessJob))) (pairs : List SeenPair) (births c : ℕ) (q : Queue)
    → c < length book → q ≡ change (queue_at book c)
    → kept_by seats disc (slice_set book c q) jobs pairs births ≡ at_class c change (kept_by seats disc book jobs pairs births)
queue-step change seats disc book jobs pairs births c q low is =
    ap (λ (queues : ℕ → Queue). of-parts (λ t. kept_of (seat_at seats t)) disc queues (λ d i. context_of (job_of (jobs_at jobs d) i)) (pair_at pairs) births)
    (get-set (λ (x : Queue). x) book c q no_queue low ∙ ap (upd (queue_at book) c) is)

-- ---- requests

-- where no class has a request of the terminal, none is out
pub none-out : (book : List Queue) (t : ℕ) → ((c : ℕ) → has_request t (queue_at book c) ≡ false) → is_out book t ≡ false
none-out book t none =
    list_any_none (has_request t) book (λ k d lt. ap (has_request t) (get_or_default book k d no_queue lt) ∙ none k)

-- a request that waits is one more behind the others
pub keep-sent : (system : System) (seats : List Seat) (disc : Told) (book : List Queue) (jobs : List (List (Option ProcessJob))) (pairs : List SeenPair) (c : ℕ) (q : Queue)
    → IsKeep system seats disc book jobs pairs → c < length system.classes → q.busy ≡ (queue_at book c).busy
    → IsKeep system seats disc (slice_set book c q) jobs pairs
keep-sent system seats disc book jobs pairs c q old low busy =
    let there : c < length book = subst (λ n. c < n) (sym old.classes) low in
    let mine : queue_at (slice_set book c q) c ≡ q = get_or-set_same book c q no_queue there in
    keep-class system seats disc book (slice_set book c q) jobs jobs pairs c old (length-set book c q) refl
    (λ d ne. get_or-set_other book c d q no_queue ne) (λ d ne. refl)
    (λ info at.
    let staff = old.staffed c info at in
    subst (λ qu. IsStaffed info qu (jobs_at jobs c)) (sym mine) (record {
      book = ap length busy ∙ staff.book;
      jobs_are = staff.jobs_are;
      posts = λ i. staff.posts i ∙ ap (λ xs. request_terminal (from-one xs i)) (sym busy);
    }))
    (λ i. old.job_verbs c i)

-- ---- taking

-- a process has taken a request
pub record TookAt (q new : Queue) (process : ℕ) (request : Request) : Type 0 where
  pub up : 1 ≤ process
  pub there : process - 1 < length q.busy
  pub busy : new.busy ≡ slice_set q.busy (process - 1) (Some request)

abbrev request_in : Taken → Option Request
request_in (Got process request) = Some request
request_in Empty = None
request_in NoneFree = None

took-of : (q : Queue) (waiting : List Request) (free : Option ℕ) (p : ℕ) (r : Request) → free_place q ≡ free → taken_of waiting free ≡ Got p r
    → TookAt q (after_take_of q waiting free) p r
took-of q [] free p r f e = absurd (cc e)
took-of q (w ∷ ws) None p r f e = absurd (cc e)
took-of q (w ∷ ws) (Some k) p r f e =
    let at : k + 1 ≡ p = ap process_of e in
    let who : w ≡ r = some_is (ap request_in e) in
    let place : p - 1 ≡ k = omega (arith, at) in
    let found = position-Some is_none q.busy k None f in
    record {
      up = omega (arith, at);
      there = subst (λ n. n < length q.busy) (sym place) found.0;
      busy = ap (λ n. slice_set q.busy n (Some w)) (sym place) ∙ ap (λ x. slice_set q.busy (p - 1) (Some x)) who;
    }

pub took : (q : Queue) (p : ℕ) (r : Request) → taken q ≡ Got p r → TookAt q (after_take q) p r
took q p r e = took-of q q.waiting (free_place q) p r refl e

-- ---- a job that goes on

-- the jobs of a class that is there
pub jobs-is : (system : System) (seats : List Seat) (disc : Told) (book : List Queue) (jobs : List (List (Option ProcessJob))) (pairs : List SeenPair) (c : ℕ) (js : List (Option ProcessJob))
    → IsKeep system seats disc book jobs pairs → c < length system.classes → js ≡ slice_index_or jobs c js → jobs_at jobs c ≡ js
jobs-is system seats disc book jobs pairs c js old low at =
    get_or_default jobs c [] js (subst (λ n. c < n) (sym old.job_lists) low) ∙ sym at

has-verb : (system : System) (verb : Option Verb) (context : Context) (job : Option ProcessJob) → IsVerbOf system context verb → JobHasVerb system (gone_on verb context job)
has-verb system verb context None is = tt
has-verb system verb context (Some own) is = is

same-terminal : (verb : Option Verb) (context : Context) (job : Option ProcessJob) → job_terminal (gone_on verb context job) ≡ job_terminal job
same-terminal verb context None = refl
same-terminal verb context (Some own) = refl

-- the jobs of a class with one that goes on
gone-at : (jobs : List (List (Option ProcessJob))) (c i : ℕ) (js new : List (Option ProcessJob)) (verb : Option Verb) (context : Context) → 1 ≤ i → jobs_at jobs c ≡ js
    → new ≡ slice_set js (i - 1) (gone_on verb context (job_in js (i - 1)))
    → new ≡ slice_set (jobs_at jobs c) (i - 1) (gone_on verb context (job_of (jobs_at jobs c) i))
gone-at jobs c i js new verb context up at made =
    made
    ∙ (ap (λ (l : List (Option ProcessJob)). slice_set l (i - 1) (gone_on verb context (job_in l (i - 1)))) (sym at)
    ∙ ap (λ x. slice_set (jobs_at jobs c) (i - 1) (gone_on verb context x)) (sym (from-one-at (jobs_at jobs c) i up)))

pub go-on : (system : System) (seats : List Seat) (disc : Told) (book : List Queue) (jobs : List (List (Option ProcessJob))) (pairs : List SeenPair) (c i : ℕ)
    (js new : List (Option ProcessJob)) (verb : Option Verb) (context : Context)
    → IsKeep system seats disc book jobs pairs → c < length system.classes → IsSome (at_process (queue_at book c) i) → js ≡ slice_index_or jobs c js
    → new ≡ slice_set js (i - 1) (gone_on verb context (job_in js (i - 1))) → IsVerbOf system context verb
    → IsKeep system seats disc book (slice_set jobs c new) pairs
go-on system seats disc book jobs pairs c i js new verb context old low some at made right =
    let there = post-there system seats disc book jobs pairs c i old low some in
    let x : Option ProcessJob = gone_on verb context (job_of (jobs_at jobs c) i) in
    let is = gone-at jobs c i js new verb context there.0 (jobs-is system seats disc book jobs pairs c js old low at) made in
    subst (λ (l : List (Option ProcessJob)). IsKeep system seats disc book (slice_set jobs c l) pairs) (sym is)
    (keep-post system seats disc book book jobs pairs c i (queue_at book c) x old low there.0 there.1 refl (λ d ne. refl) refl refl (λ j ne. refl)
    (same-terminal verb context (job_of (jobs_at jobs c) i) ∙ post-terminal system seats disc book jobs pairs c i old low)
    (has-verb system verb context (job_of (jobs_at jobs c) i) right))

pub go-on-kept : (system : System) (seats : List Seat) (disc : Told) (book : List Queue) (jobs : List (List (Option ProcessJob))) (pairs : List SeenPair) (births c i : ℕ)
    (js new : List (Option ProcessJob)) (verb : Option Verb) (context : Context)
    → IsKeep system seats disc book jobs pairs → c < length system.classes → IsSome (at_process (queue_at book c) i) → js ≡ slice_index_or jobs c js
    → new ≡ slice_set js (i - 1) (gone_on verb context (job_in js (i - 1)))
    → kept_by seats disc book (slice_set jobs c new) pairs births ≡ with_job c i (Some context) (kept_by seats disc book jobs pairs births)
go-on-kept system seats disc book jobs pairs births c i js new verb context old low some at made =
    let there = post-there system seats disc book jobs pairs c i old low some in
    let own = post-job system seats disc book jobs pairs c i old low some in
    let x : Option ProcessJob = gone_on verb context (job_of (jobs_at jobs c) i) in
    let is = gone-at jobs c i js new verb context there.0 (jobs-is system seats disc book jobs pairs c js old low at) made in
    let goes : context_of x ≡ Some context = ap (λ job. context_of (gone_on verb context job)) own.1 in
    ap (λ (l : List (Option ProcessJob)). kept_by seats disc book (slice_set jobs c l) pairs births) is
    ∙ (job-step seats disc book jobs pairs births c i x (subst (λ n. c < n) (sym old.job_lists) low) there.0 there.1
    ∙ ap (λ o. with_job c i o (kept_by seats disc book jobs pairs births)) goes)

-- ---- a process that is free

pub free-there : (system : System) (seats : List Seat) (disc : Told) (book : List Queue) (jobs : List (List (Option ProcessJob))) (pairs : List SeenPair) (c i : ℕ) (js : List (Option ProcessJob))
    → IsKeep system seats disc book jobs pairs → c < length system.classes → IsSome (at_process (queue_at book c) i) → js ≡ slice_index_or jobs c js
    → i - 1 < length js
free-there system seats disc book jobs pairs c i js old low some at =
    subst (λ (l : List (Option ProcessJob)). i - 1 < length l) (jobs-is system seats disc book jobs pairs c js old low at)
    (post-there system seats disc book jobs pairs c i old low some).1

pub free-post : (system : System) (seats : List Seat) (disc : Told) (book new_book : List Queue) (jobs : List (List (Option ProcessJob))) (pairs : List SeenPair) (c i : ℕ)
    (js new : List (Option ProcessJob))
    → IsKeep system seats disc book jobs pairs → c < length system.classes → IsSome (at_process (queue_at book c) i) → js ≡ slice_index_or jobs c js
    → new_book ≡ slice_set book c (with_free (queue_at book c) i) → new ≡ slice_set js (i - 1) None
    → IsKeep system seats disc new_book (slice_set jobs c new) pairs
free-post system seats disc book new_book jobs pairs c i js new old low some at freed made =
    let there = post-there system seats disc book jobs pairs c i old low some in
    let busy = (queue_at book c).busy in
    let found = at-work busy i some in
    let q : Queue = with_free (queue_at book c) i in
    let in_book : c < length book = subst (λ n. c < n) (sym old.classes) low in
    let mine = jobs-is system seats disc book jobs pairs c js old low at in
    subst (λ (l : List (Option ProcessJob)). IsKeep system seats disc new_book (slice_set jobs c l) pairs)
    (ap (λ (l : List (Option ProcessJob)). slice_set l (i - 1) None) mine ∙ sym made)
    (subst (λ (b : List Queue). IsKeep system seats disc b (slice_set jobs c (slice_set (jobs_at jobs c) (i - 1) None)) pairs) (sym freed)
    (keep-post system seats disc book (slice_set book c q) jobs pairs c i q None old low there.0 there.1
    (length-set book c q) (λ d ne. get_or-set_other book c d q no_queue ne) (get_or-set_same book c q no_queue in_book)
    (length-set busy (i - 1) None) (λ j ne. from-one-other busy i j None there.0 ne)
    (sym (ap request_terminal (from-one-same busy i None there.0 found.1))) tt))

pub free-kept : (system : System) (seats : List Seat) (disc : Told) (book new_book : List Queue) (jobs : List (List (Option ProcessJob))) (pairs : List SeenPair) (births c i : ℕ)
    (js new : List (Option ProcessJob))
    → IsKeep system seats disc book jobs pairs → c < length system.classes → IsSome (at_process (queue_at book c) i) → js ≡ slice_index_or jobs c js
    → new_book ≡ slice_set book c (with_free (queue_at book c) i) → new ≡ slice_set js (i - 1) None
    → kept_by seats disc new_book (slice_set jobs c new) pairs births ≡ free_process c i (kept_by seats disc book jobs pairs births)
free-kept system seats disc book new_book jobs pairs births c i js new old low some at freed made =
    let there = post-there system seats disc book jobs pairs c i old low some in
    let mine = jobs-is system seats disc book jobs pairs c js old low at in
    let put : List (List (Option ProcessJob)) = slice_set jobs c (slice_set (jobs_at jobs c) (i - 1) None) in
    ap (λ (b : List Queue). kept_by seats disc b (slice_set jobs c new) pairs births) freed
    ∙ (ap (λ (l : List (Option ProcessJob)). kept_by seats disc (slice_set book c (with_free (queue_at book c) i)) (slice_set jobs c l) pairs births)
    (made ∙ sym (ap (λ (l : List (Option ProcessJob)). slice_set l (i - 1) None) mine))
    ∙ (queue-step (λ queue. with_free queue i) seats disc book put pairs births c (with_free (queue_at book c) i) (subst (λ n. c < n) (sym old.classes) low) refl
    ∙ ap (at_class c (λ queue. with_free queue i)) (job-step seats disc book jobs pairs births c i None (subst (λ n. c < n) (sym old.job_lists) low) there.0 there.1)))

-- ---- a process that takes a request

-- its place among the jobs
pub take-place : (system : System) (seats : List Seat) (disc : Told) (book : List Queue) (jobs : List (List (Option ProcessJob))) (pairs : List SeenPair) (c p : ℕ) (r : Request)
    → IsKeep system seats disc book jobs pairs → c < length system.classes → taken (queue_at book c) ≡ Got p r
    → p - 1 < length (jobs_at jobs c)
take-place system seats disc book jobs pairs c p r old low e =
    let class = class-there system c low in
    let staff = old.staffed c class.0 class.1 in
    subst (λ n. p - 1 < n) (staff.book ∙ sym staff.jobs_are) (took (queue_at book c) p r e).there

pub take-there : (system : System) (seats : List Seat) (disc : Told) (book : List Queue) (jobs : List (List (Option ProcessJob))) (pairs : List SeenPair) (c p : ℕ) (r : Request) (js : List (Option ProcessJob))
    → IsKeep system seats disc book jobs pairs → c < length system.classes → taken (queue_at book c) ≡ Got p r → js ≡ slice_index_or jobs c js
    → p - 1 < length js
take-there system seats disc book jobs pairs c p r js old low e at =
    subst (λ (l : List (Option ProcessJob)). p - 1 < length l) (jobs-is system seats disc book jobs pairs c js old low at)
    (take-place system seats disc book jobs pairs c p r old low e)

-- the job of a request that is taken
abbrev pub job-for : Request → Context → Option ProcessJob
job-for r context = Some (record { terminal = r.terminal; context = context; verb = None })

pub take-post : (system : System) (seats : List Seat) (disc : Told) (book new_book : List Queue) (jobs : List (List (Option ProcessJob))) (pairs : List SeenPair) (c p : ℕ) (r : Request) (context : Context)
    (js new : List (Option ProcessJob))
    → IsKeep system seats disc book jobs pairs → c < length system.classes → taken (queue_at book c) ≡ Got p r → js ≡ slice_index_or jobs c js
    → new_book ≡ slice_set book c (after_take (queue_at book c)) → new ≡ slice_set js (p - 1) (job-for r context)
    → context.at_verb ≡ false
    → IsKeep system seats disc new_book (slice_set jobs c new) pairs
take-post system seats disc book new_book jobs pairs c p r context js new old low e at taking made fresh =
    let busy = (queue_at book c).busy in
    let q : Queue = after_take (queue_at book c) in
    let found = took (queue_at book c) p r e in
    let in_book : c < length book = subst (λ n. c < n) (sym old.classes) low in
    let mine = jobs-is system seats disc book jobs pairs c js old low at in
    subst (λ (l : List (Option ProcessJob)). IsKeep system seats disc new_book (slice_set jobs c l) pairs)
    (ap (λ (l : List (Option ProcessJob)). slice_set l (p - 1) (job-for r context)) mine ∙ sym made)
    (subst (λ (b : List Queue). IsKeep system seats disc b (slice_set jobs c (slice_set (jobs_at jobs c) (p - 1) (job-for r context))) pairs) (sym taking)
    (keep-post system seats disc book (slice_set book c q) jobs pairs c p q (job-for r context) old low found.up
    (take-place system seats disc book jobs pairs c p r old low e)
    (length-set book c q) (λ d ne. get_or-set_other book c d q no_queue ne) (get_or-set_same book c q no_queue in_book)
    (ap length found.busy ∙ length-set busy (p - 1) (Some r))
    (λ j ne. ap (λ xs. from-one xs j) found.busy ∙ from-one-other busy p j (Some r) found.up ne)
    (sym (ap request_terminal (ap (λ xs. from-one xs p) found.busy ∙ from-one-same busy p (Some r) found.up found.there))) fresh))

pub take-kept : (system : System) (seats : List Seat) (disc : Told) (book new_book : List Queue) (jobs : List (List (Option ProcessJob))) (pairs : List SeenPair) (births c p : ℕ) (r : Request) (context : Context)
    (js new : List (Option ProcessJob))
    → IsKeep system seats disc book jobs pairs → c < length system.classes → taken (queue_at book c) ≡ Got p r → js ≡ slice_index_or jobs c js
    → new_book ≡ slice_set book c (after_take (queue_at book c)) → new ≡ slice_set js (p - 1) (job-for r context)
    → kept_by seats disc new_book (slice_set jobs c new) pairs births
    ≡ kept_take c (process_of (taken (queue_at book c))) context (kept_by seats disc book jobs pairs births)
take-kept system seats disc book new_book jobs pairs births c p r context js new old low e at taking made =
    let found = took (queue_at book c) p r e in
    let mine = jobs-is system seats disc book jobs pairs c js old low at in
    let put : List (List (Option ProcessJob)) = slice_set jobs c (slice_set (jobs_at jobs c) (p - 1) (job-for r context)) in
    ap (λ (b : List Queue). kept_by seats disc b (slice_set jobs c new) pairs births) taking
    ∙ (ap (λ (l : List (Option ProcessJob)). kept_by seats disc (slice_set book c (after_take (queue_at book c))) (slice_set jobs c l) pairs births)
    (made ∙ sym (ap (λ (l : List (Option ProcessJob)). slice_set l (p - 1) (job-for r context)) mine))
    ∙ (queue-step after_take seats disc book put pairs births c (after_take (queue_at book c)) (subst (λ n. c < n) (sym old.classes) low) refl
    ∙ (ap (at_class c after_take) (job-step seats disc book jobs pairs births c p (job-for r context) (subst (λ n. c < n) (sym old.job_lists) low) found.up
    (take-place system seats disc book jobs pairs c p r old low e))
    ∙ ap (λ i. kept_take c i context (kept_by seats disc book jobs pairs births)) (sym (ap process_of e)))))
