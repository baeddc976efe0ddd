-- What a server at work was answered are answers to operations that it asked.
use Rattle.std.proofs.Common.{◌≡◌, ℕ, List, [], ◌∷◌, ◌++◌, append_assoc, Option, Bool, Some, None, sym, subst}
use Rattle.std.proofs.lemmas.List.{append-nil}
use Rattle.pw_code.specs.declared.file.FileCall.{FileCall}
use Rattle.pw_code.specs.declared.verb.Verb.TheVariants as verb
use Rattle.pw_event.specs.declared.event.Event.{Event}
use Rattle.pw_event.specs.declared.event.Event.TheVariants as event
use Rattle.pw_laws.proofs.induction.Failed.{end-any, fail-cases, process-cases}
use Rattle.pw_laws.proofs.induction.Runs.{holds-behind}
use Rattle.pw_laws.proofs.induction.Served.{file-cases, reply-any, take-is}
use Rattle.pw_laws.proofs.requests.Classes.{freed_from}
use Rattle.pw_onecopy.proofs.Update.{upd_elim}
use Rattle.pw_onecopy.specs.Behaviour.{Behaviour}
use Rattle.pw_onecopy.specs.IsBehaviour.{IsBehaviour}
use Rattle.pw_onecopy.specs.Path.{FileResult}
use Rattle.pw_onecopy.specs.Update.{upd}
use Rattle.pw_paired.specs.Failure.{is_of_pair}
use Rattle.pw_paired.specs.Server.{answer_on, with_answer}
use Rattle.pw_paired.specs.State.{Class, Job, State}
use Rattle.pw_paired.specs.Step.{Fits, IsRun, after, change}
use Rattle.pw_paired.specs.Units.{only, without_requests}
use Rattle.pw_run_bounds.specs.Bound.{IsServedFrom}

-- one answer more
served-more : (sys : Behaviour) (c : ℕ) (message : List ℕ) (before done : List FileResult) (answer : FileResult) (call : FileCall)
    → IsServedFrom sys c message before done → sys.ops c message (before ++ done) ≡ verb.File call
    → IsServedFrom sys c message before (done ++ answer ∷ [])
served-more sys c message before [] answer call served asks =
    ((call, subst (λ (all : List FileResult). sys.ops c message all ≡ verb.File call) (append-nil before) asks), tt)
served-more sys c message before (one ∷ done) answer call served asks = (
  served.0,
  served-more sys c message (before ++ one ∷ []) done answer call served.1
      (subst (λ (all : List FileResult). sys.ops c message all ≡ verb.File call) (sym (append_assoc before (one ∷ []) done)) asks),
)

-- each server at work was answered so
abbrev pub JobsServed : Behaviour → State → Type 0
JobsServed sys s = (c i : ℕ) (job : Job) → (s.classes c).busy i ≡ Some job → IsServedFrom sys c job.request.message [] job.done

module _ (sys : Behaviour) (s : State) (served : JobsServed sys s) where
  -- one class changes
  at-class : (c : ℕ) (next : Class) → ((i : ℕ) (job : Job) → next.busy i ≡ Some job → IsServedFrom sys c job.request.message [] job.done)
      → JobsServed sys (record s { classes = upd s.classes c next })
  at-class c next own d i job =
      upd_elim s.classes c next d (λ (class : Class). class.busy i ≡ Some job → IsServedFrom sys d job.request.message [] job.done)
      (λ is works. subst (λ (e : ℕ). IsServedFrom sys e job.request.message [] job.done) (sym is) (own i job works)) (λ _. served d i job)

  -- one process changes
  at-process : (c p : ℕ) (next : Option Job) → ((job : Job) → next ≡ Some job → IsServedFrom sys c job.request.message [] job.done)
      → (i : ℕ) (job : Job) → upd (s.classes c).busy p next i ≡ Some job → IsServedFrom sys c job.request.message [] job.done
  at-process c p next own i job =
      upd_elim (s.classes c).busy p next i (λ (work : Option Job). work ≡ Some job → IsServedFrom sys c job.request.message [] job.done)
      (λ _ works. own job works) (λ _. served c i job)

  freed : (c p : ℕ) (i : ℕ) (job : Job) → upd (s.classes c).busy p None i ≡ Some job → IsServedFrom sys c job.request.message [] job.done
  freed c p = at-process c p None (λ job none. absurd (cc none))

  -- requests are cancelled
  cancelled : (whose : ℕ → Bool) → JobsServed sys (record s { classes = λ c. without_requests whose (s.classes c) })
  cancelled whose c i job works = served c i job (freed_from whose ((s.classes c).busy i) job works)

  still : (entry : Event) → Fits sys s entry → JobsServed sys (change sys s entry)
  still (event.Show own phase attempt k) l = served
  still (event.Key own k) l = served
  still (event.CheckStart own) l = served
  still (event.CheckEnd own) l = served
  still (event.CheckCopy own) l = served
  still (event.Applied own) l = served
  still (event.Begin own n r) l = served
  still (event.Send own n c) l = at-class c _ (λ i job. served c i job)
  still (event.Take c p own) l =
      subst (JobsServed sys) (sym (take-is sys s c p own l))
      (at-class c _ (at-process c p (Some (record { request = l.request; done = [] }))
      (λ job is. let same : record { request = l.request; done = [] } ≡ job = cc is in subst (λ (own_job : Job). IsServedFrom sys c own_job.request.message [] own_job.done) same tt)))
  still (event.File c p op mode f status) l =
      file-cases sys s c p (JobsServed sys) served
      (λ job call works asks.
      at-class c _ (at-process c p (Some (with_answer (answer_on sys s call) job))
      (λ next is. let same : with_answer (answer_on sys s call) job ≡ next = cc is in
      subst (λ (own_job : Job). IsServedFrom sys c own_job.request.message [] own_job.done) same
      (served-more sys c job.request.message [] job.done (answer_on sys s call) call (served c p job works) asks))))
  still (event.Reply c p own fault) l =
      reply-any sys s c p own (JobsServed sys) fault (λ reply outside. at-class c _ (freed c p)) (λ reply inside. at-class c _ (freed c p)) (λ x. at-class c _ (freed c p))
  still (event.Again own n) l = served
  still (event.Commit own n) l = served
  still (event.Back own n) l = served
  still (event.Restart own n kind) l = cancelled (only own)
  still (event.FailTcp p primary k) l =
      fail-cases sys s (JobsServed sys) p served (λ paired. cancelled (is_of_pair sys p)) (λ member breaks. cancelled (is_of_pair sys p)) (λ has. served) primary
  still (event.FailServer c p k) l = process-cases sys s (JobsServed sys) c p k served (λ job works. at-class c _ (freed c p))
  still (event.Takeover p) l = served
  still (event.Raise p) l = served
  still (event.End own e) l = end-any sys s (JobsServed sys) own e served (cancelled (only own))

-- it is so behind every run
pub jobs-served : (sys : Behaviour) → IsBehaviour sys → (log : List Event) → IsRun sys log → JobsServed sys (after sys log)
jobs-served sys b =
    holds-behind sys (JobsServed sys) (λ log run entry legal served. still sys (after sys log) served entry legal.fits) (λ c i job works. absurd (cc works))
