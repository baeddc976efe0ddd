-- What is kept, where a server operates on a file.
use Rattle.std.proofs.Common.{◌≡◌, ℕ, true, List, [], length, Option, Some, None, ◌∙◌, refl, sym, ap, arith}
use Rattle.std.proofs.lemmas.Bool.{both_ways}
use Rattle.pw_entry_effects.specs.Can.{CanOperate}
use Rattle.pw_class.specs.declared.request.Request.{Request}
use Rattle.pw_code.specs.declared.context.Context.{Context}
use Rattle.pw_code.specs.declared.system.System.{System}
use Rattle.pw_code.specs.declared.unit.Unit as unit
use Rattle.pw_code.specs.declared.verb.Answer.TheVariants as answer
use Rattle.pw_code.specs.declared.verb.Verb.{Verb}
use Rattle.pw_code.specs.declared.verb.Verb.TheVariants as verb
use Rattle.pw_code_meaning.specs.OfSystem.{file_told}
use Rattle.pw_world_store.specs.Calls.{IsOperated, MayOperate}
use Rattle.pw_world_store.specs.Keeps.{IsRefused, IsVerbOf, JobHasVerb, KeepState, job_of, jobs_at, kept_in}
use Rattle.pw_world_state.specs.Asked.{answered_with, verb_in}
use Rattle.pw_world_state.specs.Changes.{kept_file, with_job}
use Rattle.pw_world_state.specs.Entered.{entered_file, file_at, file_by}
use Rattle.pw_world_state.specs.Kept.{Kept}
use Rattle.pw_locks.specs.Oldest.{IsOldest}
use Rattle.pw_onecopy.specs.Path.{FileResult}
use Rattle.pw_world_store.specs.Jobs.{context_of}
use Rattle.pw_world_store.specs.declared.job.ProcessJob.{ProcessJob}
use Rattle.pw_tmf.specs.Told.{Told}
use Rattle.pw_tmf.specs.declared.answer.DiscFault.TheVariants as fault
use Rattle.pw_tmf.specs.declared.answer.FileAnswer.TheVariants as done

-- the oldest of none is none
pub none-oldest : (holder : unit.Unit) (holders : List unit.Unit) → holders ≡ [] → IsOldest holder holders → ⊥
none-oldest holder holders none is =
    let among = is.among in
    let few : length holders ≡ 0 = ap (length {A = unit.Unit}) none in
    omega (arith, among.1, few)

-- where a job's context stands at a verb, that is beside it
verb-there : (system : System) (own : ProcessJob) (v : Option Verb) → own.verb ≡ v → IsVerbOf system own.context v
    → own.context.at_verb ≡ true → own.verb ≡ Some (verb_in system own.context)
verb-there system own None is has at = absurd (both_ways own.context.at_verb has at)
verb-there system own (Some v) is has at = is ∙ ap (λ (w : Verb). Some w) has.1

-- the job of a process whose context stands at a verb
pub record HasJob (system : System) (jobs : List (Option ProcessJob)) (i : ℕ) (context : Context) : Type 0 where
  pub own : ProcessJob
  pub there : job_of jobs i ≡ Some own
  pub is : own.context ≡ context
  pub reads : own.verb ≡ Some (verb_in system context)

has-job : (system : System) (jobs : List (Option ProcessJob)) (i : ℕ) (context : Context) (job : Option ProcessJob)
    → job_of jobs i ≡ job → JobHasVerb system job → context_of job ≡ Some context → context.at_verb ≡ true
    → HasJob system jobs i context
has-job system jobs i context None there has is at = absurd (cc is)
has-job system jobs i context (Some own) there has is at =
    let same : own.context ≡ context = cc is in
    record {
      own = own;
      there = there;
      is = same;
      reads = verb-there system own own.verb refl has (ap (λ (x : Context). x.at_verb) same ∙ at)
          ∙ ap (λ (x : Context). Some (verb_in system x)) same;
    }

module _ {D : Type 0} (told : D → Told) (old : KeepState D) (c i : ℕ) (can : CanOperate old.system (kept_in told old) c i) (has : JobHasVerb old.system (job_of (jobs_at old.jobs c) i)) where
  abbrev pub kept : Kept
  kept = kept_in told old

  pub job-there : HasJob old.system (jobs_at old.jobs c) i can.context
  job-there = has-job old.system (jobs_at old.jobs c) i can.context (job_of (jobs_at old.jobs c) i) refl has can.job can.at_verb

  -- the process may operate
  abbrev pub may : MayOperate told old c i
  may = record {
    there = can.class;
    own = job-there.own;
    job = job-there.there;
    call = can.call;
    asks = job-there.reads ∙ ap (λ (v : Verb). Some v) can.asks;
    request = can.request;
    post = can.post;
    known = can.known;
    runs = can.runs;
    fits = can.fits;
  }

-- the operation of a process, as the entry says it
file-is : (system : System) (kept : Kept) (c i : ℕ) (can : CanOperate system kept c i)
    → entered_file system c i kept
    ≡ file_at system c i (Some can.request) can.context (verb.File can.call) kept
file-is system kept c i can =
    ap (λ (o : Option Context). file_by system c i o kept) can.job
    ∙ (ap (λ (o : Option Request). file_at system c i o can.context (verb_in system can.context) kept) can.post
    ∙ ap (λ (v : Verb). file_at system c i (Some can.request) can.context v kept) can.asks)

module _ {D : Type 0} (told : D → Told) (old : KeepState D) (c i : ℕ) (can : CanOperate old.system (kept_in told old) c i) (has : JobHasVerb old.system (job_of (jobs_at old.jobs c) i)) (mid : KeepState D) where
  -- it is done, and the server goes on with its answer
  pub done-is : (status : ℕ) (content : Option (List ℕ)) (context : Context)
      → IsOperated told old c i (may told old c i can has) (done.Done status content) mid
      → context ≡ answered_with old.system (answer.FileDone status content) can.context
      → with_job c i (Some context) (kept_in told mid) ≡ entered_file old.system c i (kept_in told old)
  done-is status content context is made =
      ap (λ (k : KeepState D). with_job c i (Some context) (kept_in told k)) is.rest
      ∙ (ap (λ (d : Told). with_job c i (Some context) (record (kept_in told old) { disc = d })) is.operates.2
      ∙ (ap (λ (x : Context). kept_file c i can.request can.call x (kept_in told old))
      (made ∙ ap (λ (f : FileResult). answered_with old.system (file_told f) can.context) is.operates.1)
      ∙ sym (file-is old.system (kept_in told old) c i can)))

  -- no other unit bars it
  pub barred-not : (holder : unit.Unit) → IsOperated told old c i (may told old c i can has) (done.Conflict holder) mid → ⊥
  barred-not holder is = none-oldest holder _ can.free is.operates.0

  -- a refused operation leaves all but the disc's count
  pub failed-is : IsOperated told old c i (may told old c i can has) done.Failed mid → IsRefused told fault.Failed old mid
  failed-is is = record {
    system = ap (λ (k : KeepState D). k.system) is.rest;
    leaves = is.operates;
    rest = ap (kept_in told) is.rest;
  }

  pub short-is : IsOperated told old c i (may told old c i can has) done.Memory mid → IsRefused told fault.Memory old mid
  short-is is = record {
    system = ap (λ (k : KeepState D). k.system) is.rest;
    leaves = is.operates;
    rest = ap (kept_in told) is.rest;
  }
