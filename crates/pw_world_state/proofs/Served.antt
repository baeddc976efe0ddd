-- What servers do.
use Rattle.std.proofs.Common.{◌≡◌, ℕ, zero, suc, ◌+◌, ◌<◌, ◌≤◌, List, [], ◌∷◌, Option, Some, None, true, false, cond, is_none, refl, sym, ap, subst, ◌∙◌, arith}
use Rattle.std.specs.Prelude.{IsSome, slice_get}
use Rattle.std.specs.Option.{option_map}
use Rattle.pw_base.proofs.Plain.{some_is}
use Rattle.pw_pair.proofs.Calling.{ending-stays}
use Rattle.pw_class.specs.Queue.{Queue, after_take, at_process, with_free}
use Rattle.pw_class.specs.declared.request.Request.{Request}
use Rattle.pw_code.specs.declared.context.Context.{Context}
use Rattle.pw_code.specs.declared.file.FileCall.{FileCall}
use Rattle.pw_code.specs.declared.system.ClassInfo.{ClassInfo}
use Rattle.pw_code.specs.declared.system.System.{System}
use Rattle.pw_code.specs.declared.verb.Verb.TheVariants as verb
use Rattle.pw_event.specs.declared.event.Cause.TheVariants.{Server}
use Rattle.pw_event.specs.declared.script.FailLine.{FailLine}
use Rattle.pw_code_meaning.specs.OfSystem.{behaviour, processes_by}
use Rattle.pw_world_state.specs.Changes.{birth_for, free_process, kept_fail_server, kept_file, kept_take, process_stops, with_job}
use Rattle.pw_world_state.specs.Kept.{Kept}
use Rattle.pw_world_state.specs.Stands.{Stands, StandsForClass, StandsForJob, StandsIfAny}
use Rattle.pw_world_state.proofs.Classes.{class-changed}
use Rattle.pw_world_state.proofs.Components.{pairs-same, terminal-changed}
use Rattle.pw_tmf.proofs.Leaving.{tells-same}
use Rattle.pw_onecopy.specs.Update.{upd}
use Rattle.pw_onecopy.proofs.Update.{upd-other, upd-same, upd_both, upd_elim}
use Rattle.pw_paired.specs.Failure.{do_fail_server, process_fails}
use Rattle.pw_paired.specs.Queues.{queue_of}
use Rattle.pw_paired.specs.Server as paired
use Rattle.pw_paired.specs.Server.{answer_on, do_file, do_job, do_operation, do_take, do_verb, first_free, server_verb, with_answer, with_first_taken, with_job_at}
use Rattle.pw_paired.specs.State.{Class, Job, OpenUnit, State}
use Rattle.pw_paired.specs.Units.{birth_of, request_in}
use Rattle.pw_onecopy.specs.Path.{PathAnswer}
use Rattle.pw_laws.proofs.requests.Queues.{next-queue, replied-queue, taken-queue, works-queue}
use Rattle.pw_tmf.specs.Operation.{after_operation}
use Rattle.pw_tmf.specs.Tells.{Tells, as_told, images_by}
use Rattle.pw_tmf.proofs.Telling.{tells-operate}

-- ---- one process

-- each process works on what its context stands for, where one is changed
job-changed : (system : System) (info : ClassInfo) (busy : ℕ → Option Job) (jobs : ℕ → ℕ → Option Context) (c i : ℕ) (job : Option Job) (new : Option Context)
    → ((j : ℕ) → StandsIfAny (StandsForJob system info) (busy j) (jobs c j)) → StandsIfAny (StandsForJob system info) job new
    → (j : ℕ) → StandsIfAny (StandsForJob system info) (upd busy i job j) (upd jobs c (upd (jobs c) i new) c j)
job-changed system info busy jobs c i job new old stands j =
    subst (λ (f : ℕ → Option Context). StandsIfAny (StandsForJob system info) (upd busy i job j) (f j)) (sym (upd-same jobs c (upd (jobs c) i new) c refl))
    (upd_both busy (jobs c) i job new j (λ a b. StandsIfAny (StandsForJob system info) a b) (λ is. stands) (λ ne. old j))

-- a process that works is one of the class, where one is changed
within-changed : (n : ℕ) (busy : ℕ → Option Job) (i : ℕ) (job : Option Job) → ((j : ℕ) → IsSome (busy j) → (1 ≤ j) × (j ≤ n)) → (IsSome job → (1 ≤ i) × (i ≤ n))
    → (j : ℕ) → IsSome (upd busy i job j) → (1 ≤ j) × (j ≤ n)
within-changed n busy i job old new j =
    upd_elim busy i job j (λ o. IsSome o → (1 ≤ j) × (j ≤ n))
    (λ is some. subst (λ x. (1 ≤ x) × (x ≤ n)) (sym is) (new some)) (λ ne some. old j some)

-- ---- TAKE

first-free-in : (busy : ℕ → Option Job) (process n i : ℕ) → first_free busy process n ≡ Some i → (process ≤ i) × (i < process + n)
first-free-in busy process zero i e = absurd (cc e)
first-free-in busy process (suc n) i e =
    elim (is_none (busy process)) as (λ b. cond b (Some process) (first_free busy (process + 1) n) ≡ Some i → (process ≤ i) × (i < process + suc n)) [
      | true ↦ λ e. let is : process ≡ i = some_is e in (omega (arith, is), omega (arith, is))
      | false ↦ λ e. let r = first-free-in busy (process + 1) n i e in (omega (arith, r.0), omega (arith, r.1))
    ] e

pub take-stands : (system : System) (script : List FailLine) (state : State) (kept : Kept) (c i : ℕ) (info : ClassInfo) (request : Request) (others : List Request) (new : Context)
    → Stands system script state kept → slice_get system.classes c ≡ Some info
    → (state.classes c).waiting ≡ request ∷ others → first_free (state.classes c).busy 1 ((behaviour script system).processes c) ≡ Some i
    → StandsForJob system info (record { request = request; done = [] }) new → Stands system script (do_take c i state) (kept_take c i new kept)
take-stands system script state kept c i info request others new stands there first free starts = record {
  terminals = stands.terminals;
  disc = tells-same (behaviour script system) state _ kept.disc refl refl refl refl refl stands.disc;
  classes = class-changed system state.classes kept.queues _ kept.jobs _ c (with_first_taken i class.waiting class)
      (λ d ne. upd-other kept.queues c _ d ne) (λ d ne. upd-other kept.jobs c _ d ne) stands.classes
      (λ other here.
      let is : info ≡ other = some_is (sym there ∙ here) in
      let old = stands.classes c other here in
      let free_in : first_free class.busy 1 other.processes ≡ Some i = subst (λ n. first_free class.busy 1 n ≡ Some i) (ap processes_by here) free in
      let place = first-free-in class.busy 1 other.processes i free_in in
      subst (λ w. StandsForClass system other (with_first_taken i w class) (upd kept.queues c (after_take (kept.queues c)) c) (upd kept.jobs c (upd (kept.jobs c) i (Some new)) c)) (sym first)
      (record {
        queue_is = upd-same kept.queues c _ c refl ∙ (ap after_take old.queue_is
            ∙ (sym (taken-queue other.processes i class request others first free_in).1 ∙ ap (λ w. queue_of other.processes (with_first_taken i w class)) first));
        works_on = job-changed system other class.busy kept.jobs c i (Some job) (Some new) old.works_on (subst (λ x. StandsForJob system x job new) is starts);
        within = within-changed other.processes class.busy i (Some job) old.within (λ _. (place.0, omega (arith, place.1)));
      }));
  pairs = stands.pairs;
  births = stands.births;
}
  where
    class : Class
    class = state.classes c

    job : Job
    job = record { request = request; done = [] }

-- ---- FILE

file-is : (system : System) (script : List FailLine) (state : State) (c i : ℕ) (job : Job) (call : FileCall) → (state.classes c).busy i ≡ Some job → server_verb (behaviour script system) c job ≡ verb.File call
    → do_file (behaviour script system) c i state ≡ do_operation (behaviour script system) c i job call state
file-is system script state c i job call works asks =
    ap (λ o. do_job (behaviour script system) c i o state) works ∙ ap (λ v. do_verb (behaviour script system) c i job v state) asks

pub file-stands : (system : System) (script : List FailLine) (state : State) (kept : Kept) (c i : ℕ) (info : ClassInfo) (job : Job) (call : FileCall) (own : OpenUnit) (start : List PathAnswer) (new : Context)
    → Stands system script state kept → slice_get system.classes c ≡ Some info → (state.classes c).busy i ≡ Some job → server_verb (behaviour script system) c job ≡ verb.File call
    → state.units job.request.terminal ≡ Some own → own.running ≡ Some start
    → StandsForJob system info (with_answer (answer_on (behaviour script system) state call) job) new
    → Stands system script (do_file (behaviour script system) c i state) (kept_file c i job.request call new kept)
file-stands system script state kept c i info job call own start new stands there works asks is_open runs goes =
    subst (λ s. Stands system script s (kept_file c i job.request call new kept)) (sym (file-is system script state c i job call works asks)) (record {
      terminals = stands.terminals;
      disc = subst (λ b. Tells (behaviour script system) (do_operation (behaviour script system) c i job call state) (after_operation kept.disc (record { terminal = job.request.terminal; number = job.request.unit; birth = b }) call)) (sym birth)
          (tells-operate (behaviour script system) state kept.disc c i job call own start stands.disc is_open runs);
      classes = class-changed system state.classes kept.queues kept.queues kept.jobs _ c (with_job_at i (Some next) (state.classes c))
          (λ d ne. refl) (λ d ne. upd-other kept.jobs c _ d ne) stands.classes
          (λ other here.
          let is : info ≡ other = some_is (sym there ∙ here) in
          let old = stands.classes c other here in
          record {
            queue_is = old.queue_is ∙ sym (next-queue other.processes i (state.classes c) job next works refl);
            works_on = job-changed system other (state.classes c).busy kept.jobs c i (Some next) (Some new) old.works_on (subst (λ x. StandsForJob system x next new) is goes);
            within = within-changed other.processes (state.classes c).busy i (Some next) old.within (λ some. old.within i (subst IsSome (sym works) refl));
          });
      pairs = stands.pairs;
      births = stands.births;
    })
  where
    next : Job
    next = with_answer (answer_on (behaviour script system) state call) job

    birth : birth_for (kept.disc.units job.request.terminal) kept.births ≡ birth_of (state.units job.request.terminal)
    birth =
        ap (λ o. birth_for o kept.births) (stands.disc.units job.request.terminal ∙ ap (option_map (as_told (images_by job.request.terminal state.before))) is_open)
        ∙ ap birth_of (sym is_open)

-- ---- a process is free

pub freed-stands : (system : System) (script : List FailLine) (state : State) (kept : Kept) (c i : ℕ) (info : ClassInfo) → Stands system script state kept → slice_get system.classes c ≡ Some info
    → (1 ≤ i) × (i ≤ info.processes) → Stands system script (paired.free_process c i state) (free_process c i kept)
freed-stands system script state kept c i info stands there place = record {
  terminals = stands.terminals;
  disc = tells-same (behaviour script system) state _ kept.disc refl refl refl refl refl stands.disc;
  classes = class-changed system state.classes kept.queues _ kept.jobs _ c (with_job_at i None (state.classes c))
      (λ d ne. upd-other kept.queues c _ d ne) (λ d ne. upd-other kept.jobs c _ d ne) stands.classes
      (λ other here.
      let is : info ≡ other = some_is (sym there ∙ here) in
      let old = stands.classes c other here in
      let high : i ≤ other.processes = subst (λ (x : ClassInfo). i ≤ x.processes) is place.1 in
      record {
        queue_is = upd-same kept.queues c _ c refl ∙ (ap (λ q. with_free q i) old.queue_is ∙ sym (replied-queue other.processes i (state.classes c) place.0 high));
        works_on = job-changed system other (state.classes c).busy kept.jobs c i None None old.works_on tt;
        within = within-changed other.processes (state.classes c).busy i None old.within (λ some. (place.0, high));
      });
  pairs = stands.pairs;
  births = stands.births;
}

-- a cause is pending for a terminal
pub pending-stands : (system : System) (script : List FailLine) (state : State) (kept : Kept) (t k : ℕ) → Stands system script state kept
    → Stands system script (record state { terms = upd state.terms t (record (state.terms t) { pending = Some (Server k) }) })
    (record kept { terminals = upd kept.terminals t (record (kept.terminals t) { pending = Some (Server k) }) })
pending-stands system script state kept t k stands = record {
  terminals = terminal-changed system state.modes state.terms state.units kept.terminals t _ (record (kept.terminals t) { pending = Some (Server k) }) stands.terminals
      (λ info here.
      let old = stands.terminals t info here in
      record { path = old.path; ready = old.ready; there = old.there; start = old.start; restarts = old.restarts; awaits = old.awaits; pending = refl; ending = old.ending });
  disc = tells-same (behaviour script system) state _ kept.disc refl refl refl refl refl stands.disc;
  classes = stands.classes;
  pairs = pairs-same system state.modes state.terms _ state.memory state.flight kept.pairs (ending-stays state.terms t _ refl) stands.pairs;
  births = stands.births;
}

pub fails-stands : (system : System) (script : List FailLine) (state : State) (kept : Kept) (c i k : ℕ) (info : ClassInfo) → Stands system script state kept → slice_get system.classes c ≡ Some info
    → 1 ≤ i → i ≤ info.processes → Stands system script (do_fail_server c i k state) (kept_fail_server c i k kept)
fails-stands system script state kept c i k info stands there low high =
    subst (λ o. Stands system script (do_fail_server c i k state) (process_stops c i k o kept)) (sym at_work) (by ((state.classes c).busy i))
  where
    at_work : at_process (kept.queues c) i ≡ request_in ((state.classes c).busy i)
    at_work = ap (λ q. at_process q i) (stands.classes c info there).queue_is ∙ works-queue info.processes i (state.classes c) low high

    by : (o : Option Job) → Stands system script (process_fails c i k o state) (process_stops c i k (request_in o) kept)
    by None = stands
    by (Some job) = pending-stands system script (paired.free_process c i state) (free_process c i kept) job.request.terminal k (freed-stands system script state kept c i info stands there (low, high))

-- ---- no entry: a server has run on

-- the context of one process is another one
another-job : (system : System) (info : ClassInfo) (class : Class) (queue : Queue) (jobs : ℕ → Option Context) (i : ℕ) (job : Job) (new : Context) → class.busy i ≡ Some job → StandsForJob system info job new
    → StandsForClass system info class queue jobs → StandsForClass system info class queue (upd jobs i (Some new))
another-job system info class queue jobs i job new works goes old = record {
  queue_is = old.queue_is;
  works_on = λ j. upd_elim jobs i (Some new) j (StandsIfAny (StandsForJob system info) (class.busy j))
      (λ is. subst (λ o. StandsIfAny (StandsForJob system info) o (Some new)) (sym (ap class.busy is ∙ works)) goes)
      (λ ne. old.works_on j);
  within = old.within;
}

pub ran-job : (system : System) (script : List FailLine) (state : State) (kept : Kept) (c i : ℕ) (info : ClassInfo) (job : Job) (new : Context) → Stands system script state kept → slice_get system.classes c ≡ Some info
    → (state.classes c).busy i ≡ Some job → StandsForJob system info job new → Stands system script state (with_job c i (Some new) kept)
ran-job system script state kept c i info job new stands there works goes = record {
  terminals = stands.terminals;
  disc = stands.disc;
  classes = λ d other here.
      upd_elim kept.jobs c (upd (kept.jobs c) i (Some new)) d (StandsForClass system other (state.classes d) (kept.queues d))
      (λ is.
      subst (λ x. StandsForClass system other (state.classes x) (kept.queues x) (upd (kept.jobs c) i (Some new))) (sym is)
      (another-job system other (state.classes c) (kept.queues c) (kept.jobs c) i job new works
      (subst (λ x. StandsForJob system x job new) (some_is (sym there ∙ (ap (slice_get system.classes) (sym is) ∙ here))) goes)
      (stands.classes c other (ap (slice_get system.classes) (sym is) ∙ here))))
      (λ ne. stands.classes d other here);
  pairs = stands.pairs;
  births = stands.births;
}
