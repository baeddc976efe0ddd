-- An attempt is backed out, and its terminal is at its start again.
use Rattle.std.proofs.Common.{◌≡◌, ℕ, ◌+◌, ◌||◌, List, [], ◌∷◌, Option, Some, None, Bool, true, false, cond, refl, sym, ap, subst, ◌∙◌}
use Rattle.std.specs.Prelude.{IsSome}
use Rattle.pw_pair.proofs.Calling.{start-ending, ending-stays}
use Rattle.pw_class.specs.Queue.{Queue, at_process, without, works_for}
use Rattle.pw_code.specs.declared.context.Context.{Context}
use Rattle.pw_code.specs.declared.system.ClassInfo.{ClassInfo}
use Rattle.pw_code.specs.declared.system.System.{System}
use Rattle.pw_code.specs.declared.system.TermInfo.{TermInfo}
use Rattle.pw_event.specs.declared.event.Cause.{Cause}
use Rattle.pw_event.specs.declared.script.FailLine.{FailLine}
use Rattle.pw_code_meaning.specs.OfSystem.{behaviour}
use Rattle.pw_world_state.specs.Arrivals.{StandsForPath}
use Rattle.pw_world_state.specs.Changes.{job_without, kept_restart, restarted, unit_at}
use Rattle.pw_world_state.specs.Kept.{Kept, KeptTerminal}
use Rattle.pw_world_state.specs.Stands.{Stands, StandsForClass, StandsForJob, StandsForKnown, StandsForTerminal, StandsIfAny}
use Rattle.pw_world_state.proofs.Components.{pairs-same, terminal-and-unit}
use Rattle.pw_world_state.proofs.Cancelled.{no-job}
use Rattle.pw_onecopy.specs.Path.{PathAnswer}
use Rattle.pw_paired.specs.Failure.{awaited_after, do_restart, with_restart, with_start_path}
use Rattle.pw_paired.specs.State.{Class, Job, PairMode, OpenUnit, State, Term}
use Rattle.pw_paired.specs.Units.{attempt_of, freed_of, only, request_in, without_requests}
use Rattle.pw_laws.proofs.requests.Queues.{cancelled-queue, works-queue}
use Rattle.pw_tmf.proofs.Telling.{tells-restart}

-- ---- the terminal

known : (system : System) (info : TermInfo) (start : List PathAnswer) (o : Option Context) → StandsIfAny (StandsForPath system info) (Some start) o → StandsForKnown system info start o × IsSome o
known system info start None h = absurd h
known system info start (Some context) h = (h, refl)

at-start : (system : System) (info : TermInfo) (at : PairMode) (term : Term) (own : Option OpenUnit) (unit : OpenUnit) (start : List PathAnswer) (cause : Cause) (kept : KeptTerminal)
    → own ≡ Some unit → unit.running ≡ Some start → StandsForTerminal system info at term own kept
    → StandsForTerminal system info at (with_start_path (attempt_of own) term) (with_restart cause own) (restarted cause kept)
at-start system info at term own unit start cause kept is_open runs old =
    subst (λ o. StandsForTerminal system info at term o kept → StandsForTerminal system info at (with_start_path (attempt_of o) term) (with_restart cause o) (restarted cause kept)) (sym is_open)
    (λ old.
    subst (λ a. StandsIfAny (StandsForPath system info) a kept.start → StandsForTerminal system info at (with_start_path a term) (with_restart cause (Some unit)) (restarted cause kept)) (sym runs)
    (λ begins.
    let k = known system info start kept.start begins in
    record {
      path = k.0;
      ready = tt;
      there = λ works lives. k.1;
      start = tt;
      restarts = ap (λ n. n + 1) old.restarts;
      awaits = ap (awaited_after cause) old.awaits;
      pending = refl;
      ending = old.ending;
    }) old.start)
    old

-- ---- the classes

freed-job : (R : Job → Context → Type 0) (b : Bool) (job : Job) (context : Context) → R job context → StandsIfAny R (cond b None (Some job)) (cond (b || false) None (Some context))
freed-job R true job context h = tt
freed-job R false job context h = h

works-on : (R : Job → Context → Type 0) (t : ℕ) (queue : Queue) (i : ℕ) (job : Option Job) (context : Option Context) → (IsSome job → at_process queue i ≡ request_in job)
    → StandsIfAny R job context → StandsIfAny R (freed_of (only t) job) (job_without (t ∷ []) (at_process queue i) context)
works-on R t queue i None None at h = no-job R (works_for t (at_process queue i) || false)
works-on R t queue i None (Some context) at h = absurd h
works-on R t queue i (Some job) None at h = absurd h
works-on R t queue i (Some job) (Some context) at h = rw (at refl) (freed-job R (only t job.request.terminal) job context h)

some-before : (t : ℕ) (job : Option Job) → IsSome (freed_of (only t) job) → IsSome job
some-before t None some = some
some-before t (Some job) some = refl

pub cancelled-stands : (system : System) (info : ClassInfo) (t : ℕ) (class : Class) (queue : Queue) (jobs : ℕ → Option Context) → StandsForClass system info class queue jobs
    → StandsForClass system info (without_requests (only t) class) (without t queue) (λ i. job_without (t ∷ []) (at_process queue i) (jobs i))
cancelled-stands system info t class queue jobs old = record {
  queue_is = ap (without t) old.queue_is ∙ sym (cancelled-queue info.processes t class);
  works_on = λ i. works-on (StandsForJob system info) t queue i (class.busy i) (jobs i)
      (λ some. let place = old.within i some in ap (λ q. at_process q i) old.queue_is ∙ works-queue info.processes i class place.0 place.1)
      (old.works_on i);
  within = λ i some. old.within i (some-before t (class.busy i) some);
}

pub restart-stands : (system : System) (script : List FailLine) (state : State) (kept : Kept) (t n : ℕ) (cause : Cause) (unit : OpenUnit) (start : List PathAnswer) → Stands system script state kept
    → state.units t ≡ Some unit → unit.running ≡ Some start → Stands system script (do_restart (behaviour script system) t cause state) (kept_restart t n cause kept)
restart-stands system script state kept t n cause unit start stands is_open runs = record {
  terminals = terminal-and-unit system state.modes state.terms state.units kept.terminals t _ (with_restart cause (state.units t)) (restarted cause (kept.terminals t)) stands.terminals
      (λ info here. at-start system info (state.modes info.tcp) (state.terms t) (state.units t) unit start cause (kept.terminals t) is_open runs (stands.terminals t info here));
  disc = tells-restart (behaviour script system) state kept.disc (unit_at kept t n) cause stands.disc;
  classes = λ c info here. cancelled-stands system info t (state.classes c) (kept.queues c) (kept.jobs c) (stands.classes c info here);
  pairs = pairs-same system state.modes state.terms _ state.memory state.flight kept.pairs (ending-stays state.terms t _ (start-ending (attempt_of (state.units t)) (state.terms t))) stands.pairs;
  births = stands.births;
}
