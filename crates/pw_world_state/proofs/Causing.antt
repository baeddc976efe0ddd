-- The tests of causes are those of the state.
use Rattle.std.proofs.Common.{◌≡◌, inl, inr, ℕ, ◌+◌, ◌<◌, ◌==◌, ◌&&◌, ◌||◌, nat_lt, List, Option, Some, None, Bool, true, false, not, is_some, refl, sym, ap, ap₂, subst, ◌∙◌, length, arith}
use Rattle.std.specs.Prelude.{slice_get}
use Rattle.std.specs.List.{list_any}
use Rattle.std.specs.Option.{option_map}
use Rattle.std.proofs.lemmas.Bool.{eqb-true}
use Rattle.pw_base.proofs.Plain.{some_is}
use Rattle.pw_class.specs.Queue.{at_process}
use Rattle.pw_class.specs.declared.request.Request.{Request}
use Rattle.pw_code.specs.declared.context.Context.{Context}
use Rattle.pw_code.specs.declared.file.FileCall.{FileCall}
use Rattle.pw_code.specs.declared.lock.LockRule.{LockRule}
use Rattle.pw_code.specs.declared.system.ClassInfo.{ClassInfo}
use Rattle.pw_code.specs.declared.system.System.{System}
use Rattle.pw_code.specs.declared.unit.Unit as unit
use Rattle.pw_code.specs.declared.verb.Verb.{Verb}
use Rattle.pw_code.specs.declared.verb.Verb.TheVariants as verb
use Rattle.pw_event.specs.declared.event.Cause.{Cause}
use Rattle.pw_event.specs.declared.event.Cause.TheVariants.{Older, Takeover, Server, Redo}
use Rattle.pw_event.specs.declared.event.Ending.TheVariants.{Suspended}
use Rattle.pw_event.specs.declared.script.FailLine.{FailLine}
use Rattle.pw_code_meaning.specs.OfSystem.{behaviour, processes_by}
use Rattle.pw_world_state.specs.Asked.{verb_in}
use Rattle.pw_world_state.specs.CauseTests as kept
use Rattle.pw_world_state.specs.CauseTests.{call_meets, is_older, may_restart, may_suspend, most_restarts, work_meets}
use Rattle.pw_world_state.specs.Changes.{unit_at}
use Rattle.pw_world_state.specs.ClassTests.{works_where}
use Rattle.pw_world_state.specs.Kept.{Kept}
use Rattle.pw_world_state.specs.PairTests.{is_alone, is_gone}
use Rattle.pw_world_state.specs.Stands.{Stands, StandsForClass}
use Rattle.pw_world_state.specs.TerminalTests.{is_paired}
use Rattle.pw_world_state.specs.Tested.{CauseTested, IsPlaced, IsServing}
use Rattle.pw_world_state.proofs.Agreeing.{there-is}
use Rattle.pw_world_state.proofs.Serving.{unit-same, where-works}
use Rattle.pw_world_state.proofs.Testing.{alone-as, and-guard, any-same, can-same, gone-as, own-mode, paired-as, where-is}
use Rattle.pw_laws.specs.legal.Causes as legal
use Rattle.pw_laws.specs.legal.Causes.{is_legal_restart, job_meets}
use Rattle.pw_laws.specs.legal.Pairs.{is_legal_end}
use Rattle.pw_laws.specs.legal.Values.{is_server_by, is_takeover_by, some_with}
use Rattle.pw_laws.specs.legal.Verbs.{asks_file, asks_redo}
use Rattle.pw_locks.specs.Conflicts.{conflict, is_same_unit}
use Rattle.pw_locks.specs.declared.lock.Lock.{Lock}
use Rattle.pw_onecopy.specs.Operation.{lock_for}
use Rattle.pw_paired.specs.Failure.{unit_named}
use Rattle.pw_paired.specs.Server.{server_verb}
use Rattle.pw_paired.specs.State.{BeforeImage, Job, OpenUnit, State}
use Rattle.pw_paired.specs.Units.{request_in, restarts_of}
use Rattle.pw_laws.proofs.requests.Queues.{works-queue}
use Rattle.pw_tmf.specs.Tells.{as_told, images_by}
use Rattle.pw_tmf.specs.Told.{ToldUnit}

-- a test of what a disc tells of a unit is one of the unit
pub told-same : (before : List BeforeImage) (f : ToldUnit → Bool) (g : OpenUnit → Bool) (o : Option OpenUnit) → ((own : OpenUnit) → o ≡ Some own → f (as_told before own) ≡ g own) → some_with f (option_map (as_told before) o) ≡ some_with g o
told-same before f g None same = refl
told-same before f g (Some own) same = same own refl

module _ (system : System) (script : List FailLine) (state : State) (own : Kept) (stands : Stands system script state own) where
  module _ (c i : ℕ) (serving : IsServing system script state own c i) (one other : unit.Unit) where
    module _ (call : FileCall) where
      abbrev body : LockRule → (ℕ → ℕ) → (ℕ → List (List ℕ)) → List Lock → unit.Unit → Bool
      body rule keys files locks mine = list_any (λ held. is_same_unit held.unit other && conflict (lock_for rule (keys call.file) (files call.file) mine call) held) locks

      call-same : call_meets own other serving.job.request call ≡ legal.call_meets (behaviour script system) state other serving.job call
      call-same =
          ap (λ r. body r own.disc.key_length own.disc.files own.disc.locks (unit_at own serving.job.request.terminal serving.job.request.unit)) stands.disc.rule
          ∙ (ap (λ k. body (behaviour script system).rule k own.disc.files own.disc.locks (unit_at own serving.job.request.terminal serving.job.request.unit)) stands.disc.keys
          ∙ (ap (λ x. body (behaviour script system).rule (behaviour script system).key_length x own.disc.locks (unit_at own serving.job.request.terminal serving.job.request.unit)) stands.disc.files
          ∙ (ap (λ l. body (behaviour script system).rule (behaviour script system).key_length state.files l (unit_at own serving.job.request.terminal serving.job.request.unit)) stands.disc.locks
          ∙ ap (body (behaviour script system).rule (behaviour script system).key_length state.files state.locks) (unit-same system script state own stands c i serving))))

    by-verb : (v : Verb) → asks_file (call_meets own other serving.job.request) v ≡ asks_file (legal.call_meets (behaviour script system) state other serving.job) v
    by-verb (verb.File call) = call-same call
    by-verb verb.Show = refl
    by-verb (verb.Accept screen) = refl
    by-verb verb.Begin = refl
    by-verb (verb.Send class message) = refl
    by-verb verb.End = refl
    by-verb verb.Drop = refl
    by-verb verb.Redo = refl
    by-verb verb.Stop = refl
    by-verb (verb.Fault code) = refl
    by-verb (verb.Reply reply) = refl

    pub work-same : works_where own c i (work_meets system own one other) ≡ job_meets (behaviour script system) state one other c serving.job
    work-same =
        where-works system script state own stands c i serving (work_meets system own one other)
        ∙ ap (λ b. serving.job.request.terminal == one.terminal && (serving.job.request.unit == one.number && b))
        (ap (λ b. b && asks_file (call_meets own other serving.job.request) (verb_in system serving.context)) serving.at_verb
        ∙ (by-verb (verb_in system serving.context) ∙ ap (asks_file (legal.call_meets (behaviour script system) state other serving.job)) serving.says))

  module _ (one other : unit.Unit) (all : (c i : ℕ) (job : Job) → (state.classes c).busy i ≡ Some job → job.request.terminal ≡ one.terminal → IsServing system script state own c i) where
    -- a server for another terminal meets nothing
    none-of : (request : Request) (o : Option Context) → (request.terminal == one.terminal) ≡ false → some_with (work_meets system own one other request) o ≡ false
    none-of request None is = refl
    none-of request (Some context) is = ap (λ b. b && (request.unit == one.number && (context.at_verb && asks_file (call_meets own other request) (verb_in system context)))) is

    -- a process of a class
    process-same : (c i : ℕ) (info : ClassInfo) → slice_get system.classes c ≡ Some info → i < info.processes
        → works_where own c (i + 1) (work_meets system own one other) ≡ some_with (job_meets (behaviour script system) state one other c) ((state.classes c).busy (i + 1))
    process-same c i info here low = by ((state.classes c).busy (i + 1)) refl
      where
        at : at_process (own.queues c) (i + 1) ≡ request_in ((state.classes c).busy (i + 1))
        at =
            let old : StandsForClass system info (state.classes c) (own.queues c) (own.jobs c) = stands.classes c info here in
            ap (λ q. at_process q (i + 1)) old.queue_is ∙ works-queue info.processes (i + 1) (state.classes c) (omega arith) (omega (arith, low))

        whose : (job : Job) → (state.classes c).busy (i + 1) ≡ Some job → (mine : Bool) → (job.request.terminal == one.terminal) ≡ mine
            → works_where own c (i + 1) (work_meets system own one other) ≡ job_meets (behaviour script system) state one other c job
        whose job is true mine =
            let serving = all c (i + 1) job is (eqb-true job.request.terminal one.terminal mine) in
            work-same c (i + 1) serving one other ∙ ap (job_meets (behaviour script system) state one other c) (some_is (sym serving.works ∙ is))
        whose job is false mine =
            ap (some_with (λ request. some_with (work_meets system own one other request) (own.jobs c (i + 1)))) (at ∙ ap request_in is)
            ∙ (none-of job.request (own.jobs c (i + 1)) mine
            ∙ sym (ap (λ b. b && (job.request.unit == one.number && asks_file (legal.call_meets (behaviour script system) state other job) (server_verb (behaviour script system) c job))) mine))

        by : (o : Option Job) → (state.classes c).busy (i + 1) ≡ o → works_where own c (i + 1) (work_meets system own one other) ≡ some_with (job_meets (behaviour script system) state one other c) o
        by None is = ap (some_with (λ request. some_with (work_meets system own one other request) (own.jobs c (i + 1)))) (at ∙ ap request_in is)
        by (Some job) is = whose job is (job.request.terminal == one.terminal) refl

    meets-same : kept.meets system own one other ≡ legal.meets (behaviour script system) state one other
    unfolding legal.meets
    meets-same =
        any-same (length system.classes) _ _ (λ c low.
        let info = there-is system.classes c low in
        any-same (processes_by (slice_get system.classes c)) _ _ (λ i few. process-same c i info.0 info.1 (subst (λ n. i < n) (ap processes_by info.1) few)))

  module _ (t : ℕ) (placed : IsPlaced system t) (unit : OpenUnit) where
    older-same : (o m : ℕ) → CauseTested system script state own t (Older o m)
        → is_older system own t (as_told (images_by t state.before) unit) o m ≡ legal.is_legal_older (behaviour script system) state t unit o m
    older-same o m all =
        ap (some_with _) (stands.disc.units o)
        ∙ told-same (images_by o state.before) _ _ (state.units o) (λ older is.
        ap (λ b. older.number == m && (nat_lt older.birth unit.birth && b))
        (ap₂ (λ g b. not g && b) (ap is_gone (own-mode system script state own stands t placed) ∙ gone-as (state.modes ((behaviour script system).pair_of t)))
        (ap₂ (λ a b. a || b) (meets-same (unit_named t unit) (unit_named o older) (λ c i job works mine. all c i job works (inl mine)))
        (meets-same (unit_named o older) (unit_named t unit) (λ c i job works mine. all c i job works (inr mine))))))

    holds-same : (cause : Cause) → CauseTested system script state own t cause → kept.kept_cause_holds system own t (as_told (images_by t state.before) unit) cause ≡ legal.cause_holds (behaviour script system) state t unit cause
    holds-same (Older o m) tested = older-same o m tested
    holds-same (Takeover p) tested =
        ap₂ (λ c m. some_with (is_takeover_by p) c && m) (stands.terminals t placed.info placed.here).pending
        (ap is_alone (own-mode system script state own stands t placed) ∙ alone-as (state.modes ((behaviour script system).pair_of t)))
    holds-same (Server k) tested =
        ap₂ (λ c m. some_with (is_server_by k) c && m) (stands.terminals t placed.info placed.here).pending
        (ap is_paired (own-mode system script state own stands t placed) ∙ paired-as (state.modes ((behaviour script system).pair_of t)))
    holds-same Redo tested =
        let same = can-same system script state own stands t placed in
        and-guard _ _ _ _ same (λ e. let asking = tested (same ∙ e) in where-is system script state own stands t asking _ _ (ap asks_redo asking.says.verb))

  module _ (t : ℕ) (placed : IsPlaced system t) (cause : Cause) (tested : CauseTested system script state own t cause) where
    restarts-same : (unit : OpenUnit) → state.units t ≡ Some unit → (own.terminals t).restarts ≡ unit.restarts
    restarts-same unit is = (stands.terminals t placed.info placed.here).restarts ∙ ap restarts_of is

    pub restart-same : (n : ℕ) → may_restart system own t n cause ≡ is_legal_restart (behaviour script system) state t n cause
    restart-same n =
        ap (some_with _) (stands.disc.units t)
        ∙ told-same (images_by t state.before) _ _ (state.units t) (λ unit is.
        ap₂ (λ h r. unit.number == n && ((is_some unit.running && h) && nat_lt r (most_restarts system t))) (holds-same t placed unit cause tested) (restarts-same unit is))

    pub suspend-same : may_suspend system own t cause ≡ is_legal_end (behaviour script system) state t (Suspended cause)
    suspend-same =
        ap (some_with _) (stands.disc.units t)
        ∙ told-same (images_by t state.before) _ _ (state.units t) (λ unit is.
        ap₂ (λ h r. (is_some unit.running && h) && r == most_restarts system t) (holds-same t placed unit cause tested) (restarts-same unit is))
