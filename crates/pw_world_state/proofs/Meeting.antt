-- In every run the test of a cause that looks at all servers, read or not, tells which causes show at verbs.
use Rattle.std.proofs.Common.{◌≡◌, ◌⊎◌, inl, inr, ⊎_elim, ℕ, ◌+◌, ◌-◌, ◌<◌, ◌≤◌, ◌==◌, ◌&&◌, ◌||◌, nat_lt, List, Option, Some, None, Bool, true, false, not, is_some, length, Decides, refl, sym, ap, ap₂, subst, ◌∙◌, arith}
use Rattle.std.specs.Prelude.{slice_get}
use Rattle.pw_base.proofs.Plain.{some_is}
use Rattle.pw_class.specs.Queue.{at_process}
use Rattle.pw_class.specs.declared.request.Request.{Request}
use Rattle.pw_code.specs.Valid.{IsValid}
use Rattle.pw_code.specs.declared.context.Context.{Context}
use Rattle.pw_code.specs.declared.file.FileCall.{FileCall}
use Rattle.pw_code.specs.declared.system.ClassInfo.{ClassInfo}
use Rattle.pw_code.specs.declared.system.System.{System}
use Rattle.pw_code.specs.declared.unit.Unit as unit
use Rattle.pw_code.specs.declared.verb.Verb.TheVariants as verb
use Rattle.pw_event.specs.declared.event.Cause.{Cause}
use Rattle.pw_event.specs.declared.event.Cause.TheVariants.{Older, Redo, Server, Takeover}
use Rattle.pw_event.specs.declared.event.Event.{Event}
use Rattle.pw_event.specs.declared.script.FailLine.{FailLine}
use Rattle.pw_code_meaning.specs.OfSystem.{behaviour, processes_by}
use Rattle.pw_world_state.specs.Asked.{verb_in}
use Rattle.pw_world_state.specs.CauseTests as kept
use Rattle.pw_world_state.specs.CauseTests.{is_older, may_restart, may_suspend, most_restarts, work_meets}
use Rattle.pw_world_state.specs.ClassTests.{works_where}
use Rattle.pw_world_state.specs.Kept.{Kept}
use Rattle.pw_world_state.specs.Meeting.{IsRedoRead, MeetsAtVerb, ShowsAtVerb, UnitsMeet}
use Rattle.pw_world_state.specs.PairTests.{is_gone}
use Rattle.pw_world_state.specs.Stands.{Stands, StandsForClass}
use Rattle.pw_world_state.specs.Tested.{CauseTested, IsPlaced, IsServing}
use Rattle.pw_world_state.proofs.Agreeing.{there-is}
use Rattle.pw_world_state.proofs.Causing.{restart-same, suspend-same, told-same, work-same}
use Rattle.pw_world_state.proofs.Mays as mays
use Rattle.pw_world_state.proofs.Readings as readings
use Rattle.pw_world_state.proofs.Testing.{gone-as, own-mode}
use Rattle.pw_laws.specs.legal.Causes as legal
use Rattle.pw_laws.specs.legal.Values.{some_with}
use Rattle.pw_laws.specs.legal.Verbs.{asks_file}
use Rattle.pw_laws.proofs.Deciding.{below, both, denied, either, given, itself, like, number, one_with, some, some_below}
use Rattle.pw_laws.proofs.decided.Causes as decided
use Rattle.pw_laws.proofs.decided.Legality.{jobs-there}
use Rattle.pw_laws.proofs.decided.Values.{gone}
use Rattle.pw_laws.proofs.decided.Verbs as asked
use Rattle.pw_onecopy.specs.Behaviour.{Behaviour}
use Rattle.pw_onecopy.specs.IsBehaviour.{IsBehaviour}
use Rattle.pw_onecopy.specs.Path.{PathAnswer}
use Rattle.pw_paired.specs.End.{LegalSuspended}
use Rattle.pw_paired.specs.Failure.{LegalOlder, LegalRestart, Meets, unit_named}
use Rattle.pw_paired.specs.Serial as serial
use Rattle.pw_paired.specs.Server.{server_verb}
use Rattle.pw_paired.specs.State.{Gone, BeforeImage, Job, OpenUnit, State}
use Rattle.pw_paired.specs.Step.{IsRun, after}
use Rattle.pw_paired.specs.Units.{request_in, restarts_of}
use Rattle.pw_laws.proofs.requests.Queues.{works-queue}
use Rattle.pw_tmf.specs.Tells.{as_told, images_by}
use Rattle.pw_tmf.specs.Told.{ToldUnit}

job-of : (o : Option Job) (request : Request) → request_in o ≡ Some request → (job : Job) × (o ≡ Some job) × (job.request ≡ request)
job-of (Some job) request e = (job, refl, some_is e)
job-of None request e = absurd (cc e)

module _ (system : System) (script : List FailLine) (valid : IsValid system) (b : IsBehaviour (behaviour script system)) (log : List Event) (run : IsRun (behaviour script system) log)
    (own : Kept) (stands : Stands system script (after (behaviour script system) log) own) where
  abbrev sys : Behaviour
  sys = behaviour script system

  abbrev state : State
  state = after sys log

  -- ---- two units

  module _ (one other : unit.Unit) where
    -- a job whose next operation meets a lock of the other
    job-parts : (c : ℕ) (job : Job) → Decides (legal.job_meets sys state one other c job)
        ((job.request.terminal ≡ one.terminal) × ((job.request.unit ≡ one.number)
        × ((call : FileCall) × (server_verb sys c job ≡ verb.File call) × (legal.call_meets sys state other job call ≡ true))))
    job-parts c job =
        both (number job.request.terminal one.terminal) (both (number job.request.unit one.number)
        (asked.file (λ (call : FileCall). itself (legal.call_meets sys state other job call)) (server_verb sys c job)))

    -- what stands in a process
    in-process : (c i : ℕ) (info : ClassInfo) → slice_get system.classes c ≡ Some info → 1 ≤ i → i ≤ info.processes → at_process (own.queues c) i ≡ request_in ((state.classes c).busy i)
    in-process c i info here low high =
        let old : StandsForClass system info (state.classes c) (own.queues c) (own.jobs c) = stands.classes c info here in
        ap (λ q. at_process q i) old.queue_is ∙ works-queue info.processes i (state.classes c) low high

    -- a test of a process that passes
    works-sound : (c i : ℕ) (info : ClassInfo) → slice_get system.classes c ≡ Some info → 1 ≤ i → i ≤ info.processes → works_where own c i (work_meets system own one other) ≡ true → MeetsAtVerb sys state own one other
    works-sound c i info here low high e =
        let found = (one_with {P = λ request. some_with (work_meets system own one other request) (own.jobs c i) ≡ true} (λ request. itself (some_with (work_meets system own one other request) (own.jobs c i))) (at_process (own.queues c) i)).0 e in
        let context = (one_with {P = λ x. work_meets system own one other found.0 x ≡ true} (λ x. itself (work_meets system own one other found.0 x)) (own.jobs c i)).0 found.2 in
        let job = job-of ((state.classes c).busy i) found.0 (sym (in-process c i info here low high) ∙ found.1) in
        let parts = (both (itself (found.0.terminal == one.terminal)) (both (itself (found.0.unit == one.number)) (both (itself context.0.at_verb) (itself (asks_file (kept.call_meets own other found.0) (verb_in system context.0)))))).0 context.2 in
        let serving : IsServing system script state own c i = readings.serving system script valid b log run own stands c i job.0 job.1 context.0 context.1 parts.1.1.0 in
        let meets = (job-parts c serving.job).0 (sym (work-same system script state own stands c i serving one other) ∙ e) in
        record {
          meets = record {
            class = c;
            process = i;
            job = serving.job;
            at_work = serving.works;
            works = meets.0;
            unit_is = meets.1.0;
            call = meets.1.1.0;
            asks = meets.1.1.1;
            meets = meets.1.1.2;
          };
          context = context.0;
          is_kept = context.1;
          at_verb = parts.1.1.0;
        }

    works-complete : (m : MeetsAtVerb sys state own one other) → works_where own m.meets.class m.meets.process (work_meets system own one other) ≡ true
    works-complete m =
        let serving : IsServing system script state own m.meets.class m.meets.process =
        readings.serving system script valid b log run own stands m.meets.class m.meets.process m.meets.job m.meets.at_work m.context m.is_kept m.at_verb in
        work-same system script state own stands m.meets.class m.meets.process serving one other
        ∙ (ap (legal.job_meets sys state one other m.meets.class) (some_is (sym serving.works ∙ m.meets.at_work))
        ∙ (job-parts m.meets.class m.meets.job).1 (m.meets.works, (m.meets.unit_is, (m.meets.call, m.meets.asks, m.meets.meets))))

    abbrev Found : Type 0
    Found = (c : ℕ) × (c < length system.classes) × ((i : ℕ) × (i < processes_by (slice_get system.classes c)) × (works_where own c (i + 1) (work_meets system own one other) ≡ true))

    found : Decides (kept.meets system own one other) Found
    found = some_below (λ c. some_below (λ i. itself (works_where own c (i + 1) (work_meets system own one other))) (processes_by (slice_get system.classes c))) (length system.classes)

    of-found : Found → MeetsAtVerb sys state own one other
    of-found h =
        let info = there-is system.classes h.0 h.1 in
        let few : h.2.0 < info.0.processes = subst (λ n. h.2.0 < n) (ap processes_by info.1) h.2.1 in
        works-sound h.0 (h.2.0 + 1) info.0 info.1 (omega arith) (omega (arith, few)) h.2.2

    to-found : MeetsAtVerb sys state own one other → Found
    to-found m =
        let jobs = jobs-there sys b log run in
        let process = jobs.processes m.meets.class m.meets.process m.meets.job m.meets.at_work in
        let from_one = process.0 in
        let last = process.1 in
        let same : m.meets.process - 1 + 1 ≡ m.meets.process = omega (arith, from_one) in (
          m.meets.class,
          jobs.classes m.meets.class m.meets.process m.meets.job m.meets.at_work,
          (m.meets.process - 1, omega (arith, from_one, last), ap (λ i. works_where own m.meets.class i (work_meets system own one other)) same ∙ works-complete m),
        )

    pub meets-at-verb : Decides (kept.meets system own one other) (MeetsAtVerb sys state own one other)
    meets-at-verb = like found of-found to-found

  -- ---- causes

  module _ (t : ℕ) (low : t < length system.terminals) where
    placed : IsPlaced system t
    placed = readings.placed system script valid b log run t low

    -- the cause OLDER of an open unit of the terminal
    abbrev Shown : OpenUnit → ℕ → ℕ → Type 0
    Shown mine o m =
        (older : OpenUnit) × (state.units o ≡ Some older) × ((older.number ≡ m) × ((older.birth < mine.birth) × ((¬ (state.modes (sys.pair_of t) ≡ Gone))
        × (MeetsAtVerb sys state own (unit_named t mine) (unit_named o older) ⊎ MeetsAtVerb sys state own (unit_named o older) (unit_named t mine)))))

    older-is : (before : List BeforeImage) (mine : OpenUnit) (o m : ℕ) → is_older system own t (as_told before mine) o m
        ≡ some_with (λ older. older.number == m && (nat_lt older.birth mine.birth && (not (serial.is_gone (state.modes (sys.pair_of t)))
        && (kept.meets system own (unit_named t mine) (unit_named o older) || kept.meets system own (unit_named o older) (unit_named t mine))))) (state.units o)
    older-is before mine o m =
        ap (some_with _) (stands.disc.units o)
        ∙ told-same (images_by o state.before) _ _ (state.units o) (λ older is.
        ap (λ g. older.number == m && (nat_lt older.birth mine.birth && (not g && (kept.meets system own (unit_named t mine) (unit_named o older) || kept.meets system own (unit_named o older) (unit_named t mine)))))
        (ap is_gone (own-mode system script state own stands t placed) ∙ gone-as (state.modes (sys.pair_of t))))

    older-shows : (before : List BeforeImage) (mine : OpenUnit) (o m : ℕ) → Decides (is_older system own t (as_told before mine) o m) (Shown mine o m)
    older-shows before mine o m =
        subst (λ x. Decides x (Shown mine o m)) (sym (older-is before mine o m))
        (one_with (λ (older : OpenUnit). both (number older.number m) (both (below older.birth mine.birth) (both (denied (gone (state.modes (sys.pair_of t))))
        (either (meets-at-verb (unit_named t mine) (unit_named o older)) (meets-at-verb (unit_named o older) (unit_named t mine)))))) (state.units o))

    -- ---- RESTART and END SUSPENDED with the cause OLDER

    restarts-of : (mine : OpenUnit) → state.units t ≡ Some mine → (own.terminals t).restarts ≡ mine.restarts
    restarts-of mine is = (stands.terminals t placed.info placed.here).restarts ∙ ap restarts_of is

    abbrev told-of : OpenUnit → ToldUnit
    told-of mine = as_told (images_by t state.before) mine

    restart-is : (n o m : ℕ) → may_restart system own t n (Older o m)
        ≡ some_with (λ mine. mine.number == n && ((is_some mine.running && is_older system own t (told-of mine) o m) && nat_lt mine.restarts (most_restarts system t))) (state.units t)
    restart-is n o m =
        ap (some_with _) (stands.disc.units t)
        ∙ told-same (images_by t state.before) _ _ (state.units t) (λ mine is.
        ap (λ r. mine.number == n && ((is_some mine.running && is_older system own t (told-of mine) o m) && nat_lt r (most_restarts system t))) (restarts-of mine is))

    suspend-is : (o m : ℕ) → may_suspend system own t (Older o m)
        ≡ some_with (λ mine. (is_some mine.running && is_older system own t (told-of mine) o m) && mine.restarts == most_restarts system t) (state.units t)
    suspend-is o m =
        ap (some_with _) (stands.disc.units t)
        ∙ told-same (images_by t state.before) _ _ (state.units t) (λ mine is.
        ap (λ r. (is_some mine.running && is_older system own t (told-of mine) o m) && r == most_restarts system t) (restarts-of mine is))

    shown-legal : (mine : OpenUnit) (o m : ℕ) → Shown mine o m → LegalOlder sys state t mine o m
    shown-legal mine o m h = record {
      older = h.0;
      is_open = h.1;
      number = h.2.0;
      is_older = h.2.1.0;
      there = h.2.1.1.0;
      meets = ⊎_elim (λ x. inl x.meets) (λ x. inr x.meets) h.2.1.1.1;
    }

    shown-meet : (mine : OpenUnit) (o m : ℕ) → state.units t ≡ Some mine → Shown mine o m → UnitsMeet sys state own t o
    shown-meet mine o m is h = record { own = mine; is_own = is; other = h.0; is_other = h.1; meets = h.2.1.1.1 }

    to-shown : (mine : OpenUnit) (o m : ℕ) → state.units t ≡ Some mine → LegalOlder sys state t mine o m → UnitsMeet sys state own t o → Shown mine o m
    to-shown mine o m is l u =
        let same : u.own ≡ mine = some_is (sym u.is_own ∙ is) in
        let other : l.older ≡ u.other = some_is (sym l.is_open ∙ u.is_other) in (
          u.other,
          u.is_other,
          (
            ap (λ (x : OpenUnit). x.number) (sym other) ∙ l.number,
            (
              subst (λ (x : OpenUnit). x.birth < mine.birth) other l.is_older,
              (l.there, subst (λ (x : OpenUnit). MeetsAtVerb sys state own (unit_named t x) (unit_named o u.other) ⊎ MeetsAtVerb sys state own (unit_named o u.other) (unit_named t x)) same u.meets),
            ),
          ),
        )

    restart-older : (n o m : ℕ) → Decides (may_restart system own t n (Older o m)) (LegalRestart sys state t n (Older o m) × UnitsMeet sys state own t o)
    restart-older n o m =
        subst (λ x. Decides x (LegalRestart sys state t n (Older o m) × UnitsMeet sys state own t o)) (sym (restart-is n o m))
        (like (one_with (λ (mine : OpenUnit). both (number mine.number n) (both (both (some mine.running) (older-shows (images_by t state.before) mine o m)) (below mine.restarts (most_restarts system t)))) (state.units t))
        (λ h. (
          record {
            unit = h.0;
            caused = record { is_open = h.1; number = h.2.0; start = h.2.1.0.0.0; runs = h.2.1.0.0.1; holds = shown-legal h.0 o m h.2.1.0.1 };
            few = h.2.1.1;
          },
          shown-meet h.0 o m h.1 h.2.1.0.1,
        ))
        (λ l. let r = l.0 in (r.unit, r.caused.is_open, (r.caused.number, (((r.caused.start, r.caused.runs), to-shown r.unit o m r.caused.is_open r.caused.holds l.1), r.few)))))

    suspend-older : (o m : ℕ) → Decides (may_suspend system own t (Older o m)) (LegalSuspended sys state t (Older o m) × UnitsMeet sys state own t o)
    suspend-older o m =
        subst (λ x. Decides x (LegalSuspended sys state t (Older o m) × UnitsMeet sys state own t o)) (sym (suspend-is o m))
        (like (one_with (λ (mine : OpenUnit). both (both (some mine.running) (older-shows (images_by t state.before) mine o m)) (number mine.restarts (most_restarts system t))) (state.units t))
        (λ h. (
          record {
            unit = h.0;
            caused = record { is_open = h.1; number = refl; start = h.2.0.0.0; runs = h.2.0.0.1; holds = shown-legal h.0 o m h.2.0.1 };
            full = h.2.1;
          },
          shown-meet h.0 o m h.1 h.2.0.1,
        ))
        (λ l. let r = l.0 in (r.unit, r.caused.is_open, (((r.caused.start, r.caused.runs), to-shown r.unit o m r.caused.is_open r.caused.holds l.1), r.full))))

    -- ---- any cause

    restart-plain : (n : ℕ) (cause : Cause) → legal.is_conflict cause ≡ false → CauseTested system script state own t cause → Decides (may_restart system own t n cause) (LegalRestart sys state t n cause × Unit {0})
    restart-plain n cause plain tested =
        subst (λ x. Decides x (LegalRestart sys state t n cause × Unit {0})) (sym (restart-same system script state own stands t placed cause tested n))
        (like (given (decided.restart sys state t n cause) (λ conflict. absurd (cc (conflict, plain)))) (λ l. (l, tt)) (λ l. l.0))

    suspend-plain : (cause : Cause) → legal.is_conflict cause ≡ false → CauseTested system script state own t cause → Decides (may_suspend system own t cause) (LegalSuspended sys state t cause × Unit {0})
    suspend-plain cause plain tested =
        subst (λ x. Decides x (LegalSuspended sys state t cause × Unit {0})) (sym (suspend-same system script state own stands t placed cause tested))
        (like (given (decided.suspended sys state t cause) (λ conflict. absurd (cc (conflict, plain)))) (λ l. (l, tt)) (λ l. l.0))

    pub restart-shows : (n : ℕ) (cause : Cause) → IsRedoRead system own t cause → Decides (may_restart system own t n cause) (LegalRestart sys state t n cause × ShowsAtVerb sys state own t cause)
    restart-shows n (Older o m) read = restart-older n o m
    restart-shows n (Takeover p) read = restart-plain n (Takeover p) refl tt
    restart-shows n (Server k) read = restart-plain n (Server k) refl tt
    restart-shows n Redo read = restart-plain n Redo refl (mays.caused system script valid b log run own stands t low Redo read)

    pub suspend-shows : (cause : Cause) → IsRedoRead system own t cause → Decides (may_suspend system own t cause) (LegalSuspended sys state t cause × ShowsAtVerb sys state own t cause)
    suspend-shows (Older o m) read = suspend-older o m
    suspend-shows (Takeover p) read = suspend-plain (Takeover p) refl tt
    suspend-shows (Server k) read = suspend-plain (Server k) refl tt
    suspend-shows Redo read = suspend-plain Redo refl (mays.caused system script valid b log run own stands t low Redo read)
