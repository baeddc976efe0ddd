-- A server at work has a step, or the younger of two units whose locks meet has one.
use Rattle.std.proofs.Common.{◌≡◌, ◌≢◌, ◌⊎◌, inl, inr, ⊎_elim, ℕ, ◌<◌, ◌≤◌, Bool, true, false, not, ◌&&◌, ◌==◌, map, filter, List, [], ◌∷◌, Option, Some, None, if◌then◌else◌, refl, ap, sym, subst, arith, ◌∙◌}
use Rattle.std.specs.List.{AllByRecursion, list_any}
use Rattle.std.proofs.lemmas.Bool.{and_from, cases_Bool, cases_eq, cases_lt, eq-eqb, or_left, or_right, true≢false}
use Rattle.pw_code.specs.declared.file.FileCall.{FileCall}
use Rattle.pw_code.specs.declared.verb.Verb.{Verb}
use Rattle.pw_code.specs.declared.verb.Verb.TheVariants as verb
use Rattle.pw_code.specs.Locks.{mode_of}
use Rattle.pw_event.specs.declared.event.Cause.{Cause}
use Rattle.pw_event.specs.declared.event.Cause.TheVariants as cause
use Rattle.pw_event.specs.declared.event.Ending.TheVariants as ending
use Rattle.pw_event.specs.declared.event.Event.{Event}
use Rattle.pw_event.specs.declared.event.Event.TheVariants as event
use Rattle.pw_locks.specs.Conflicts.{conflict, exclude, holders, is_same_unit}
use Rattle.pw_locks.specs.declared.lock.Lock.{Lock}
use Rattle.pw_laws.proofs.records.Images.{restored-file}
use Rattle.pw_laws.specs.locking.Held.{IsHeld}
use Rattle.pw_laws.specs.locking.Seen.{AreFiles, files_at, verb_at}
use Rattle.pw_laws.proofs.alone.Alone.{Mid, Serving}
use Rattle.pw_laws.proofs.alone.AloneEntries.{AloneAt}
use Rattle.pw_laws.proofs.AttemptFiles.{IsLast, Outcome, attempt-fine, faults, one-end, outcome, outcome-last, replies}
use Rattle.pw_onecopy.specs.Attempt.{attempt}
use Rattle.pw_onecopy.specs.Behaviour.{Behaviour, Served}
use Rattle.pw_onecopy.specs.IsBehaviour.{IsBehaviour}
use Rattle.pw_onecopy.specs.Operation.{plain_op}
use Rattle.pw_onecopy.specs.Path.{PathAnswer}
use Rattle.pw_onecopy.specs.Play.{Play}
use Rattle.pw_paired.specs.Failure.{Holds, IsCaused, Meets, unit_named}
use Rattle.pw_paired.specs.Server.{Replies, answer_on, lock_of_job, server_verb}
use Rattle.pw_paired.specs.State.{Gone, Job, OpenUnit, State}
use Rattle.pw_paired.specs.Step.{IsRun, after, is_finished}
use Rattle.pw_paired.specs.Units.{birth_of, committed_files}
use Rattle.pw_laws.proofs.BeginsOnce.{few-restarts}
use Rattle.pw_laws.proofs.PairSteps.{step-of}
use Rattle.pw_laws.specs.progress.Running.{HasStep}
use Rattle.pw_laws.proofs.Births.{births-ok}
use Rattle.pw_laws.proofs.kept.Failing.{out-job}
use Rattle.pw_laws.proofs.requests.Requests.{AtWork, Place, place_at_work}
use Rattle.pw_laws.proofs.terms.KeepsEnds.{OutOk}
use Rattle.pw_laws.proofs.blocks.Fold.{fold_after}
use Rattle.pw_laws.proofs.blocks.Known.{Known, known}

-- a lock of a running unit that conflicts
record Holder (units : ℕ → Option OpenUnit) (own : Lock) (locks : List Lock) : Type 0 where
  lock : Lock
  held : IsHeld units lock
  conflicts : conflict own lock ≡ true
  among : (p : Lock → Bool) → p lock ≡ true → list_any p locks ≡ true

-- the lock is free, or one conflicts
find-holder : (units : ℕ → Option OpenUnit) (own : Lock) (locks : List Lock) → AllByRecursion (IsHeld units) locks → (holders own locks ≡ []) ⊎ Holder units own locks
find-holder units own [] held = inl refl
find-holder units own (lock ∷ locks) held = by (cases_Bool (conflict own lock)) (find-holder units own locks held.1)
  where
    by : (conflict own lock ≡ true) ⊎ (conflict own lock ≡ false) → (holders own locks ≡ []) ⊎ Holder units own locks → (holders own (lock ∷ locks) ≡ []) ⊎ Holder units own (lock ∷ locks)
    by (inl meets) rest = inr (record { lock = lock; held = held.0; conflicts = meets; among = λ p is. or_left (p lock) (list_any p locks) is })
    by (inr apart) (inl free) = inl (ap (λ (b : Bool). map (λ (x : Lock). x.unit) (if b then lock ∷ filter (conflict own) locks else filter (conflict own) locks)) apart ∙ free)
    by (inr apart) (inr h) =
        inr (record { lock = h.lock; held = h.held; conflicts = h.conflicts; among = λ p is. or_right (p lock) (list_any p locks) (h.among p is) })

-- the verbs at which a server is done
ends-run : (v : Verb) → ((call : FileCall) → v ≢ verb.File call) → IsLast v
ends-run (verb.File call) other = other call refl
ends-run verb.Show other = tt
ends-run (verb.Accept screen) other = tt
ends-run verb.Begin other = tt
ends-run (verb.Send class message) other = tt
ends-run verb.End other = tt
ends-run verb.Drop other = tt
ends-run verb.Redo other = tt
ends-run verb.Stop other = tt
ends-run (verb.Fault x) other = tt
ends-run (verb.Reply reply) other = tt

-- a server's verb: an operation, its reply or its run fault
data Asks (v : Verb) : Type 0 where
  operates : (call : FileCall) → v ≡ verb.File call → Asks v
  is_done : (reply : List ℕ) → v ≡ verb.Reply reply → Asks v
  is_faulty : (x : ℕ) → v ≡ verb.Fault x → Asks v

module _ (sys : Behaviour) (b : IsBehaviour sys) (log : List Event) (run : IsRun sys log) (unfinished : is_finished sys (after sys log) ≡ false) where
  abbrev s : State
  s = after sys log

  abbrev k : Known sys b (after sys log) (fold_after sys log)
  k = known sys b log run

  -- a running attempt for which a cause holds restarts, or its terminal is suspended
  pub caused-step : (t : ℕ) (u : OpenUnit) (q : List PathAnswer) → s.units t ≡ Some u → u.running ≡ Some q → (kind : Cause) → Holds sys s t u kind → HasStep sys s
  caused-step t u q is runs kind holds =
      let few = few-restarts sys b log run t u is in
      let caused : IsCaused sys s t u.number kind u = record { is_open = is; number = refl; start = q; runs = runs; holds = holds } in
      ⊎_elim
      (λ less. step-of sys s unfinished (event.Restart t u.number kind) refl (record { unit = u; caused = caused; few = less }))
      (λ full. step-of sys s unfinished (event.End t (ending.Suspended kind)) refl (record { unit = u; caused = caused; full = omega (arith, few, full) }))
      (cases_lt u.restarts (sys.max_restarts t))

  module _ (c p : ℕ) (job : Job) (works : (s.classes c).busy p ≡ Some job) where
    abbrev t : ℕ
    t = job.request.terminal

    out : OutOk sys s t (record { class = c; request = job.request })
    out = out-job sys b s k.inv c p job works

    at : AloneAt sys b s (fold_after sys log).reading.answers t out.unit out.start
    at = k.alone t out.unit out.start out.is_open out.runs

    -- its operations are those of a run by itself
    abbrev files : ℕ → List (List ℕ)
    files = (attempt sys t out.start (committed_files sys s) out.unit.restarts ((fold_after sys log).reading.answers t)).files

    asks : Asks (server_verb sys c job)
    asks = by (server_verb sys c job) refl
      where
        serving : (mid : ℕ → List (List ℕ)) × Serving sys b t out.start out.unit.restarts at.start files s.locks s.before c job mid
        serving =
            let here : at.place ≡ AtWork c p job = place_at_work s.classes at.place c p job works refl at.placed in
            let calm = at.alone.calm out.working out.calm (λ x faulty. absurd (let sends = out.asks in cc (sends, faulty))) in
            (calm.mid, subst (λ (x : Place). Mid sys b t out.start out.unit.restarts at.start files s.locks s.before x calm.mid) here calm.mid_is)

        are : AreFiles sys files
        are =
            (attempt-fine sys b t out.start out.unit.restarts at.start (committed_files sys s) (restored-file sys s.before k.records.images s.files k.records.are_files)
            ((fold_after sys log).reading.answers t) at.alone.is_attempt).are_files

        last-asks : IsLast (server_verb sys c job) → Asks (server_verb sys c job)
        last-asks last =
            let sv = serving.1 in
            let adds = b.adds_up c job.request.message files sv.known are in
            let comes = outcome (sys.serve c job.request.message files) (verb_at sys c job.request.message files adds.operations) (files_at sys c job.request.message files adds.operations) adds.comes in
            let here : verb_at sys c job.request.message files sv.n ≡ server_verb sys c job = ap (sys.ops c job.request.message) sv.done in
            let one = one-end sys c job.request.message files sv.n adds.operations (subst IsLast (sym here) last) (outcome-last comes) in
            of comes (sym (ap (λ (x : Play). sys.ops c job.request.message x.done) one) ∙ here)
          where
            of : {sv : Served} {v : Verb} {left : ℕ → List (List ℕ)} → Outcome sv v left → v ≡ server_verb sys c job → Asks (server_verb sys c job)
            of (replies reply sv_is v_is) same = is_done reply (sym same ∙ v_is)
            of (faults x sv_is v_is) same = is_faulty x (sym same ∙ v_is)

        by : (v : Verb) → server_verb sys c job ≡ v → Asks (server_verb sys c job)
        by (verb.File call) is = operates call is
        by v is = last-asks (subst IsLast (sym is) (ends-run v (λ call same. absurd (cc same))))

    -- its lock meets one of another unit: the younger of the two restarts
    meets-step : (call : FileCall) → server_verb sys c job ≡ verb.File call → Holder s.units (lock_of_job sys s job call) s.locks → HasStep sys s
    meets-step call is h = ⊎_elim (λ older. mine older) (λ younger. theirs younger) (cases_lt v.birth out.unit.birth)
      where
        o : ℕ
        o = h.lock.unit.terminal

        v : OpenUnit
        v = h.held.unit

        other : is_same_unit (record { terminal = t; number = job.request.unit; birth = birth_of (s.units t) }) h.lock.unit ≡ false
        other = not-same (is_same_unit (lock_of_job sys s job call).unit h.lock.unit) h.conflicts
          where
            not-same : (b : Bool) → (not b && exclude (lock_of_job sys s job call).file (lock_of_job sys s job call).span (lock_of_job sys s job call).mode h.lock) ≡ true → b ≡ false
            not-same true conflicts = absurd (true≢false (sym conflicts))
            not-same false conflicts = refl

        apart : t ≢ o
        apart same =
            true≢false
            (sym (and_from (t == o) (job.request.unit == h.lock.unit.number) (eq-eqb t o same)
            (eq-eqb job.request.unit h.lock.unit.number
            (out.number
            ∙ (ap (λ (w : OpenUnit). w.number) (let mine = out.is_open in let held = ap s.units same ∙ h.held.is_open in let one : out.unit ≡ h.held.unit = cc (mine, held) in one) ∙ sym h.held.number))))
            ∙ other)

        births : v.birth ≢ out.unit.birth
        births same = (births-ok sys log).apart t o out.unit v apart out.is_open h.held.is_open (sym same)

        there : (x : ℕ) (w : OpenUnit) → s.units x ≡ Some w → ¬ (s.modes (sys.pair_of x) ≡ Gone)
        there x w open_is gone = absurd (let none = (k.inv.terms x (k.inv.known x w open_is)).lost gone in cc (none, open_is))

        meeting : Meets sys s (unit_named t out.unit) (unit_named o v)
        meeting = record {
          class = c;
          process = p;
          job = job;
          at_work = works;
          works = refl;
          unit_is = out.number;
          call = call;
          asks = is;
          meets = h.among (λ held. is_same_unit held.unit (unit_named o v) && conflict (lock_of_job sys s job call) held)
              (and_from (is_same_unit h.lock.unit (unit_named o v)) (conflict (lock_of_job sys s job call) h.lock)
              (and_from (o == o) (h.lock.unit.number == v.number) (eq-eqb o o refl) (eq-eqb h.lock.unit.number v.number h.held.number)) h.conflicts);
        }

        mine : v.birth < out.unit.birth → HasStep sys s
        mine older =
            caused-step t out.unit out.start out.is_open out.runs (cause.Older o v.number)
            (record { older = v; is_open = h.held.is_open; number = refl; is_older = older; there = there t out.unit out.is_open; meets = inl meeting })

        theirs : out.unit.birth ≤ v.birth → HasStep sys s
        theirs younger =
            caused-step o v h.held.start h.held.is_open h.held.runs (cause.Older t out.unit.number)
            (record {
              older = out.unit;
              is_open = out.is_open;
              number = refl;
              is_older = ⊎_elim (λ same. absurd (births same)) (λ differ. omega (arith, younger, differ)) (cases_eq v.birth out.unit.birth);
              there = there o v h.held.is_open;
              meets = inr meeting;
            })

    -- a process at work has a step, or a unit has one for it
    pub process-step : HasStep sys s
    process-step = by asks
      where
        by : Asks (server_verb sys c job) → HasStep sys s
        by (operates call is) =
            ⊎_elim
            (λ free.
            step-of sys s unfinished (event.File c p (plain_op call.op) (mode_of sys.rule call.op) call.file (answer_on sys s call).status) refl
            (record { job = job; at_work = works; call = call; asks = is; op_is = refl; mode_is = refl; file_is = refl; status_is = refl; free = free }))
            (λ h. meets-step call is h)
            (find-holder s.units (lock_of_job sys s job call) s.locks k.locks.held)
        by (is_done reply is) =
            step-of sys s unfinished (event.Reply c p t None) refl (record { job = job; at_work = works; whose = refl; replies = subst (λ (v : Verb). Replies v None) (sym is) tt })
        by (is_faulty x is) =
            step-of sys s unfinished (event.Reply c p t (Some x)) refl (record { job = job; at_work = works; whose = refl; replies = subst (λ (v : Verb). Replies v (Some x)) (sym is) refl })
