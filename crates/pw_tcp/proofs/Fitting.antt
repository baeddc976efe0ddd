-- The entry that a step names fits its kind.
use Rattle.std.proofs.Common.{◌≡◌, ◌≢◌, ℕ, ◌<◌, ◌≤◌, ◌==◌, nat_lt, ◌⊎◌, ⊎_elim, inl, inr, Bool, true, false, ◌&&◌, cond, not, List, Option, Some, None, is_some, is_none, unwrap_or, refl, sym, ap, subst, ◌∙◌, arith}
use Rattle.std.proofs.lemmas.Bool.{true≢false, false≢true, eqb-true, eq-eqb, ltb-true, lt-ltb, or_parts, not-false}
use Rattle.std.specs.Option.{IfSome}
use Rattle.pw_base.proofs.Plain.{is_some-None}
use Rattle.pw_code.specs.declared.verb.Verb.{Verb}
use Rattle.pw_code.specs.declared.verb.Verb.TheVariants as verb
use Rattle.pw_event.specs.declared.event.Cause.{Cause}
use Rattle.pw_event.specs.declared.event.Cause.TheVariants as cause
use Rattle.pw_laws.proofs.Deciding.{both, itself, some, none}
use Rattle.pw_laws.proofs.decided.Terminals as decided
use Rattle.pw_laws.proofs.decided.Values as value
use Rattle.pw_laws.proofs.decided.Verbs as asked
use Rattle.pw_laws.specs.legal.Terminals.{holds_end, holds_start}
use Rattle.pw_laws.specs.legal.Values.{is_paired}
use Rattle.pw_laws.specs.legal.Verbs.{asks_redo}
use Rattle.pw_onecopy.specs.Attempt.{BeginsUnit}
use Rattle.pw_onecopy.specs.Behaviour.{Behaviour}
use Rattle.pw_onecopy.specs.Path.{PathAnswer, Ended, Dropped, entries_on, is_outside, unit_number}
use Rattle.pw_paired.specs.Failure.{Holds}
use Rattle.pw_paired.specs.State.{Paired, OpenUnit, State}
use Rattle.pw_paired.specs.Step.{Fits}
use Rattle.pw_paired.specs.Terminal.{CanStep, IsIdle, IsLive, IsOver, awaited_of, closed_path, closing_answer, next_verb, path_of, path_with}
use Rattle.pw_paired.specs.Units.{attempt_of, is_out, restarts_of}
use Rattle.pw_tcp.specs.Entries.{cause_of, class_of_send, step_entry}
use Rattle.pw_tcp.specs.InState.{FitsTogether, MayStep, is_within, next_step_in, note_of, pending_of, terminal_of}
use Rattle.pw_tcp.specs.NextStep.{MayAsk, ends_attempt, is_pending, is_restarting, is_to_begin, is_waiting, lacks_check, restart_of, send_step, step_of_verb}
use Rattle.pw_tcp.specs.declared.step.TcpStep.{TcpStep}
use Rattle.pw_tcp.specs.declared.step.TcpStep.TheVariants as step

-- an attempt that runs is that of an open unit
pub runs-now : (units : Option OpenUnit) → is_some (attempt_of units) ≡ true
    → (own : OpenUnit) × (start : List PathAnswer) × (units ≡ Some own) × (own.running ≡ Some start)
runs-now None h = absurd (false≢true h)
runs-now (Some own) h = let r = (some own.running).0 h in (own, r.0, refl, r.1)

-- two numbers that are not one
differ : (a b : ℕ) → (a == b) ≡ false → a ≢ b
differ a b e same = absurd (true≢false (sym (eq-eqb a b same) ∙ e))

differ-eqb : (b : Bool) {a c : ℕ} → (a == c) ≡ b → a ≢ c → b ≡ false
differ-eqb false e ne = refl
differ-eqb true {a} {c} e ne = absurd (ne (eqb-true a c e))

-- where a check lacks and the terminal does not wait, nothing is in flight
free-where : (flight held : Bool) → held ≡ false → (flight && not held) ≡ false → flight ≡ false
free-where false held h e = refl
free-where true true h e = absurd (true≢false h)
free-where true false h e = absurd (true≢false e)

-- what Send does outside and inside a transaction
pub send-cases : (within running same : Bool) → (within ≡ true → running ≡ true)
    → ((within ≡ false) × (running ≡ false) × (same ≡ false) × ((not within && not running && not same) ≡ true))
    ⊎ (((running ≡ true) × ((not within && not running && not same) ≡ false))
    ⊎ ((within ≡ false) × (running ≡ false) × (same ≡ true) × ((not within && not running && not same) ≡ false)))
send-cases true true same h = inr (inl (refl, refl))
send-cases true false same h = absurd (false≢true (h refl))
send-cases false true same h = inr (inl (refl, refl))
send-cases false false true h = inr (inr (refl, refl, refl, refl))
send-cases false false false h = inl (refl, refl, refl, refl)

module _ (sys : Behaviour) (state : State) (t : ℕ) where
  -- the entry of the step fits its kind
  abbrev pub Names : TcpStep → Type 0
  Names next = IfSome (step_entry sys state t next) (Fits sys state)

  -- A restart, or the suspension in its place.

  abbrev Restarting : Bool → Type 0
  Restarting full = Names (cond full step.Suspend step.Restart)

  restart-by : (own : OpenUnit) (start : List PathAnswer) → state.units t ≡ Some own → own.running ≡ Some start
      → own.number ≡ unit_number (path_of state t) → Holds sys state t own (cause_of state t)
      → restarts_of (state.units t) ≤ sys.max_restarts t
      → (full : Bool) → (restarts_of (state.units t) == sys.max_restarts t) ≡ full → Restarting full
  restart-by own start opened runs number holds few true e = record {
    unit = own;
    caused = record { is_open = opened; number = refl; start = start; runs = runs; holds = holds };
    full = sym (ap (λ units. restarts_of units) opened) ∙ eqb-true _ _ e;
  }
  restart-by own start opened runs number holds few false e = record {
    unit = own;
    caused = record { is_open = opened; number = number; start = start; runs = runs; holds = holds };
    few =
        let same : restarts_of (state.units t) ≡ own.restarts = ap (λ units. restarts_of units) opened in
        let other : restarts_of (state.units t) ≢ sys.max_restarts t = differ _ _ e in
        omega arith;
  }

  module _ (live : IsLive sys state t) (may : MayStep sys state t) (fits : FitsTogether sys state t) where
    restart-fits : (own : OpenUnit) (start : List PathAnswer) → state.units t ≡ Some own → own.running ≡ Some start
        → own.number ≡ unit_number (path_of state t) → Holds sys state t own (cause_of state t)
        → Names (restart_of (restarts_of (state.units t)) (sys.max_restarts t))
    restart-fits own start opened runs number holds =
        restart-by own start opened runs number holds may.few (restarts_of (state.units t) == sys.max_restarts t) refl

    -- the cause that the attempt restarts for
    held-cause : (own : OpenUnit) (p : Option Cause) → (state.terms t).pending ≡ p → Holds sys state t own (unwrap_or p cause.Redo)
        → Holds sys state t own (cause_of state t)
    held-cause own p e h =
        let P : Option Cause → Type 0 = λ q. Holds sys state t own (unwrap_or q cause.Redo) in subst P (sym e) h

    -- an attempt runs where a cause is pending
    pending-runs : (why : Cause) → (state.terms t).pending ≡ Some why → is_pending (pending_of (Some why)) ≡ true
        → is_some (attempt_of (state.units t)) ≡ true
    pending-runs why e h = may.runs.caused (ap (λ p. is_pending (pending_of p)) e ∙ h)

    restarts : (p : Option Cause) → (state.terms t).pending ≡ p
        → is_restarting (pending_of p) (next_verb sys state t) (is_paired (state.modes (sys.pair_of t))) ≡ true
        → Names (restart_of (restarts_of (state.units t)) (sys.max_restarts t))
    restarts None e h =
        let asks = (both (itself (is_paired (state.modes (sys.pair_of t)))) (itself (asks_redo (next_verb sys state t)))).0 h in
        let paired : state.modes (sys.pair_of t) ≡ Paired = (value.paired (state.modes (sys.pair_of t))).0 asks.0 in
        let redo : next_verb sys state t ≡ verb.Redo = (asked.redo (next_verb sys state t)).0 asks.1 in
        let r = runs-now (state.units t) (may.runs.ending (ap (λ v. ends_attempt v) redo)) in
        restart-fits r.0 r.1 r.2 r.3 (fits.paired_unit r.0 r.2 paired).number
        (held-cause r.0 None e (record { can = record { live = live; paired = paired; calm = e }; asks = redo }))
    restarts (Some (cause.Takeover p)) e h =
        let r = runs-now (state.units t) (pending-runs (cause.Takeover p) e refl) in
        restart-fits r.0 r.1 r.2 r.3 (fits.caused_unit r.0 (cause.Takeover p) r.2 e).number
        (held-cause r.0 (Some (cause.Takeover p)) e (record { pending = e; alone = fits.pending (cause.Takeover p) e }))
    restarts (Some (cause.Server k)) e h =
        let r = runs-now (state.units t) (pending-runs (cause.Server k) e refl) in
        restart-fits r.0 r.1 r.2 r.3 (fits.caused_unit r.0 (cause.Server k) r.2 e).number
        (held-cause r.0 (Some (cause.Server k)) e (record { pending = e; paired = (value.paired (state.modes (sys.pair_of t))).0 h }))
    restarts (Some (cause.Older o m)) e h = absurd (fits.pending (cause.Older o m) e)
    restarts (Some cause.Redo) e h = absurd (fits.pending cause.Redo e)

    -- where no restart is due and the pair is Paired, nothing is pending
    calm-now : (p : Option Cause) → (state.terms t).pending ≡ p
        → is_restarting (pending_of p) (next_verb sys state t) (is_paired (state.modes (sys.pair_of t))) ≡ false
        → is_paired (state.modes (sys.pair_of t)) ≡ true
        → ((state.terms t).pending ≡ None) × (asks_redo (next_verb sys state t) ≡ false)
    calm-now None e h paired = (e, ap (λ b. b && asks_redo (next_verb sys state t)) (sym paired) ∙ h)
    calm-now (Some (cause.Takeover p)) e h paired = absurd (true≢false h)
    calm-now (Some (cause.Server k)) e h paired = absurd (true≢false (sym paired ∙ h))
    calm-now (Some (cause.Older o m)) e h paired = absurd (true≢false (sym paired ∙ h))
    calm-now (Some cause.Redo) e h paired = absurd (true≢false (sym paired ∙ h))

    -- The step of the verb, where the terminal can step.

    module _ (can : CanStep sys state t) where
      flight-free : is_some (state.flight t) ≡ false → state.flight t ≡ None
      flight-free h = (none (state.flight t)).0 (free-none (state.flight t) h)
        where
          free-none : {A : Type 0} (o : Option A) → is_some o ≡ false → is_none o ≡ true
          free-none None h = refl
          free-none (Some x) h = absurd (true≢false h)

      -- a unit begins, once its start is held
      begin-fits : IsIdle state t → BeginsUnit (next_verb sys state t) (path_of state t)
          → (state.ended t).number ≢ unit_number (path_of state t) → IsOver state.ended (awaited_of (state.units t))
          → (held : Bool) → holds_start (state.memory t) (unit_number (path_of state t)) (path_of state t) ≡ held
          → (held ≡ false → is_some (state.flight t) ≡ false)
          → Names (cond (not held) step.CheckStart step.Begin)
      begin-fits idle begins new over true e free = record {
        can = can;
        idle = idle;
        begins = begins;
        number = refl;
        new = new;
        over = over;
        held = (decided.start_held _ _ _).0 e;
        restarts = refl;
      }
      begin-fits idle begins new over false e free = record {
        can = can;
        idle = idle;
        begins = begins;
        new = new;
        lacking = λ h. true≢false (sym ((decided.start_held _ _ _).1 h) ∙ e);
        free = flight-free (free refl);
      }

      -- the transaction ends, once its end is held
      commit-fits : next_verb sys state t ≡ verb.End
          → (held : Bool) → holds_end (state.memory t) (closed_path sys state t) ≡ held
          → (held ≡ false → is_some (state.flight t) ≡ false) → Names (cond (not held) step.CheckEnd step.Commit)
      commit-fits e true h free =
          let P : Verb → Type 0 = λ v. holds_end (state.memory t) (path_with (closing_answer v) (path_of state t)) ≡ true in
          record { can = can; asks = e; number = refl; held = (decided.end_held _ _).0 (subst P e h) }
      commit-fits e false h free = record {
        can = can;
        answer = Ended;
        closes = ap (λ v. closing_answer v) e;
        lacking = λ l. true≢false (sym ((decided.end_held _ _).1 l) ∙ h);
        free = flight-free (free refl);
      }

      back-fits : next_verb sys state t ≡ verb.Drop
          → (held : Bool) → holds_end (state.memory t) (closed_path sys state t) ≡ held
          → (held ≡ false → is_some (state.flight t) ≡ false) → Names (cond (not held) step.CheckEnd step.Back)
      back-fits e true h free =
          let P : Verb → Type 0 = λ v. holds_end (state.memory t) (path_with (closing_answer v) (path_of state t)) ≡ true in
          record { can = can; asks = e; number = refl; held = (decided.end_held _ _).0 (subst P e h) }
      back-fits e false h free = record {
        can = can;
        answer = Dropped;
        closes = ap (λ v. closing_answer v) e;
        lacking = λ l. true≢false (sym ((decided.end_held _ _).1 l) ∙ h);
        free = flight-free (free refl);
      }

      accept-fits : (screen : ℕ) → next_verb sys state t ≡ verb.Accept screen
          → (left : Bool) → nat_lt (entries_on (path_of state t)) (sys.entries t) ≡ left
          → Names (cond left step.Key step.NoEntries)
      accept-fits screen e true h =
          let more : entries_on (path_of state t) < sys.entries t = ltb-true _ _ h in
          record { can = can; screen = screen; asks = e; next = refl; exists = omega arith }
      accept-fits screen e false h =
          let most : entries_on (path_of state t) ≤ sys.entries t = fits.entries in
          let all : ¬ (entries_on (path_of state t) < sys.entries t) = λ lt. true≢false (sym (lt-ltb _ _ lt) ∙ h) in
          record { can = can; screen = screen; asks = e; all = omega arith }

      -- Send begins a unit, sends a request, or is answered again
      send-fits : (c : ℕ) (message : List ℕ) → next_verb sys state t ≡ verb.Send c message
          → is_out sys state t ≡ false → IsOver state.ended (awaited_of (state.units t))
          → (is_some (state.flight t) && (is_to_begin (terminal_of sys state t) (verb.Send c message) (is_within state t) (note_of sys state t)
          && not (holds_start (state.memory t) (unit_number (path_of state t)) (path_of state t))) ≡ false)
          → Names (step_of_verb (terminal_of sys state t) (verb.Send c message) (is_within state t) (note_of sys state t))
      send-fits c message e out over free =
          let held : Bool = holds_start (state.memory t) (unit_number (path_of state t)) (path_of state t) in
          let running : Bool = is_some (attempt_of (state.units t)) in
          let P : Bool → Type 0 = λ b. Names (cond (b && not held) step.CheckStart (send_step b running)) in
          let Q : Bool → Type 0 = λ b. (is_some (state.flight t) && (b && not held)) ≡ false in
          let R : Bool → Bool → Type 0 = λ b r. Names (cond (b && not held) step.CheckStart (send_step b r)) in
          ⊎_elim
          (λ w.
          let starts = w.3 in
          let outside : is_outside (path_of state t) ≡ true = not-false _ w.0 in
          let begins : BeginsUnit (next_verb sys state t) (path_of state t) =
          let B : Verb → Type 0 = λ v. BeginsUnit v (path_of state t) in subst B (sym e) outside in
          subst P (sym starts) (begin-fits (is_some-None _ w.1) begins (differ _ _ w.2) over held refl
          (λ lacks. free-where (is_some (state.flight t)) held lacks (subst Q starts free))))
          (⊎_elim
          (λ w.
          let r = runs-now (state.units t) w.0 in
          let unit = fits.paired_unit r.0 r.2 can.paired in
          subst P (sym w.1)
          (let S : Bool → Type 0 = λ b. Names (send_step false b) in
          subst S (sym w.0) (record {
            can = can;
            unit = r.0;
            is_open = r.2;
            number = unit.number;
            start = r.1;
            runs = r.3;
            message = message;
            asks = e ∙ ap (λ v. verb.Send v message) (sym (ap (λ v. class_of_send v) e));
            not_out = out;
          })))
          (λ w.
          subst P (sym w.3)
          (let S : Bool → Type 0 = λ b. Names (send_step false b) in
          subst S (sym w.1) (record {
            can = can;
            class = c;
            message = message;
            asks = e;
            outside = not-false _ w.0;
            number = refl;
            last = eqb-true _ _ w.2;
          }))))
          (send-cases (is_within state t) running ((state.ended t).number == unit_number (path_of state t)) may.runs.within)

      -- the step of each verb
      verb-fits : (v : Verb) → next_verb sys state t ≡ v → MayAsk v → asks_redo v ≡ false
          → is_out sys state t ≡ false → IsOver state.ended (awaited_of (state.units t))
          → (is_some (state.flight t) && lacks_check (terminal_of sys state t) v (is_within state t) (note_of sys state t)) ≡ false
          → Names (step_of_verb (terminal_of sys state t) v (is_within state t) (note_of sys state t))
      verb-fits verb.Show e asks redo out over free = record { can = can; asks = e; number = refl }
      verb-fits (verb.Accept screen) e asks redo out over free = accept-fits screen e _ refl
      verb-fits verb.Begin e asks redo out over free =
          let new : (state.ended t).number ≢ unit_number (path_of state t) = may.begins.new e in
          let running : is_some (attempt_of (state.units t)) ≡ false =
          not-so _ (λ h. true≢false (sym (may.begins.idle e h) ∙ ap (λ p. is_pending (pending_of p)) can.calm)) in
          let held : Bool = holds_start (state.memory t) (unit_number (path_of state t)) (path_of state t) in
          let to_begin : is_to_begin (terminal_of sys state t) verb.Begin (is_within state t) (note_of sys state t) ≡ true =
          to-begin _ _ running (differ-eqb _ refl new) in
          let P : Bool → Type 0 = λ b. Names (cond (b && not held) step.CheckStart step.Begin) in
          let Q : Bool → Type 0 = λ b. (is_some (state.flight t) && (b && not held)) ≡ false in
          let begins : BeginsUnit (next_verb sys state t) (path_of state t) =
          let B : Verb → Type 0 = λ v. BeginsUnit v (path_of state t) in subst B (sym e) tt in
          subst P (sym to_begin) (begin-fits (is_some-None _ running) begins new over held refl
          (λ lacks. free-where (is_some (state.flight t)) held lacks (subst Q to_begin free)))
        where
          not-so : (b : Bool) → ¬ (b ≡ true) → b ≡ false
          not-so true h = absurd (h refl)
          not-so false h = refl

          to-begin : (running same : Bool) → running ≡ false → same ≡ false → (true && not running && not same) ≡ true
          to-begin running same r s = rw r (rw s refl)
      verb-fits (verb.Send c message) e asks redo out over free = send-fits c message e out over free
      verb-fits verb.End e asks redo out over free =
          commit-fits e (holds_end (state.memory t) (closed_path sys state t)) refl (λ lacks. free-where _ _ lacks free)
      verb-fits verb.Drop e asks redo out over free =
          back-fits e (holds_end (state.memory t) (closed_path sys state t)) refl (λ lacks. free-where _ _ lacks free)
      verb-fits verb.Redo e asks redo out over free = absurd (true≢false redo)
      verb-fits verb.Stop e asks redo out over free = record { can = can; asks = e }
      verb-fits (verb.Fault code) e asks redo out over free = record { can = can; asks = e }
      verb-fits (verb.File call) e asks redo out over free = absurd asks
      verb-fits (verb.Reply reply) e asks redo out over free = absurd asks

    -- the next step, by whether a restart is due and whether the terminal waits
    chosen : (restarting waiting : Bool)
        → is_restarting (pending_of (state.terms t).pending) (next_verb sys state t) (is_paired (state.modes (sys.pair_of t))) ≡ restarting
        → is_waiting (terminal_of sys state t) (next_verb sys state t) (is_within state t) (note_of sys state t) ≡ waiting
        → Names (cond restarting (restart_of (restarts_of (state.units t)) (sys.max_restarts t))
        (cond waiting step.Wait (step_of_verb (terminal_of sys state t) (next_verb sys state t) (is_within state t) (note_of sys state t))))
    chosen true waiting r w = restarts (state.terms t).pending refl r
    chosen false true r w = tt
    chosen false false r w =
        let all = or_parts _ _ w in
        let three = or_parts _ _ all.0 in
        let two = or_parts _ _ three.0 in
        let paired = not-false _ two.0 in
        let calm = calm-now (state.terms t).pending refl r paired in
        let over : IsOver state.ended (awaited_of (state.units t)) = (decided.over state.ended (awaited_of (state.units t))).0 (not-false _ three.1) in
        verb-fits (record { live = live; paired = (value.paired (state.modes (sys.pair_of t))).0 paired; calm = calm.0 })
        (next_verb sys state t) refl may.asks calm.1 two.1 over all.1

    -- the entry that the next step names fits its kind
    pub next-fits : Names (next_step_in sys state t)
    next-fits = chosen _ _ refl refl
