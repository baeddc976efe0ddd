-- Where a terminal waits, no entry of its own fits but one that makes way for an older unit, and the
-- ending of a terminal whose pair is lost.
use Rattle.std.proofs.Common.{◌≡◌, ◌≢◌, ℕ, ◌==◌, ◌⊎◌, ⊎_elim, Bool, true, false, ◌&&◌, ◌||◌, cond, not, List, Option, Some, None, is_some, refl, sym, ap, subst, ◌∙◌}
use Rattle.std.proofs.lemmas.Bool.{true≢false, false≢true, eq-eqb, not-true}
use Rattle.pw_code.specs.declared.verb.Verb.{Verb}
use Rattle.pw_code.specs.declared.verb.Verb.TheVariants as verb
use Rattle.pw_event.specs.declared.event.Cause.{Cause}
use Rattle.pw_event.specs.declared.event.Cause.TheVariants as cause
use Rattle.pw_event.specs.declared.event.Ending.TheVariants as ending
use Rattle.pw_event.specs.declared.event.Event.{Event}
use Rattle.pw_event.specs.declared.event.Event.TheVariants as entry
use Rattle.pw_laws.proofs.Deciding.{both, either, itself}
use Rattle.pw_laws.proofs.decided.Terminals as decided
use Rattle.pw_laws.proofs.decided.Values as value
use Rattle.pw_laws.specs.legal.Terminals.{holds_end, holds_start, is_over}
use Rattle.pw_laws.specs.legal.Values.{is_paired}
use Rattle.pw_laws.specs.legal.Verbs.{asks_redo, asks_send}
use Rattle.pw_onecopy.specs.Attempt.{BeginsUnit}
use Rattle.pw_onecopy.specs.Behaviour.{Behaviour}
use Rattle.pw_onecopy.specs.Path.{PathAnswer, Ended, Dropped, unit_number}
use Rattle.pw_paired.specs.Failure.{Holds}
use Rattle.pw_paired.specs.State.{OpenUnit, State}
use Rattle.pw_paired.specs.Step.{Fits}
use Rattle.pw_paired.specs.Terminal.{CanStep, awaited_of, closed_path, closing_answer, next_verb, path_of, path_with}
use Rattle.pw_paired.specs.Units.{attempt_of, is_out, restarts_of}
use Rattle.pw_tcp.proofs.Fitting.{runs-now}
use Rattle.pw_tcp.specs.Entries.{makes_way, stepper_of}
use Rattle.pw_tcp.specs.InState.{FitsTogether, MayStep, WaitsAtStart, is_within, next_step_in, note_of, pending_of, terminal_of}
use Rattle.pw_tcp.specs.NextStep.{MayAsk, check_of, held_step, is_restarting, is_to_begin, is_waiting, lacks_check, restart_of, send_step, step_of_verb}
use Rattle.pw_tcp.specs.declared.step.TcpStep.{TcpStep}
use Rattle.pw_tcp.specs.declared.step.TcpStep.TheVariants as step
use Rattle.pw_tcp.specs.declared.terminal.Note.{Note}
use Rattle.pw_tcp.specs.declared.terminal.Terminal.{Terminal}

-- one of two steps is not Wait where neither is
either-goes : (b : Bool) (one other : TcpStep) → one ≢ step.Wait → other ≢ step.Wait → cond b one other ≢ step.Wait
either-goes true one other h k = h
either-goes false one other h k = k

restart-goes : (restarts max : ℕ) → restart_of restarts max ≢ step.Wait
restart-goes restarts max = either-goes (restarts == max) step.Suspend step.Restart (λ e. cc e) (λ e. cc e)

check-goes : (v : Verb) → check_of v ≢ step.Wait
check-goes verb.End = λ e. cc e
check-goes verb.Drop = λ e. cc e
check-goes _ = λ e. cc e

send-goes : (begins running : Bool) → send_step begins running ≢ step.Wait
send-goes true running = λ e. cc e
send-goes false true = λ e. cc e
send-goes false false = λ e. cc e

held-goes : (terminal : Terminal) (v : Verb) (within : Bool) (note : Note) → MayAsk v → asks_redo v ≡ false
    → held_step terminal v within note ≢ step.Wait
held-goes terminal verb.Show within note may redo = λ e. cc e
held-goes terminal (verb.Accept screen) within note may redo =
    either-goes terminal.entries_left step.Key step.NoEntries (λ e. cc e) (λ e. cc e)
held-goes terminal verb.Begin within note may redo = λ e. cc e
held-goes terminal (verb.Send c message) within note may redo = send-goes _ _
held-goes terminal verb.End within note may redo = λ e. cc e
held-goes terminal verb.Drop within note may redo = λ e. cc e
held-goes terminal verb.Redo within note may redo = absurd (true≢false redo)
held-goes terminal verb.Stop within note may redo = λ e. cc e
held-goes terminal (verb.Fault code) within note may redo = λ e. cc e
held-goes terminal (verb.File call) within note may redo = absurd may
held-goes terminal (verb.Reply reply) within note may redo = absurd may

-- Wait is chosen where no restart is due and the terminal waits
chosen : (restarting waiting : Bool) (one other : TcpStep) → one ≢ step.Wait → other ≢ step.Wait
    → cond restarting one (cond waiting step.Wait other) ≡ step.Wait → (restarting ≡ false) × (waiting ≡ true)
chosen true waiting one other h k e = absurd (h e)
chosen false true one other h k e = (refl, refl)
chosen false false one other h k e = absurd (k e)

-- the verb neither begins a unit nor ends one, nor sends or asks Redo
abbrev is_plain : Verb → Bool
is_plain verb.Show = true
is_plain (verb.Accept screen) = true
is_plain verb.Stop = true
is_plain (verb.Fault code) = true
is_plain _ = false

record IsPlain (v : Verb) : Type 0 where
  no_redo : asks_redo v ≡ false
  no_send : asks_send v ≡ false
  begins_none : (path : List PathAnswer) → BeginsUnit v path → ⊥
  needs_none : (terminal : Terminal) (within : Bool) (note : Note) → lacks_check terminal v within note ≡ false

plain : (v : Verb) → is_plain v ≡ true → IsPlain v
plain verb.Show h = record { no_redo = refl; no_send = refl; begins_none = λ path b. b; needs_none = λ terminal within note. refl }
plain (verb.Accept screen) h = record { no_redo = refl; no_send = refl; begins_none = λ path b. b; needs_none = λ terminal within note. refl }
plain verb.Stop h = record { no_redo = refl; no_send = refl; begins_none = λ path b. b; needs_none = λ terminal within note. refl }
plain (verb.Fault code) h = record { no_redo = refl; no_send = refl; begins_none = λ path b. b; needs_none = λ terminal within note. refl }
plain verb.Begin h = absurd (false≢true h)
plain (verb.Send c message) h = absurd (false≢true h)
plain verb.End h = absurd (false≢true h)
plain verb.Drop h = absurd (false≢true h)
plain verb.Redo h = absurd (false≢true h)
plain (verb.File call) h = absurd (false≢true h)
plain (verb.Reply reply) h = absurd (false≢true h)

-- the verb ends a transaction
record IsClosing (v : Verb) : Type 0 where
  no_redo : asks_redo v ≡ false
  no_send : asks_send v ≡ false
  begins_none : (path : List PathAnswer) → BeginsUnit v path → ⊥
  needs_end : (terminal : Terminal) (within : Bool) (note : Note) → lacks_check terminal v within note ≡ true → note.end_held ≡ false

closing : (v : Verb) (answer : PathAnswer) → closing_answer v ≡ Some answer → IsClosing v
closing verb.End answer h = record { no_redo = refl; no_send = refl; begins_none = λ path b. b; needs_end = λ terminal within note l. not-true _ l }
closing verb.Drop answer h = record { no_redo = refl; no_send = refl; begins_none = λ path b. b; needs_end = λ terminal within note l. not-true _ l }
closing verb.Show answer h = cc
closing (verb.Accept screen) answer h = cc
closing verb.Begin answer h = cc
closing (verb.Send c message) answer h = cc
closing verb.Redo answer h = cc
closing verb.Stop answer h = cc
closing (verb.Fault code) answer h = cc
closing (verb.File call) answer h = cc
closing (verb.Reply reply) answer h = cc

-- the verb begins a unit
record IsBeginning (v : Verb) : Type 0 where
  no_redo : asks_redo v ≡ false
  needs_start : (terminal : Terminal) (within : Bool) (note : Note) → lacks_check terminal v within note ≡ true
      → (is_to_begin terminal v within note ≡ true) × (note.start_held ≡ false)

needs : (begins held : Bool) → (begins && not held) ≡ true → (begins ≡ true) × (held ≡ false)
needs begins held l = let k = (both (itself begins) (itself (not held))).0 l in (k.0, not-true _ k.1)

beginning : (v : Verb) (path : List PathAnswer) → BeginsUnit v path → IsBeginning v
beginning verb.Begin path h = record { no_redo = refl; needs_start = λ terminal within note l. needs _ _ l }
beginning (verb.Send c message) path h = record { no_redo = refl; needs_start = λ terminal within note l. needs _ _ l }
beginning verb.End path h = absurd h
beginning verb.Drop path h = absurd h
beginning verb.Show path h = absurd h
beginning (verb.Accept screen) path h = absurd h
beginning verb.Redo path h = absurd h
beginning verb.Stop path h = absurd h
beginning (verb.Fault code) path h = absurd h
beginning (verb.File call) path h = absurd h
beginning (verb.Reply reply) path h = absurd h

-- no attempt runs
not-running : (attempt : Option (List PathAnswer)) → attempt ≡ None → is_some attempt ≡ true → ⊥
not-running attempt e h = true≢false (sym h ∙ ap (λ a. is_some a) e)

module _ (sys : Behaviour) (state : State) (t : ℕ) (may : MayStep sys state t) (fits : FitsTogether sys state t)
    (wait : next_step_in sys state t ≡ step.Wait) where
  -- a restart that is due is no wait
  no-restart : is_restarting (pending_of (state.terms t).pending) (next_verb sys state t) (is_paired (state.modes (sys.pair_of t))) ≡ true → ⊥
  no-restart h =
      restart-goes (restarts_of (state.units t)) (sys.max_restarts t)
      (ap (λ b. cond b (restart_of (restarts_of (state.units t)) (sys.max_restarts t))
      (cond (is_waiting (terminal_of sys state t) (next_verb sys state t) (is_within state t) (note_of sys state t)) step.Wait
      (step_of_verb (terminal_of sys state t) (next_verb sys state t) (is_within state t) (note_of sys state t)))) (sym h) ∙ wait)

  -- an entry of a terminal that can step finds a reason to wait, and each of them bars it
  bar : CanStep sys state t → asks_redo (next_verb sys state t) ≡ false
      → (is_out sys state t ≡ true → ⊥)
      → ((is_over state.ended (awaited_of (state.units t)) ≡ true → ⊥) → WaitsAtStart sys state t → ⊥)
      → (is_some (state.flight t) ≡ true → lacks_check (terminal_of sys state t) (next_verb sys state t) (is_within state t) (note_of sys state t) ≡ true → ⊥)
      → ⊥
  bar can redo out awaited lacks =
      let terminal : Terminal = terminal_of sys state t in
      let v : Verb = next_verb sys state t in
      let within : Bool = is_within state t in
      let note : Note = note_of sys state t in
      let waiting = chosen (is_restarting terminal.pending v note.paired) (is_waiting terminal v within note)
      (restart_of terminal.restarts (sys.max_restarts t)) (step_of_verb terminal v within note)
      (restart-goes terminal.restarts (sys.max_restarts t))
      (either-goes (lacks_check terminal v within note) (check_of v) (held_step terminal v within note)
      (check-goes v) (held-goes terminal v within note may.asks redo)) wait in
      let paired : is_paired (state.modes (sys.pair_of t)) ≡ true = (value.paired (state.modes (sys.pair_of t))).1 can.paired in
      ⊎_elim
      (⊎_elim
      (⊎_elim (λ h. true≢false (sym paired ∙ not-true _ h)) out)
      (λ h.
      let open_still : is_over state.ended (awaited_of (state.units t)) ≡ true → ⊥ = λ over. true≢false (sym over ∙ not-true _ h) in
      awaited open_still (fits.awaited can.paired open_still)))
      (λ h. lacks h.0 h.1)
      (reasons (not note.paired) terminal.request_out terminal.awaited_open note.in_flight (lacks_check terminal v within note) waiting.1)
    where
      reasons : (a b c d e : Bool) → (a || b || c || (d && e)) ≡ true
          → (((a ≡ true) ⊎ (b ≡ true)) ⊎ (c ≡ true)) ⊎ ((d ≡ true) × (e ≡ true))
      reasons a b c d e h =
          (either (either (either (itself a) (itself b)) (itself c)) (both (itself d) (itself e))).0 h

  bar-plain : CanStep sys state t → (v : Verb) → next_verb sys state t ≡ v → is_plain v ≡ true → ⊥
  bar-plain can v e h =
      let P : Verb → Type 0 = λ w. IsPlain w in
      let p = subst P (sym e) (plain v h) in
      bar can p.no_redo (λ out. true≢false (sym (fits.out out) ∙ p.no_send)) (λ open_still w. p.begins_none _ w.begins)
      (λ flies lacks. true≢false (sym lacks ∙ p.needs_none (terminal_of sys state t) (is_within state t) (note_of sys state t)))

  bar-closing : CanStep sys state t → (answer : PathAnswer) → closing_answer (next_verb sys state t) ≡ Some answer
      → (is_some (state.flight t) ≡ true → holds_end (state.memory t) (closed_path sys state t) ≡ false → ⊥) → ⊥
  bar-closing can answer e lacking =
      let p = closing (next_verb sys state t) answer e in
      bar can p.no_redo (λ out. true≢false (sym (fits.out out) ∙ p.no_send)) (λ open_still w. p.begins_none _ w.begins)
      (λ flies lacks. lacking flies (p.needs_end (terminal_of sys state t) (is_within state t) (note_of sys state t) lacks))

  -- an open unit of a paired terminal has not ended
  still-open : CanStep sys state t → (own : OpenUnit) → state.units t ≡ Some own → (state.ended t).number ≡ unit_number (path_of state t) → ⊥
  still-open can own opened e = let unit = fits.paired_unit own opened can.paired in unit.open_still (e ∙ sym unit.number)

  -- a cause other than OLDER is a restart that is due
  bar-cause : (own : OpenUnit) (why : Cause) → Holds sys state t own why → makes_way (entry.Restart t 0 why) ≡ true
  bar-cause own (cause.Older o m) h = refl
  bar-cause own (cause.Takeover p) h = absurd (no-restart (ap (λ q. is_restarting (pending_of q) (next_verb sys state t) (is_paired (state.modes (sys.pair_of t)))) h.pending))
  bar-cause own (cause.Server k) h =
      absurd (no-restart (ap (λ q. is_restarting (pending_of q) (next_verb sys state t) (is_paired (state.modes (sys.pair_of t)))) h.pending
      ∙ (value.paired (state.modes (sys.pair_of t))).1 h.paired))
  bar-cause own cause.Redo h =
      absurd (no-restart (ap (λ q. is_restarting (pending_of q) (next_verb sys state t) (is_paired (state.modes (sys.pair_of t)))) h.can.calm
      ∙ (both (itself (is_paired (state.modes (sys.pair_of t)))) (itself (asks_redo (next_verb sys state t)))).1
      ((value.paired (state.modes (sys.pair_of t))).1 h.can.paired, ap (λ v. asks_redo v) h.asks)))

  -- where Send needs a check, no attempt runs, and the unit has not ended
  lacks-at-send : (c : ℕ) (message : List ℕ)
      → lacks_check (terminal_of sys state t) (verb.Send c message) (is_within state t) (note_of sys state t) ≡ true
      → (is_some (attempt_of (state.units t)) ≡ false) × (((state.ended t).number == unit_number (path_of state t)) ≡ false)
  lacks-at-send c message lacks =
      let k = (both (both (both (itself (not (is_within state t))) (itself (not (is_some (attempt_of (state.units t))))))
      (itself (not ((state.ended t).number == unit_number (path_of state t)))))
      (itself (not (holds_start (state.memory t) (unit_number (path_of state t)) (path_of state t))))).0 lacks in
      (not-true _ k.0.0.1, not-true _ k.0.1)

  -- Each kind of entry, of this terminal.

  own : {x : ℕ} → Some x ≡ Some t → x ≡ t
  own h = cc

  -- an entry of this terminal that fits makes way
  pub waits : (e : Event) → stepper_of e ≡ Some t → Fits sys state e → makes_way e ≡ true
  waits (entry.Show x phase attempt k) h f =
      let P : ℕ → Type 0 = λ y. Fits sys state (entry.Show y phase attempt k) in
      let l = subst P (own h) f in
      absurd (bar-plain l.can verb.Show l.asks refl)
  waits (entry.Key x k) h f =
      let P : ℕ → Type 0 = λ y. Fits sys state (entry.Key y k) in
      let l = subst P (own h) f in
      absurd (bar-plain l.can (verb.Accept l.screen) l.asks refl)
  waits (entry.CheckStart x) h f =
      let P : ℕ → Type 0 = λ y. Fits sys state (entry.CheckStart y) in
      let l = subst P (own h) f in
      let b = beginning (next_verb sys state t) (path_of state t) l.begins in
      absurd (bar l.can b.no_redo (λ out. not-running _ l.idle (may.runs.out out)) (λ open_still w. l.lacking w.held)
      (λ flies lacks. true≢false (sym flies ∙ ap (λ m. is_some m) l.free)))
  waits (entry.CheckEnd x) h f =
      let P : ℕ → Type 0 = λ y. Fits sys state (entry.CheckEnd y) in
      let l = subst P (own h) f in
      absurd (bar-closing l.can l.answer l.closes (λ flies lacks. true≢false (sym flies ∙ ap (λ m. is_some m) l.free)))
  waits (entry.Begin x n r) h f =
      let P : ℕ → Type 0 = λ y. Fits sys state (entry.Begin y n r) in
      let l = subst P (own h) f in
      let b = beginning (next_verb sys state t) (path_of state t) l.begins in
      absurd (bar l.can b.no_redo (λ out. not-running _ l.idle (may.runs.out out)) (λ open_still w. open_still ((decided.over state.ended (awaited_of (state.units t))).1 l.over))
      (λ flies lacks. true≢false (sym ((decided.start_held _ _ _).1 l.held) ∙ (b.needs_start (terminal_of sys state t) (is_within state t) (note_of sys state t) lacks).1)))
  waits (entry.Send x n c) h f =
      let P : ℕ → Type 0 = λ y. Fits sys state (entry.Send y n c) in
      let l = subst P (own h) f in
      absurd (bar l.can (ap (λ v. asks_redo v) l.asks) (λ out. true≢false (sym out ∙ l.not_out)) (λ open_still w. not-running _ w.idle (runs l.unit l.start l.is_open l.runs))
      (λ flies lacks. send-lacks l.message (runs l.unit l.start l.is_open l.runs) (let Q : Verb → Type 0 = λ v. lacks_check (terminal_of sys state t) v (is_within state t) (note_of sys state t) ≡ true in subst Q l.asks lacks)))
    where
      runs : (unit : OpenUnit) (start : List PathAnswer) → state.units t ≡ Some unit → unit.running ≡ Some start → is_some (attempt_of (state.units t)) ≡ true
      runs unit start opened r = ap (λ units. is_some (attempt_of units)) opened ∙ ap (λ a. is_some a) r

      send-lacks : (message : List ℕ) → is_some (attempt_of (state.units t)) ≡ true
          → lacks_check (terminal_of sys state t) (verb.Send c message) (is_within state t) (note_of sys state t) ≡ true → ⊥
      send-lacks message r lacks =
          true≢false (sym r ∙ (lacks-at-send c message lacks).0)
  waits (entry.Again x n) h f =
      let P : ℕ → Type 0 = λ y. Fits sys state (entry.Again y n) in
      let l = subst P (own h) f in
      let ended : (state.ended t).number ≡ unit_number (path_of state t) = l.last ∙ l.number in
      absurd (bar l.can (ap (λ v. asks_redo v) l.asks)
      (λ out. let r = runs-now (state.units t) (may.runs.out out) in still-open l.can r.0 r.2 ended)
      (λ open_still w. awaits-none l.can ended (state.units t) refl open_still)
      (λ flies lacks. again-lacks l.class l.message ended (let Q : Verb → Type 0 = λ v. lacks_check (terminal_of sys state t) v (is_within state t) (note_of sys state t) ≡ true in subst Q l.asks lacks)))
    where
      -- an open unit awaits, and it has not ended
      awaits-none : CanStep sys state t → (state.ended t).number ≡ unit_number (path_of state t) → (units : Option OpenUnit) → state.units t ≡ units
          → (is_over state.ended (awaited_of units) ≡ true → ⊥) → ⊥
      awaits-none can ended None e open_still = open_still refl
      awaits-none can ended (Some unit) e open_still = still-open can unit e ended

      again-lacks : (c : ℕ) (message : List ℕ) → (state.ended t).number ≡ unit_number (path_of state t)
          → lacks_check (terminal_of sys state t) (verb.Send c message) (is_within state t) (note_of sys state t) ≡ true → ⊥
      again-lacks c message ended lacks =
          true≢false (sym (eq-eqb _ _ ended) ∙ (lacks-at-send c message lacks).1)
  waits (entry.Commit x n) h f =
      let P : ℕ → Type 0 = λ y. Fits sys state (entry.Commit y n) in
      let l = subst P (own h) f in
      let Q : Verb → Type 0 = λ v. holds_end (state.memory t) (path_with (closing_answer v) (path_of state t)) ≡ true in
      let held = subst Q (sym l.asks) ((decided.end_held _ _).1 l.held) in
      absurd (bar-closing l.can Ended (ap (λ v. closing_answer v) l.asks) (λ flies lacks. true≢false (sym held ∙ lacks)))
  waits (entry.Back x n) h f =
      let P : ℕ → Type 0 = λ y. Fits sys state (entry.Back y n) in
      let l = subst P (own h) f in
      let Q : Verb → Type 0 = λ v. holds_end (state.memory t) (path_with (closing_answer v) (path_of state t)) ≡ true in
      let held = subst Q (sym l.asks) ((decided.end_held _ _).1 l.held) in
      absurd (bar-closing l.can Dropped (ap (λ v. closing_answer v) l.asks) (λ flies lacks. true≢false (sym held ∙ lacks)))
  waits (entry.Restart x n why) h f =
      let P : ℕ → Type 0 = λ y. Fits sys state (entry.Restart y n why) in
      let l = subst P (own h) f in
      way why (bar-cause l.unit why l.caused.holds)
    where
      way : (why : Cause) → makes_way (entry.Restart t 0 why) ≡ true → makes_way (entry.Restart x n why) ≡ true
      way (cause.Older o m) e = refl
      way (cause.Takeover p) e = e
      way (cause.Server k) e = e
      way cause.Redo e = e
  waits (entry.End x ending.Stopped) h f =
      let P : ℕ → Type 0 = λ y. Fits sys state (entry.End y ending.Stopped) in
      let l = subst P (own h) f in
      absurd (bar-plain l.can verb.Stop l.asks refl)
  waits (entry.End x ending.NoEntries) h f =
      let P : ℕ → Type 0 = λ y. Fits sys state (entry.End y ending.NoEntries) in
      let l = subst P (own h) f in
      absurd (bar-plain l.can (verb.Accept l.screen) l.asks refl)
  waits (entry.End x (ending.Fault code)) h f =
      let P : ℕ → Type 0 = λ y. Fits sys state (entry.End y (ending.Fault code)) in
      let l = subst P (own h) f in
      absurd (bar-plain l.can (verb.Fault code) l.asks refl)
  waits (entry.End x (ending.Suspended why)) h f =
      let P : ℕ → Type 0 = λ y. Fits sys state (entry.End y (ending.Suspended why)) in
      let l = subst P (own h) f in
      way why (bar-cause l.unit why l.caused.holds)
    where
      way : (why : Cause) → makes_way (entry.Restart t 0 why) ≡ true → makes_way (entry.End x (ending.Suspended why)) ≡ true
      way (cause.Older o m) e = refl
      way (cause.Takeover p) e = absurd (false≢true e)
      way (cause.Server k) e = absurd (false≢true e)
      way cause.Redo e = absurd (false≢true e)
  waits (entry.End x ending.Lost) h f = refl
  waits (entry.CheckCopy x) h f = cc
  waits (entry.Applied x) h f = cc
  waits (entry.Take c i x) h f = cc
  waits (entry.File c i op mode file status) h f = cc
  waits (entry.Reply c i x fault) h f = cc
  waits (entry.FailTcp p primary k) h f = cc
  waits (entry.FailServer c i k) h f = cc
  waits (entry.Takeover p) h f = cc
  waits (entry.Raise p) h f = cc
