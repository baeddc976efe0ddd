-- The next step of a terminal, by what is kept, is that of the state.
use Rattle.std.proofs.Common.{◌≡◌, ℕ, ◌+◌, ◌<◌, ◌≤◌, ◌==◌, ◌&&◌, nat_lt, List, [], ◌∷◌, ◌++◌, Option, Some, None, Bool, true, false, not, is_some, is_none, unwrap_or, length, Decides, refl, sym, ap, ap₂, subst, ◌∙◌}
use Rattle.std.specs.Option.{IfSome}
use Rattle.std.proofs.lemmas.Bool.{and_from, and_parts, false≢true, ltb-true, true≢false}
use Rattle.pw_base.proofs.Plain.{cond_passed, some_is}
use Rattle.pw_code.specs.Valid.{IsValid}
use Rattle.pw_code.specs.declared.context.Context.{Context}
use Rattle.pw_code.specs.declared.system.System.{System}
use Rattle.pw_code.specs.declared.verb.Answer.TheVariants as answer
use Rattle.pw_code.specs.declared.verb.Verb.{Verb}
use Rattle.pw_code.specs.declared.verb.Verb.TheVariants as verb
use Rattle.pw_event.specs.declared.event.Cause.{Cause}
use Rattle.pw_event.specs.declared.event.Cause.TheVariants as cause
use Rattle.pw_event.specs.declared.event.Ending.TheVariants as ending
use Rattle.pw_event.specs.declared.event.Event.{Event}
use Rattle.pw_event.specs.declared.event.Event.TheVariants as event
use Rattle.pw_event.specs.declared.script.FailLine.{FailLine}
use Rattle.pw_code_meaning.specs.OfSystem.{behaviour}
use Rattle.pw_laws.proofs.decided.Causes as causes
use Rattle.pw_laws.proofs.decided.Legality.{jobs-there}
use Rattle.pw_laws.proofs.decided.Pairs as pairs
use Rattle.pw_laws.proofs.decided.Terminals as decided
use Rattle.pw_laws.proofs.Deciding.{given}
use Rattle.pw_laws.specs.legal.Legality.{fits}
use Rattle.pw_laws.specs.legal.Terminals as legal
use Rattle.pw_laws.specs.legal.Terminals.{holds_end, holds_start, is_over}
use Rattle.pw_laws.specs.legal.Values as values
use Rattle.pw_onecopy.specs.Behaviour.{Behaviour}
use Rattle.pw_onecopy.specs.IsBehaviour.{IsBehaviour, IsPath}
use Rattle.pw_onecopy.specs.Path.{PathAnswer, Dropped, Ended, entries_on, next_number, unit_number}
use Rattle.pw_pair.specs.Follows.{mode_as}
use Rattle.pw_paired.specs.State.{Alone, Down, Gone, LastEnded, PairMode, Paired, Raising, State}
use Rattle.pw_paired.specs.Step.{Fits, IsRun, after}
use Rattle.pw_paired.specs.Terminal.{IsLive, awaited_of, closed_path, closing_answer, next_verb, path_of, path_with}
use Rattle.pw_paired.specs.Units.{attempt_of, is_out, restarts_of}
use Rattle.pw_tcp.proofs.Fitting.{next-fits}
use Rattle.pw_tcp.proofs.Looking.{says-enough}
use Rattle.pw_tcp.proofs.Running.{fits-together, is-path, may-step}
use Rattle.pw_tcp.proofs.Waiting as waiting
use Rattle.pw_tcp.specs.Entries.{cause_of, class_of_send, makes_way, show_of, step_entry, stepper_of}
use Rattle.pw_tcp.specs.InState.{FitsTogether, HasMember, MayStep, is_within, next_step_in, note_of, pending_of, terminal_of}
use Rattle.pw_tcp.specs.NextStep.{MayAsk, RunsWhere, SaysEnough, begins_unit, ends_unit, is_calm, is_pending, is_to_begin, needs_end, needs_start, next_step_of}
use Rattle.pw_tcp.specs.declared.step.TcpStep.{TcpStep}
use Rattle.pw_tcp.specs.declared.step.TcpStep.TheVariants as step
use Rattle.pw_tcp.specs.declared.terminal.Note.{Note}
use Rattle.pw_tcp.specs.declared.terminal.Terminal.{Terminal}
use Rattle.pw_world_state.specs.Asked.{SaysOf, unit_in, verb_in}
use Rattle.pw_world_state.specs.CauseTests.{most_restarts}
use Rattle.pw_world_state.specs.Kept.{Kept}
use Rattle.pw_world_state.specs.May.{IsThere, may}
use Rattle.pw_world_state.specs.NextSteps.{HasNoVerbStep, MayStepAt, closed_held, entry_at, has_member, next_step_at, note_at, plain_note_at, standing, terminal_at}
use Rattle.pw_world_state.specs.Read.{AreValued, ClosedValues, IsEntryRead, IsRead, OwnValues}
use Rattle.pw_world_state.specs.Stands.{IsReadyIfAny, Stands, StandsForTerminal}
use Rattle.pw_world_state.specs.TerminalTests as kept
use Rattle.pw_world_state.specs.TerminalTests.{entry_line_count, flies, is_live, seen_pair_of, start_held}
use Rattle.pw_world_state.specs.Tested.{IsPlaced}
use Rattle.pw_world_state.proofs.ImageTests.{drops-held, ends-held, held-where}
use Rattle.pw_world_state.proofs.Mays.{asking-end, asking-start, can-is, may-same, placed}
use Rattle.pw_world_state.proofs.Readings as readings
use Rattle.pw_world_state.proofs.Testing.{flies-same, out-same, own-mode, paired-as, same-there}

-- ---- small things

member-as : (m : PairMode) → has_member (mode_as m) ≡ true → HasMember m
member-as Alone e = tt
member-as Raising e = tt
member-as Paired e = tt
member-as Down e = absurd (false≢true e)
member-as Gone e = absurd (false≢true e)

twice-not : (b : Bool) → not (not b) ≡ b
twice-not true = refl
twice-not false = refl

none-is : {A : Type 0} (o : Option A) → is_none o ≡ true → o ≡ None
none-is None e = refl
none-is (Some x) e = absurd (false≢true e)

-- nothing is pending
calm-is : (why : Option Cause) → not (is_pending (pending_of why)) ≡ true → is_none why ≡ true
calm-is None e = refl
calm-is (Some (cause.Takeover p)) e = absurd (false≢true e)
calm-is (Some (cause.Server k)) e = absurd (false≢true e)
calm-is (Some (cause.Older o m)) e = absurd (false≢true e)
calm-is (Some cause.Redo) e = absurd (false≢true e)

-- a verb that begins a unit, inside a transaction or not
begins-kept : (v : Verb) (within : Bool) → begins_unit v within ≡ kept.begins_unit v (not within)
begins-kept verb.Show within = refl
begins-kept (verb.Accept screen) within = refl
begins-kept verb.Begin within = refl
begins-kept (verb.Send class message) within = refl
begins-kept verb.End within = refl
begins-kept verb.Drop within = refl
begins-kept verb.Redo within = refl
begins-kept verb.Stop within = refl
begins-kept (verb.Fault code) within = refl
begins-kept (verb.File call) within = refl
begins-kept (verb.Reply reply) within = refl

-- a test that passes behind one that does
passed : (a b : Bool) → a ≡ true → (a && b) ≡ b
passed true b e = refl
passed false b e = absurd (false≢true e)

-- where no test passes
not-passed : (b : Bool) → (b ≡ true → ⊥) → b ≡ false
not-passed true h = absurd (h refl)
not-passed false h = refl

module _ (system : System) (script : List FailLine) (valid : IsValid system) (b : IsBehaviour (behaviour script system)) (log : List Event) (run : IsRun (behaviour script system) log)
    (own : Kept) (stands : Stands system script (after (behaviour script system) log) own) (t : ℕ) (context : Context) (is : standing system own t ≡ Some context) where
  abbrev sys : Behaviour
  sys = behaviour script system

  abbrev state : State
  state = after sys log

  -- ---- the terminal

  parts : ((is_live system own t && has_member (seen_pair_of system own t).mode) ≡ true) × ((own.terminals t).ready ≡ Some context)
  parts = cond_passed (is_live system own t && has_member (seen_pair_of system own t).mode) (own.terminals t).ready context is

  works : (is_live system own t ≡ true) × (has_member (seen_pair_of system own t).mode ≡ true)
  works = and_parts (is_live system own t) (has_member (seen_pair_of system own t).mode) parts.0

  alive : (nat_lt t (length system.terminals) ≡ true) × (is_none (own.terminals t).ending ≡ true)
  alive = and_parts (nat_lt t (length system.terminals)) (is_none (own.terminals t).ending) works.0

  low : t < length system.terminals
  low = ltb-true t (length system.terminals) alive.0

  place : IsPlaced system t
  place = placed system script valid b log run own stands t low

  term : StandsForTerminal system place.info (state.modes place.info.tcp) (state.terms t) (state.units t) (own.terminals t)
  term = stands.terminals t place.info place.here

  live : IsLive sys state t
  live = record { known = low; going_on = sym term.ending ∙ none-is (own.terminals t).ending alive.1 }

  mode : (seen_pair_of system own t).mode ≡ mode_as (state.modes (sys.pair_of t))
  mode = own-mode system script state own stands t place

  member : HasMember (state.modes (sys.pair_of t))
  member = member-as (state.modes (sys.pair_of t)) (ap has_member (sym mode) ∙ works.1)

  path-is : IsPath sys t (path_of state t)
  path-is = is-path sys b log run t live member

  says : SaysOf sys system t (path_of state t) context
  says =
      readings.says system script valid b log run t place.info place.here (path_of state t) path-is context
      (subst (IsReadyIfAny system place.info (path_of state t)) parts.1 term.ready)

  may-it : MayStep sys state t
  may-it = may-step sys b log run t live member

  -- ---- what the step is told

  unit : unit_in context ≡ unit_number (path_of state t)
  unit = says.counts.unit

  asked : verb_in system context ≡ next_verb sys state t
  asked = says.verb

  within : context.in_unit ≡ is_within state t
  within = sym (twice-not context.in_unit) ∙ ap not says.counts.outside

  runs : is_some (own.terminals t).start ≡ is_some (attempt_of (state.units t))
  runs = same-there _ (attempt_of (state.units t)) (own.terminals t).start term.start

  over : is_over own.disc.ended (own.terminals t).awaits ≡ is_over state.ended (awaited_of (state.units t))
  over = ap₂ (λ e a. is_over e a) stands.disc.ended term.awaits

  out : kept.is_out system own t ≡ is_out sys state t
  out = out-same system script state own stands t

  -- a terminal by these
  abbrev made : ℕ → Bool → ℕ → Bool → Option Cause → Bool → ℕ → Terminal
  made u r n o p q e = record {
    unit = u;
    running = r;
    restarts = n;
    awaited_open = not o;
    pending = pending_of p;
    request_out = q;
    entries_left = nat_lt e (entry_line_count system t);
  }

  abbrev kept-own : Terminal
  kept-own = terminal_at system own t context

  abbrev own-of : Terminal
  own-of = terminal_of sys state t

  abbrev plain : Note
  plain = plain_note_at system own t

  terminal-same : kept-own ≡ own-of
  terminal-same =
      ap₂ (λ u r. made u r (own.terminals t).restarts (is_over own.disc.ended (own.terminals t).awaits) (own.terminals t).pending (kept.is_out system own t) context.entries) unit runs
      ∙ (ap₂ (λ n o. made (unit_number (path_of state t)) (is_some (attempt_of (state.units t))) n o (own.terminals t).pending (kept.is_out system own t) context.entries) term.restarts over
      ∙ (ap₂ (λ p q. made (unit_number (path_of state t)) (is_some (attempt_of (state.units t))) (restarts_of (state.units t)) (is_over state.ended (awaited_of (state.units t))) p q context.entries) term.pending out
      ∙ ap (λ e. made (unit_number (path_of state t)) (is_some (attempt_of (state.units t))) (restarts_of (state.units t)) (is_over state.ended (awaited_of (state.units t))) (state.terms t).pending (is_out sys state t) e) says.counts.entries))

  paired : kept.is_paired (seen_pair_of system own t).mode ≡ values.is_paired (state.modes (sys.pair_of t))
  paired = ap kept.is_paired mode ∙ paired-as (state.modes (sys.pair_of t))

  ended : (own.disc.ended t).number ≡ (state.ended t).number
  ended = ap (λ (f : ℕ → LastEnded). (f t).number) stands.disc.ended

  start-needed : needs_start kept-own (verb_in system context) context.in_unit plain ≡ needs_start own-of (next_verb sys state t) (is_within state t) (note_of sys state t)
  start-needed =
      ap (λ (x : Terminal). needs_start x (verb_in system context) context.in_unit plain) terminal-same
      ∙ (ap₂ (λ (v : Verb) (w : Bool). needs_start own-of v w plain) asked within
      ∙ ap₂ (λ (p : Bool) (e : ℕ). (p && not (is_pending own-of.pending)) && (begins_unit (next_verb sys state t) (is_within state t) && not own-of.running && not (e == own-of.unit))) paired ended)

  end-needed : needs_end kept-own (verb_in system context) plain ≡ needs_end own-of (next_verb sys state t) (note_of sys state t)
  end-needed =
      ap (λ (x : Terminal). needs_end x (verb_in system context) plain) terminal-same
      ∙ (ap (λ (v : Verb). needs_end own-of v plain) asked
      ∙ ap (λ (p : Bool). (p && not (is_pending own-of.pending)) && ends_unit (next_verb sys state t)) paired)

  -- where no cause is pending and the pair is Paired it can step
  can-now : is_calm kept-own plain ≡ true → legal.can_step sys state t ≡ true
  can-now calm =
      let k = and_parts (kept.is_paired (seen_pair_of system own t).mode) (not (is_pending (pending_of (own.terminals t).pending))) calm in
      sym (can-is system script valid b log run own stands t low)
      ∙ and_from (is_live system own t) (kept.is_paired (seen_pair_of system own t).mode && is_none (own.terminals t).pending) works.0
      (and_from (kept.is_paired (seen_pair_of system own t).mode) (is_none (own.terminals t).pending) k.0 (calm-is (own.terminals t).pending k.1))

  read : IsRead system own t
  read can = ap is_some parts.1

  -- ---- the entry that the step names

  pub entry-same : (s : TcpStep) → entry_at system own t context s ≡ step_entry sys state t s
  entry-same step.Show = ap (λ n. Some (show_of t n)) says.counts.number
  entry-same step.Key = ap (λ e. Some (event.Key t (e + 1))) says.counts.entries
  entry-same step.CheckStart = refl
  entry-same step.CheckEnd = refl
  entry-same step.Begin = ap₂ (λ u r. Some (event.Begin t u r)) unit term.restarts
  entry-same step.Again = ap (λ u. Some (event.Again t u)) unit
  entry-same step.Send = ap₂ (λ u v. Some (event.Send t u (class_of_send v))) unit asked
  entry-same step.Commit = ap (λ u. Some (event.Commit t u)) unit
  entry-same step.Back = ap (λ u. Some (event.Back t u)) unit
  entry-same step.Restart = ap₂ (λ u p. Some (event.Restart t u (unwrap_or p cause.Redo))) unit term.pending
  entry-same step.Suspend = ap (λ p. Some (event.End t (ending.Suspended (unwrap_or p cause.Redo)))) term.pending
  entry-same step.Stopped = refl
  entry-same step.NoEntries = refl
  entry-same (step.Fault code) = refl
  entry-same step.Wait = refl

  -- ---- entries of its own

  own-decided : (e : Event) → stepper_of e ≡ Some t → Decides (fits sys state e) (Fits sys state e)
  own-decided (event.Show o phase attempt k) mine = decided.show sys state o phase attempt k
  own-decided (event.Key o k) mine = decided.key sys state o k
  own-decided (event.CheckStart o) mine = decided.check_start sys state o
  own-decided (event.CheckEnd o) mine = decided.check_end sys state o
  own-decided (event.Begin o n r) mine = decided.begin sys state o n r
  own-decided (event.Send o n c) mine = decided.send sys state o n c
  own-decided (event.Again o n) mine = decided.again sys state o n
  own-decided (event.Commit o n) mine = decided.commit sys state o n
  own-decided (event.Back o n) mine = decided.back sys state o n
  own-decided (event.Restart o n why) mine = given (causes.restart sys state o n why) (λ _. jobs-there sys b log run)
  own-decided (event.End o how) mine = given (pairs.end sys state o how) (λ _. jobs-there sys b log run)
  own-decided (event.CheckCopy o) mine = absurd (cc mine)
  own-decided (event.Applied o) mine = absurd (cc mine)
  own-decided (event.Take c i o) mine = absurd (cc mine)
  own-decided (event.File c i op mode f status) mine = absurd (cc mine)
  own-decided (event.Reply c i o fault) mine = absurd (cc mine)
  own-decided (event.FailTcp p primary k) mine = absurd (cc mine)
  own-decided (event.FailServer c i k) mine = absurd (cc mine)
  own-decided (event.Takeover p) mine = absurd (cc mine)
  own-decided (event.Raise p) mine = absurd (cc mine)

  module _ (fit : OwnValues own t) (closed : ClosedValues system own t) where
    -- ---- images

    start-same : needs_start own-of (next_verb sys state t) (is_within state t) (note_of sys state t) ≡ true
        → (note_at system own t context).start_held ≡ holds_start (state.memory t) (unit_number (path_of state t)) (path_of state t)
    start-same h =
        let needs : needs_start kept-own (verb_in system context) context.in_unit plain ≡ true = start-needed ∙ h in
        let k = and_parts (is_calm kept-own plain) (is_to_begin kept-own (verb_in system context) context.in_unit plain) needs in
        let can = can-now k.0 in
        let first = and_parts (begins_unit (verb_in system context) context.in_unit && not kept-own.running) (not (plain.ended == kept-own.unit)) k.1 in
        let begins = and_parts (begins_unit (verb_in system context) context.in_unit) (not kept-own.running) first.0 in
        let ask = asking-start system script valid b log run own stands t low read fit can in
        let same : ask.asking.context ≡ context = some_is (sym ask.asking.ready ∙ parts.1) in
        passed (needs_start kept-own (verb_in system context) context.in_unit plain) (start_held system own t (unit_in context)) needs
        ∙ subst (λ (x : Context). kept.begins_unit (verb_in system x) (not x.in_unit) ≡ true → start_held system own t (unit_in x) ≡ holds_start (state.memory t) (unit_number (path_of state t)) (path_of state t)) same
        (held-where system script state own stands t ask can) (sym (begins-kept (verb_in system context) context.in_unit) ∙ begins.0)

    end-by : (v : Verb) → verb_in system context ≡ v → ends_unit v ≡ true → legal.can_step sys state t ≡ true
        → closed_held system own t context ≡ holds_end (state.memory t) (closed_path sys state t)
    end-by verb.End e h can =
        let ask = asking-end system script valid b log run own stands t low read closed can in
        let same : ask.asking.context ≡ context = some_is (sym ask.asking.ready ∙ parts.1) in
        ap (λ w. values.some_with (λ a. kept.end_held system own t a context) (kept.closing w)) e
        ∙ (subst (λ (x : Context). verb_in system x ≡ verb.End → kept.end_held system own t answer.Ended x ≡ holds_end (state.memory t) (path_of state t ++ Ended ∷ [])) same
        (ends-held system script state own stands t ask) e
        ∙ sym (ap (λ w. holds_end (state.memory t) (path_with (closing_answer w) (path_of state t))) (sym asked ∙ e)))
    end-by verb.Drop e h can =
        let ask = asking-end system script valid b log run own stands t low read closed can in
        let same : ask.asking.context ≡ context = some_is (sym ask.asking.ready ∙ parts.1) in
        ap (λ w. values.some_with (λ a. kept.end_held system own t a context) (kept.closing w)) e
        ∙ (subst (λ (x : Context). verb_in system x ≡ verb.Drop → kept.end_held system own t answer.Dropped x ≡ holds_end (state.memory t) (path_of state t ++ Dropped ∷ [])) same
        (drops-held system script state own stands t ask) e
        ∙ sym (ap (λ w. holds_end (state.memory t) (path_with (closing_answer w) (path_of state t))) (sym asked ∙ e)))
    end-by verb.Show e h can = absurd (false≢true h)
    end-by (verb.Accept screen) e h can = absurd (false≢true h)
    end-by verb.Begin e h can = absurd (false≢true h)
    end-by (verb.Send class message) e h can = absurd (false≢true h)
    end-by verb.Redo e h can = absurd (false≢true h)
    end-by verb.Stop e h can = absurd (false≢true h)
    end-by (verb.Fault code) e h can = absurd (false≢true h)
    end-by (verb.File call) e h can = absurd (false≢true h)
    end-by (verb.Reply reply) e h can = absurd (false≢true h)

    end-same : needs_end own-of (next_verb sys state t) (note_of sys state t) ≡ true → (note_at system own t context).end_held ≡ holds_end (state.memory t) (closed_path sys state t)
    end-same h =
        let needs : needs_end kept-own (verb_in system context) plain ≡ true = end-needed ∙ h in
        let k = and_parts (is_calm kept-own plain) (ends_unit (verb_in system context)) needs in
        passed (needs_end kept-own (verb_in system context) plain) (closed_held system own t context) needs ∙ end-by (verb_in system context) refl k.1 (can-now k.0)

    -- ---- the step

    enough : SaysEnough own-of (next_verb sys state t) (is_within state t) (note_of sys state t) (note_at system own t context)
    enough = record { paired = paired; in_flight = flies-same system script state own stands t place; ended = ended; start = start-same; end = end-same }

    pub step-same : next_step_at system own t context ≡ next_step_in sys state t
    step-same =
        ap (λ (x : Terminal). next_step_of x (verb_in system context) context.in_unit (note_at system own t context) (most_restarts system t)) terminal-same
        ∙ (ap₂ (λ (v : Verb) (w : Bool). next_step_of own-of v w (note_at system own t context) (most_restarts system t)) asked within
        ∙ says-enough own-of (next_verb sys state t) (is_within state t) (note_of sys state t) (note_at system own t context) (sys.max_restarts t) enough)

    -- ---- the tests of its own entries

    abbrev Tested : Event → Type 0
    Tested e = may system [] own e ≡ fits sys state e

    at : (P : ℕ → Type 0) (o : ℕ) → Some o ≡ Some t → P t → P o
    at P o mine p = let same : o ≡ t = cc mine in subst P (sym same) p

    there : (o : ℕ) → Some o ≡ Some t → o < length system.terminals
    there o mine = at (λ j. j < length system.terminals) o mine low

    read-at : (o : ℕ) → Some o ≡ Some t → IsRead system own o
    read-at o mine = at (IsRead system own) o mine read

    fit-at : (o : ℕ) → Some o ≡ Some t → OwnValues own o
    fit-at o mine = at (OwnValues own) o mine fit

    closed-at : (o : ℕ) → Some o ≡ Some t → ClosedValues system own o
    closed-at o mine = at (ClosedValues system own) o mine closed

    same : (e : Event) → IsThere system e → IsEntryRead system own e → AreValued system own e → may system script own e ≡ fits sys state e
    same = may-same system script valid b log run own stands

    tested : (e : Event) → stepper_of e ≡ Some t → makes_way e ≡ false → Tested e
    tested (event.Show o phase attempt k) mine plainly = same (event.Show o phase attempt k) (there o mine) (read-at o mine) tt
    tested (event.Key o k) mine plainly = same (event.Key o k) (there o mine) (read-at o mine) tt
    tested (event.CheckStart o) mine plainly = same (event.CheckStart o) (there o mine) (read-at o mine) (fit-at o mine)
    tested (event.CheckEnd o) mine plainly = same (event.CheckEnd o) (there o mine) (read-at o mine) (closed-at o mine)
    tested (event.Begin o n r) mine plainly = same (event.Begin o n r) (there o mine) (read-at o mine) (fit-at o mine)
    tested (event.Send o n c) mine plainly = same (event.Send o n c) (there o mine) (read-at o mine) tt
    tested (event.Again o n) mine plainly = same (event.Again o n) (there o mine) (read-at o mine) tt
    tested (event.Commit o n) mine plainly = same (event.Commit o n) (there o mine) (read-at o mine) (closed-at o mine)
    tested (event.Back o n) mine plainly = same (event.Back o n) (there o mine) (read-at o mine) (closed-at o mine)
    tested (event.Restart o n (cause.Older x m)) mine plainly = absurd (true≢false plainly)
    tested (event.Restart o n (cause.Takeover p)) mine plainly = same (event.Restart o n (cause.Takeover p)) (there o mine) tt tt
    tested (event.Restart o n (cause.Server k)) mine plainly = same (event.Restart o n (cause.Server k)) (there o mine) tt tt
    tested (event.Restart o n cause.Redo) mine plainly = same (event.Restart o n cause.Redo) (there o mine) (read-at o mine) tt
    tested (event.End o ending.Stopped) mine plainly = same (event.End o ending.Stopped) (there o mine) (read-at o mine) tt
    tested (event.End o ending.NoEntries) mine plainly = same (event.End o ending.NoEntries) (there o mine) (read-at o mine) tt
    tested (event.End o (ending.Fault x)) mine plainly = same (event.End o (ending.Fault x)) (there o mine) (read-at o mine) tt
    tested (event.End o (ending.Suspended (cause.Older x m))) mine plainly = absurd (true≢false plainly)
    tested (event.End o (ending.Suspended (cause.Takeover p))) mine plainly = same (event.End o (ending.Suspended (cause.Takeover p))) (there o mine) tt tt
    tested (event.End o (ending.Suspended (cause.Server k))) mine plainly = same (event.End o (ending.Suspended (cause.Server k))) (there o mine) tt tt
    tested (event.End o (ending.Suspended cause.Redo)) mine plainly = same (event.End o (ending.Suspended cause.Redo)) (there o mine) (read-at o mine) tt
    tested (event.End o ending.Lost) mine plainly = absurd (true≢false plainly)
    tested (event.CheckCopy o) mine plainly = absurd (cc mine)
    tested (event.Applied o) mine plainly = absurd (cc mine)
    tested (event.Take c i o) mine plainly = absurd (cc mine)
    tested (event.File c i op mode f status) mine plainly = absurd (cc mine)
    tested (event.Reply c i o fault) mine plainly = absurd (cc mine)
    tested (event.FailTcp p primary k) mine plainly = absurd (cc mine)
    tested (event.FailServer c i k) mine plainly = absurd (cc mine)
    tested (event.Takeover p) mine plainly = absurd (cc mine)
    tested (event.Raise p) mine plainly = absurd (cc mine)

    fitting : FitsTogether sys state t
    fitting = fits-together sys b log run t live member

    -- the cause of a restart is pending, or REDO
    no-older : (p : Option Cause) → (state.terms t).pending ≡ p → (n : ℕ)
        → (makes_way (event.Restart t n (unwrap_or p cause.Redo)) ≡ false) × (makes_way (event.End t (ending.Suspended (unwrap_or p cause.Redo))) ≡ false)
    no-older None e n = (refl, refl)
    no-older (Some (cause.Takeover p)) e n = (refl, refl)
    no-older (Some (cause.Server k)) e n = (refl, refl)
    no-older (Some cause.Redo) e n = (refl, refl)
    no-older (Some (cause.Older o m)) e n = absurd (fitting.pending (cause.Older o m) e)

    abbrev path : List PathAnswer
    path = path_of state t

    abbrev Passing : TcpStep → Type 0
    Passing s = IfSome (step_entry sys state t s) (Fits sys state) → IfSome (step_entry sys state t s) (λ e. may system [] own e ≡ true)

    one-passes : (e : Event) → stepper_of e ≡ Some t → makes_way e ≡ false → Fits sys state e → may system [] own e ≡ true
    one-passes e mine plainly f = tested e mine plainly ∙ (own-decided e mine).1 f

    passing : (s : TcpStep) → Passing s
    passing step.Show f = one-passes (show_of t (next_number path)) refl refl f
    passing step.Key f = one-passes (event.Key t (entries_on path + 1)) refl refl f
    passing step.CheckStart f = one-passes (event.CheckStart t) refl refl f
    passing step.CheckEnd f = one-passes (event.CheckEnd t) refl refl f
    passing step.Begin f = one-passes (event.Begin t (unit_number path) (restarts_of (state.units t))) refl refl f
    passing step.Again f = one-passes (event.Again t (unit_number path)) refl refl f
    passing step.Send f = one-passes (event.Send t (unit_number path) (class_of_send (next_verb sys state t))) refl refl f
    passing step.Commit f = one-passes (event.Commit t (unit_number path)) refl refl f
    passing step.Back f = one-passes (event.Back t (unit_number path)) refl refl f
    passing step.Restart f = one-passes (event.Restart t (unit_number path) (cause_of state t)) refl (no-older (state.terms t).pending refl (unit_number path)).0 f
    passing step.Suspend f = one-passes (event.End t (ending.Suspended (cause_of state t))) refl (no-older (state.terms t).pending refl 0).1 f
    passing step.Stopped f = one-passes (event.End t ending.Stopped) refl refl f
    passing step.NoEntries f = one-passes (event.End t ending.NoEntries) refl refl f
    passing (step.Fault code) f = one-passes (event.End t (ending.Fault code)) refl refl f
    passing step.Wait f = f

    passes : IfSome (entry_at system own t context (next_step_at system own t context)) (λ e. may system [] own e ≡ true)
    passes =
        let is : entry_at system own t context (next_step_at system own t context) ≡ step_entry sys state t (next_step_in sys state t) = ap (entry_at system own t context) step-same ∙ entry-same (next_step_in sys state t) in
        subst (λ (o : Option Event). IfSome o (λ e. may system [] own e ≡ true)) (sym is) (passing (next_step_in sys state t) (next-fits sys state t live may-it fitting))

    -- where it waits no test of an entry at its verb passes
    none : next_step_in sys state t ≡ step.Wait → (e : Event) → stepper_of e ≡ Some t → makes_way e ≡ false → may system [] own e ≡ false
    none wait e mine plainly =
        not-passed (may system [] own e)
        (λ passes_it. true≢false (sym (waiting.waits sys state t may-it fitting wait e mine ((own-decided e mine).0 (sym (tested e mine plainly) ∙ passes_it))) ∙ plainly))

    waits : next_step_at system own t context ≡ step.Wait → HasNoVerbStep system own t
    waits e =
        let wait = sym step-same ∙ e in
        record {
          show = λ phase attempt k. none wait (event.Show t phase attempt k) refl refl;
          key = λ k. none wait (event.Key t k) refl refl;
          check_start = none wait (event.CheckStart t) refl refl;
          check_end = none wait (event.CheckEnd t) refl refl;
          begin = λ n r. none wait (event.Begin t n r) refl refl;
          send = λ n c. none wait (event.Send t n c) refl refl;
          again = λ n. none wait (event.Again t n) refl refl;
          commit = λ n. none wait (event.Commit t n) refl refl;
          back = λ n. none wait (event.Back t n) refl refl;
          stop = none wait (event.End t ending.Stopped) refl refl;
          entries = none wait (event.End t ending.NoEntries) refl refl;
          fault = λ x. none wait (event.End t (ending.Fault x)) refl refl;
        }

    pub may-step-at : MayStepAt system own t context
    may-step-at = record {
      asks = subst MayAsk (sym asked) may-it.asks;
      few = subst (λ n. n ≤ most_restarts system t) (sym term.restarts) may-it.few;
      runs = subst (λ (x : Terminal). RunsWhere x (verb_in system context) context.in_unit) (sym terminal-same)
          (subst (λ (v : Verb). RunsWhere own-of v context.in_unit) (sym asked) (subst (λ (w : Bool). RunsWhere own-of (next_verb sys state t) w) (sym within) may-it.runs));
      begins = record {
        new = λ begin is_ended. may-it.begins.new (sym asked ∙ begin) (sym ended ∙ (is_ended ∙ unit));
        idle = λ begin running. ap (λ p. is_pending (pending_of p)) term.pending ∙ may-it.begins.idle (sym asked ∙ begin) (sym runs ∙ running);
      };
      passes = passes;
      waits = waits;
    }
