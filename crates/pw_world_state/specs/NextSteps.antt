-- The next step of a terminal whose program stands at its verb, by what is kept.
use Rattle.std.specs.Prelude.{◌≡◌, ℕ, ◌≤◌, ◌+◌, ◌&&◌, nat_lt, Bool, true, false, [], not, Option, Some, None, is_some, unwrap_or, if◌then◌else◌}
use Rattle.std.specs.Option.{IfSome}
use Rattle.pw_code.specs.declared.context.Context.{Context}
use Rattle.pw_code.specs.declared.system.System.{System}
use Rattle.pw_event.specs.declared.event.Cause.{Cause}
use Rattle.pw_event.specs.declared.event.Cause.TheVariants as cause
use Rattle.pw_event.specs.declared.event.Ending.TheVariants as ending
use Rattle.pw_event.specs.declared.event.Event.{Event}
use Rattle.pw_event.specs.declared.event.Event.TheVariants as event
use Rattle.pw_laws.specs.legal.Terminals.{is_over}
use Rattle.pw_laws.specs.legal.Values.{some_with}
use Rattle.pw_pair.specs.declared.mode.Mode.{Mode}
use Rattle.pw_pair.specs.declared.mode.Mode.TheVariants.{Alone, Raising, Paired, Down, Gone}
use Rattle.pw_tcp.specs.Entries.{class_of_send, show_of}
use Rattle.pw_tcp.specs.InState.{pending_of}
use Rattle.pw_tcp.specs.NextStep.{BeginsAnew, MayAsk, RunsWhere, needs_end, needs_start, next_step_of}
use Rattle.pw_tcp.specs.declared.step.TcpStep.{TcpStep}
use Rattle.pw_tcp.specs.declared.step.TcpStep.TheVariants as step
use Rattle.pw_tcp.specs.declared.terminal.Note.{Note}
use Rattle.pw_tcp.specs.declared.terminal.Terminal.{Terminal}
use Rattle.pw_world_state.specs.Asked.{next_refresh_number, unit_in, verb_in}
use Rattle.pw_world_state.specs.CauseTests.{most_restarts}
use Rattle.pw_world_state.specs.Kept.{Kept}
use Rattle.pw_world_state.specs.May.{may}
use Rattle.pw_world_state.specs.TerminalTests.{closing, end_held, entry_line_count, flies, is_live, is_out, is_paired, may_again, may_back, may_begin, may_check_end, may_check_start, may_commit, may_end_entries, may_fault, may_key, may_send, may_show, may_stop, seen_pair_of, start_held}

-- ---- what the step is told

-- the terminal's unit
abbrev pub terminal_at : System → Kept → ℕ → Context → Terminal
terminal_at system kept t context = record {
  unit = unit_in context;
  running = is_some (kept.terminals t).start;
  restarts = (kept.terminals t).restarts;
  awaited_open = not (is_over kept.disc.ended (kept.terminals t).awaits);
  pending = pending_of (kept.terminals t).pending;
  request_out = is_out system kept t;
  entries_left = nat_lt context.entries (entry_line_count system t);
}

-- what its pair and TMF have of it, but for what its backup holds
abbrev pub plain_note_at : System → Kept → ℕ → Note
plain_note_at system kept t = record {
  paired = is_paired (seen_pair_of system kept t).mode;
  in_flight = flies system kept t;
  start_held = false;
  end_held = false;
  ended = (kept.disc.ended t).number;
}

-- the backup holds the end that the verb's answer makes of its path
abbrev pub closed_held : System → Kept → ℕ → Context → Bool
closed_held system kept t context = some_with (λ a. end_held system kept t a context) (closing (verb_in system context))

-- the same with what its backup holds, where the step depends on it
abbrev pub note_at : System → Kept → ℕ → Context → Note
note_at system kept t context =
    let plain : Note = plain_note_at system kept t in
    let own : Terminal = terminal_at system kept t context in
    record plain {
      start_held = needs_start own (verb_in system context) context.in_unit plain && start_held system kept t (unit_in context);
      end_held = needs_end own (verb_in system context) plain && closed_held system kept t context;
    }

-- ---- the step

-- the next step
abbrev pub next_step_at : System → Kept → ℕ → Context → TcpStep
next_step_at system kept t context =
    next_step_of (terminal_at system kept t context) (verb_in system context) context.in_unit
    (note_at system kept t context) (most_restarts system t)

-- the cause for which the unit restarts: the pending one, and else REDO
abbrev pub kept_cause : Kept → ℕ → Cause
kept_cause kept t = unwrap_or (kept.terminals t).pending cause.Redo

-- the entry that a step names, and none for Wait
abbrev pub entry_at : System → Kept → ℕ → Context → TcpStep → Option Event
entry_at system kept t context step.Show = Some (show_of t (next_refresh_number context))
entry_at system kept t context step.Key = Some (event.Key t (context.entries + 1))
entry_at system kept t context step.CheckStart = Some (event.CheckStart t)
entry_at system kept t context step.CheckEnd = Some (event.CheckEnd t)
entry_at system kept t context step.Begin = Some (event.Begin t (unit_in context) (kept.terminals t).restarts)
entry_at system kept t context step.Again = Some (event.Again t (unit_in context))
entry_at system kept t context step.Send = Some (event.Send t (unit_in context) (class_of_send (verb_in system context)))
entry_at system kept t context step.Commit = Some (event.Commit t (unit_in context))
entry_at system kept t context step.Back = Some (event.Back t (unit_in context))
entry_at system kept t context step.Restart = Some (event.Restart t (unit_in context) (kept_cause kept t))
entry_at system kept t context step.Suspend = Some (event.End t (ending.Suspended (kept_cause kept t)))
entry_at system kept t context step.Stopped = Some (event.End t ending.Stopped)
entry_at system kept t context step.NoEntries = Some (event.End t ending.NoEntries)
entry_at system kept t context (step.Fault code) = Some (event.End t (ending.Fault code))
entry_at system kept t context step.Wait = None

-- ---- where it is asked for

-- a member of the pair works
abbrev pub has_member : Mode → Bool
has_member Alone = true
has_member Raising = true
has_member Paired = true
has_member Down = false
has_member Gone = false

-- the program at its verb of a live terminal whose pair has a member at work
abbrev pub standing : System → Kept → ℕ → Option Context
standing system kept t =
    if is_live system kept t && has_member (seen_pair_of system kept t).mode then (kept.terminals t).ready else None

-- none of the entries at its verb passes its test
pub record HasNoVerbStep (system : System) (kept : Kept) (t : ℕ) : Type 0 where
  pub show : (phase attempt k : ℕ) → may_show system kept t phase attempt k ≡ false
  pub key : (k : ℕ) → may_key system kept t k ≡ false
  pub check_start : may_check_start system kept t ≡ false
  pub check_end : may_check_end system kept t ≡ false
  pub begin : (n r : ℕ) → may_begin system kept t n r ≡ false
  pub send : (n c : ℕ) → may_send system kept t n c ≡ false
  pub again : (n : ℕ) → may_again system kept t n ≡ false
  pub commit : (n : ℕ) → may_commit system kept t n ≡ false
  pub back : (n : ℕ) → may_back system kept t n ≡ false
  pub stop : may_stop system kept t ≡ false
  pub entries : may_end_entries system kept t ≡ false
  pub fault : (x : ℕ) → may_fault system kept t x ≡ false

-- What a terminal's next step takes of what is kept: it may be asked for, the entry that it names passes its test, and
-- where the terminal waits none at its verb does.
pub record MayStepAt (system : System) (kept : Kept) (t : ℕ) (context : Context) : Type 0 where
  pub asks : MayAsk (verb_in system context)
  pub few : (kept.terminals t).restarts ≤ most_restarts system t
  pub runs : RunsWhere (terminal_at system kept t context) (verb_in system context) context.in_unit
  pub begins : BeginsAnew (terminal_at system kept t context) (verb_in system context) (note_at system kept t context)
  pub passes : IfSome (entry_at system kept t context (next_step_at system kept t context))
      (λ entry. may system [] kept entry ≡ true)
  pub waits : next_step_at system kept t context ≡ step.Wait → HasNoVerbStep system kept t
