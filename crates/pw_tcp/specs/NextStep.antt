-- The next step of a terminal whose program stands at a verb.
use Rattle.std.specs.Prelude.{◌≡◌, ◌≢◌, ℕ, ◌==◌, ◌&&◌, ◌||◌, Bool, true, false, not, if◌then◌else◌}
use Rattle.pw_code.specs.declared.verb.Verb.{Verb}
use Rattle.pw_code.specs.declared.verb.Verb.TheVariants as verb
use Rattle.pw_laws.specs.legal.Verbs.{asks_redo}
use Rattle.pw_tcp.specs.declared.step.TcpStep.{TcpStep}
use Rattle.pw_tcp.specs.declared.step.TcpStep.TheVariants as step
use Rattle.pw_tcp.specs.declared.terminal.Note.{Note}
use Rattle.pw_tcp.specs.declared.terminal.Pending.{Pending}
use Rattle.pw_tcp.specs.declared.terminal.Pending.TheVariants.{Nothing, Takeover, Server}
use Rattle.pw_tcp.specs.declared.terminal.Terminal.{Terminal}

-- Where it is asked for.

-- the verb is one of a terminal's program
abbrev pub MayAsk : Verb → Type 0
MayAsk (verb.File call) = ⊥
MayAsk (verb.Reply reply) = ⊥
MayAsk _ = Unit {0}

-- a cause is pending
abbrev pub is_pending : Pending → Bool
is_pending Nothing = false
is_pending _ = true

-- the verb ends the transaction, or asks for its restart
abbrev pub ends_attempt : Verb → Bool
ends_attempt verb.End = true
ends_attempt verb.Drop = true
ends_attempt verb.Redo = true
ends_attempt _ = false

-- An attempt runs where a cause is pending, where the request is out, in a transaction, and where
-- the verb is one of a transaction.
pub record RunsWhere (terminal : Terminal) (asked : Verb) (in_unit : Bool) : Type 0 where
  pub caused : is_pending terminal.pending ≡ true → terminal.running ≡ true
  pub out : terminal.request_out ≡ true → terminal.running ≡ true
  pub within : in_unit ≡ true → terminal.running ≡ true
  pub ending : ends_attempt asked ≡ true → terminal.running ≡ true

-- At Begin the unit has not ended, and an attempt of it runs only with a cause pending.
pub record BeginsAnew (terminal : Terminal) (asked : Verb) (note : Note) : Type 0 where
  pub new : asked ≡ verb.Begin → note.ended ≢ terminal.unit
  pub idle : asked ≡ verb.Begin → terminal.running ≡ true → is_pending terminal.pending ≡ true

-- What is asked for.

-- TAKEOVER is pending; or the pair is Paired, and SERVER is pending or the verb is Redo
abbrev pub is_restarting : Pending → Verb → Bool → Bool
is_restarting Takeover asked paired = true
is_restarting Server asked paired = paired
is_restarting Nothing asked paired = paired && asks_redo asked

-- the unit restarts or, where it has restarted as often as it may, the terminal is suspended
abbrev pub restart_of : ℕ → ℕ → TcpStep
restart_of restarts max = if restarts == max then step.Suspend else step.Restart

-- the verb begins a unit: it is Begin, or Send outside a transaction
abbrev pub begins_unit : Verb → Bool → Bool
begins_unit verb.Begin in_unit = true
begins_unit (verb.Send class message) in_unit = not in_unit
begins_unit _ in_unit = false

-- the verb begins a unit that has not ended and of which no attempt runs
abbrev pub is_to_begin : Terminal → Verb → Bool → Note → Bool
is_to_begin terminal asked in_unit note =
    begins_unit asked in_unit && not terminal.running && not (note.ended == terminal.unit)

-- The verb needs a check that is not held: of the start where a unit is to begin, of the end at End
-- and Drop.
abbrev pub lacks_check : Terminal → Verb → Bool → Note → Bool
lacks_check terminal verb.End in_unit note = not note.end_held
lacks_check terminal verb.Drop in_unit note = not note.end_held
lacks_check terminal asked in_unit note =
    is_to_begin terminal asked in_unit note && not note.start_held

-- The pair is not Paired, the request is out, the awaited unit is open, or a check that the verb
-- needs is not held and a message is in flight.
abbrev pub is_waiting : Terminal → Verb → Bool → Note → Bool
is_waiting terminal asked in_unit note =
    not note.paired || terminal.request_out || terminal.awaited_open
    || (note.in_flight && lacks_check terminal asked in_unit note)

-- the check that a verb needs
abbrev pub check_of : Verb → TcpStep
check_of verb.End = step.CheckEnd
check_of verb.Drop = step.CheckEnd
check_of _ = step.CheckStart

-- At Send outside a transaction a unit begins, or has ended and is answered again; where an attempt
-- runs the request is sent.
abbrev pub send_step : Bool → Bool → TcpStep
send_step true running = step.Begin
send_step false true = step.Send
send_step false false = step.Again

-- the step of a verb whose check is held
abbrev pub held_step : Terminal → Verb → Bool → Note → TcpStep
held_step terminal verb.Show in_unit note = step.Show
held_step terminal (verb.Accept screen) in_unit note =
    if terminal.entries_left then step.Key else step.NoEntries
held_step terminal verb.Begin in_unit note = step.Begin
held_step terminal (verb.Send class message) in_unit note =
    send_step (is_to_begin terminal (verb.Send class message) in_unit note) terminal.running
held_step terminal verb.End in_unit note = step.Commit
held_step terminal verb.Drop in_unit note = step.Back
held_step terminal verb.Redo in_unit note = step.Wait
held_step terminal verb.Stop in_unit note = step.Stopped
held_step terminal (verb.Fault code) in_unit note = step.Fault code
held_step terminal (verb.File call) in_unit note = step.Wait
held_step terminal (verb.Reply reply) in_unit note = step.Wait

-- the step of the verb, where the terminal neither restarts nor waits
abbrev pub step_of_verb : Terminal → Verb → Bool → Note → TcpStep
step_of_verb terminal asked in_unit note =
    if lacks_check terminal asked in_unit note
    then check_of asked else held_step terminal asked in_unit note

-- What the step looks at.

-- the verb ends the transaction
abbrev pub ends_unit : Verb → Bool
ends_unit verb.End = true
ends_unit verb.Drop = true
ends_unit _ = false

-- the pair is Paired, and no cause is pending
abbrev pub is_calm : Terminal → Note → Bool
is_calm terminal note = note.paired && not (is_pending terminal.pending)

-- the step depends on whether the start is held
abbrev pub needs_start : Terminal → Verb → Bool → Note → Bool
needs_start terminal asked in_unit note = is_calm terminal note && is_to_begin terminal asked in_unit note

-- the step depends on whether the end is held
abbrev pub needs_end : Terminal → Verb → Note → Bool
needs_end terminal asked note = is_calm terminal note && ends_unit asked

-- the other note says what this one says, as far as the step depends on it
pub record SaysEnough (terminal : Terminal) (asked : Verb) (in_unit : Bool) (note other : Note) : Type 0 where
  pub paired : other.paired ≡ note.paired
  pub in_flight : other.in_flight ≡ note.in_flight
  pub ended : other.ended ≡ note.ended
  pub start : needs_start terminal asked in_unit note ≡ true → other.start_held ≡ note.start_held
  pub end : needs_end terminal asked note ≡ true → other.end_held ≡ note.end_held

-- the next step
abbrev pub next_step_of : Terminal → Verb → Bool → Note → ℕ → TcpStep
next_step_of terminal asked in_unit note max =
    if is_restarting terminal.pending asked note.paired then restart_of terminal.restarts max
    else (if is_waiting terminal asked in_unit note then step.Wait
    else step_of_verb terminal asked in_unit note)
