-- The entries of a terminal's own steps.
use Rattle.std.specs.Prelude.{ℕ, ◌+◌, Bool, true, false, Option, Some, None, unwrap_or}
use Rattle.pw_code.specs.declared.verb.Verb.{Verb}
use Rattle.pw_code.specs.declared.verb.Verb.TheVariants as verb
use Rattle.pw_event.specs.declared.event.Cause.{Cause}
use Rattle.pw_event.specs.declared.event.Cause.TheVariants as cause
use Rattle.pw_event.specs.declared.event.Ending.TheVariants as ending
use Rattle.pw_event.specs.declared.event.Event.{Event}
use Rattle.pw_event.specs.declared.event.Event.TheVariants as entry
use Rattle.pw_onecopy.specs.Behaviour.{Behaviour}
use Rattle.pw_onecopy.specs.Path.{RefreshNumber, entries_on, next_number, unit_number}
use Rattle.pw_paired.specs.State.{State}
use Rattle.pw_paired.specs.Terminal.{next_verb, path_of}
use Rattle.pw_paired.specs.Units.{restarts_of}
use Rattle.pw_tcp.specs.declared.step.TcpStep.{TcpStep}
use Rattle.pw_tcp.specs.declared.step.TcpStep.TheVariants as step

-- the class that a verb sends to
abbrev pub class_of_send : Verb → ℕ
class_of_send (verb.Send class message) = class
class_of_send _ = 0

-- the cause for which the terminal's unit restarts: the pending one, and else REDO
abbrev pub cause_of : State → ℕ → Cause
cause_of state t = unwrap_or (state.terms t).pending cause.Redo

-- SHOW with this number
abbrev pub show_of : ℕ → RefreshNumber → Event
show_of t number = entry.Show t number.phase number.attempt number.k

-- the entry that a step names, and none for Wait
abbrev pub step_entry : Behaviour → State → ℕ → TcpStep → Option Event
step_entry sys state t step.Show = Some (show_of t (next_number (path_of state t)))
step_entry sys state t step.Key = Some (entry.Key t (entries_on (path_of state t) + 1))
step_entry sys state t step.CheckStart = Some (entry.CheckStart t)
step_entry sys state t step.CheckEnd = Some (entry.CheckEnd t)
step_entry sys state t step.Begin =
    Some (entry.Begin t (unit_number (path_of state t)) (restarts_of (state.units t)))
step_entry sys state t step.Again = Some (entry.Again t (unit_number (path_of state t)))
step_entry sys state t step.Send =
    Some (entry.Send t (unit_number (path_of state t)) (class_of_send (next_verb sys state t)))
step_entry sys state t step.Commit = Some (entry.Commit t (unit_number (path_of state t)))
step_entry sys state t step.Back = Some (entry.Back t (unit_number (path_of state t)))
step_entry sys state t step.Restart =
    Some (entry.Restart t (unit_number (path_of state t)) (cause_of state t))
step_entry sys state t step.Suspend = Some (entry.End t (ending.Suspended (cause_of state t)))
step_entry sys state t step.Stopped = Some (entry.End t ending.Stopped)
step_entry sys state t step.NoEntries = Some (entry.End t ending.NoEntries)
step_entry sys state t (step.Fault code) = Some (entry.End t (ending.Fault code))
step_entry sys state t step.Wait = None

-- the terminal whose own step an entry is
abbrev pub stepper_of : Event → Option ℕ
stepper_of (entry.Show t phase attempt k) = Some t
stepper_of (entry.Key t k) = Some t
stepper_of (entry.CheckStart t) = Some t
stepper_of (entry.CheckEnd t) = Some t
stepper_of (entry.Begin t n r) = Some t
stepper_of (entry.Send t n c) = Some t
stepper_of (entry.Again t n) = Some t
stepper_of (entry.Commit t n) = Some t
stepper_of (entry.Back t n) = Some t
stepper_of (entry.Restart t n why) = Some t
stepper_of (entry.End t how) = Some t
stepper_of _ = None

-- the unit makes way for an older one, or the pair is lost
abbrev pub makes_way : Event → Bool
makes_way (entry.Restart t n (cause.Older o m)) = true
makes_way (entry.End t (ending.Suspended (cause.Older o m))) = true
makes_way (entry.End t ending.Lost) = true
makes_way _ = false
