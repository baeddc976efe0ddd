-- What the tests of legality rest on.
use Rattle.std.specs.Prelude.{◌≡◌, ◌⊎◌, ℕ, ◌<◌, true, not, List, [], ◌∷◌, ◌++◌, length, Some, slice_get}
use Rattle.pw_code.specs.declared.context.Context.{Context}
use Rattle.pw_code.specs.declared.system.ClassInfo.{ClassInfo}
use Rattle.pw_code.specs.declared.system.System.{System}
use Rattle.pw_code.specs.declared.system.TermInfo.{TermInfo}
use Rattle.pw_code.specs.declared.verb.Answer.TheVariants as answer
use Rattle.pw_code.specs.declared.verb.Verb.TheVariants as verb
use Rattle.pw_event.specs.declared.event.Cause.{Cause}
use Rattle.pw_event.specs.declared.event.Cause.TheVariants.{Older, Redo}
use Rattle.pw_event.specs.declared.script.FailLine.{FailLine}
use Rattle.pw_code_meaning.specs.OfSystem.{behaviour}
use Rattle.pw_image.specs.Image.{HasImage, image_of}
use Rattle.pw_image.specs.Values.{HasValues}
use Rattle.pw_world_state.specs.Asked.{CountsOf, SaysOf, answered_with, verb_in}
use Rattle.pw_world_state.specs.Kept.{Kept}
use Rattle.pw_world_state.specs.Stands.{IsPathImage}
use Rattle.pw_world_state.specs.TerminalTests.{begins_unit, can_step}
use Rattle.pw_onecopy.specs.Path.{PathAnswer, Dropped, Ended, unit_number}
use Rattle.pw_paired.specs.Server.{server_verb}
use Rattle.pw_paired.specs.State.{BackupCopy, Job, OpenUnit, State}
use Rattle.pw_paired.specs.Terminal.{path_of}

-- a started terminal, and its pair is there
pub record IsPlaced (system : System) (t : ℕ) : Type 0 where
  pub info : TermInfo
  pub here : slice_get system.terminals t ≡ Some info
  pub pair : info.tcp < length system.tcps

-- its program stands at its verb, and its context says there what its path says
pub record IsAsking (system : System) (script : List FailLine) (state : State) (kept : Kept)
    (t : ℕ) : Type 0 where
  pub placed : IsPlaced system t
  pub context : Context
  pub ready : (kept.terminals t).ready ≡ Some context
  pub says : SaysOf (behaviour script system) system t (path_of state t) context

-- A context has the image of a path, and of the paths that the backup holds as the start of this
-- unit no other one has this image.
pub record TellsStart (system : System) (state : State) (t : ℕ) (info : TermInfo) (n : ℕ)
    (path : List PathAnswer) (context : Context) : Type 0 where
  pub is_image : IsPathImage system info path (image_of context)
  pub apart : (held : BackupCopy) → state.memory t ≡ Some held → held.unit ≡ n
      → IsPathImage system info held.start (image_of context) → held.start ≡ path

-- the same of the paths that it holds as the end of a unit
pub record TellsEnd (system : System) (state : State) (t : ℕ) (info : TermInfo)
    (path : List PathAnswer) (context : Context) : Type 0 where
  pub is_image : IsPathImage system info path (image_of context)
  pub apart : (held : BackupCopy) (end : List PathAnswer) → state.memory t ≡ Some held
      → held.end ≡ Some end → IsPathImage system info end (image_of context) → end ≡ path

-- where the verb begins a unit, the context at the last answer tells the start
pub record IsAskingStart (system : System) (script : List FailLine) (state : State) (kept : Kept)
    (t : ℕ) : Type 0 where
  pub asking : IsAsking system script state kept t
  pub tells : (behind : Context) → (kept.terminals t).context ≡ Some behind
      → begins_unit (verb_in system asking.context) (not asking.context.in_unit) ≡ true
      → TellsStart system state t asking.placed.info (unit_number (path_of state t))
      (path_of state t) behind

-- where the verb ends a transaction, the context behind its answer tells the end
pub record IsAskingEnd (system : System) (script : List FailLine) (state : State) (kept : Kept)
    (t : ℕ) : Type 0 where
  pub asking : IsAsking system script state kept t
  pub ends : verb_in system asking.context ≡ verb.End
      → TellsEnd system state t asking.placed.info (path_of state t ++ Ended ∷ [])
      (answered_with system answer.Ended asking.context)
  pub drops : verb_in system asking.context ≡ verb.Drop
      → TellsEnd system state t asking.placed.info (path_of state t ++ Dropped ∷ [])
      (answered_with system answer.Dropped asking.context)

-- A context can go to a backup as the image of a path.
pub record CarriesPath (path : List PathAnswer) (context : Context) : Type 0 where
  pub has_image : HasImage context
  pub has_values : HasValues context
  pub counts : CountsOf path context

-- A server works in the process for a unit of which an attempt runs; its context stands at its verb,
-- and says there what its job says.
pub record IsServing (system : System) (script : List FailLine) (state : State) (kept : Kept)
    (c i : ℕ) : Type 0 where
  pub info : ClassInfo
  pub here : slice_get system.classes c ≡ Some info
  pub job : Job
  pub works : (state.classes c).busy i ≡ Some job
  pub context : Context
  pub ready : kept.jobs c i ≡ Some context
  pub at_verb : context.at_verb ≡ true
  pub says : verb_in system context ≡ server_verb (behaviour script system) c job
  pub own : OpenUnit
  pub is_open : state.units job.request.terminal ≡ Some own
  pub start : List PathAnswer
  pub runs : own.running ≡ Some start

-- what a cause is tested by: for REDO the terminal's program stands at its verb, if the terminal can
-- step, for OLDER each server at work for one of the two terminals does
abbrev pub CauseTested : System → List FailLine → State → Kept → ℕ → Cause → Type 0
CauseTested system script state kept t (Older o m) =
    (c i : ℕ) (job : Job) → (state.classes c).busy i ≡ Some job
    → (job.request.terminal ≡ t) ⊎ (job.request.terminal ≡ o)
    → IsServing system script state kept c i
CauseTested system script state kept t Redo =
    can_step system kept t ≡ true → IsAsking system script state kept t
CauseTested system script state kept t _ = Unit {0}
