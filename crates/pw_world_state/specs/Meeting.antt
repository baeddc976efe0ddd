-- Causes that show by the contexts that stand at their verbs.
use Rattle.std.specs.Prelude.{◌≡◌, ◌⊎◌, ℕ, true, Some}
use Rattle.pw_code.specs.declared.context.Context.{Context}
use Rattle.pw_code.specs.declared.system.System.{System}
use Rattle.pw_code.specs.declared.unit.Unit as unit
use Rattle.pw_event.specs.declared.event.Cause.{Cause}
use Rattle.pw_event.specs.declared.event.Cause.TheVariants.{Older, Redo}
use Rattle.pw_event.specs.declared.event.Ending.TheVariants.{Suspended}
use Rattle.pw_event.specs.declared.event.Event.{Event}
use Rattle.pw_event.specs.declared.event.Event.TheVariants.{Restart, End}
use Rattle.pw_world_state.specs.Kept.{Kept}
use Rattle.pw_world_state.specs.Read.{IsEntryRead, IsRead}
use Rattle.pw_onecopy.specs.Behaviour.{Behaviour}
use Rattle.pw_paired.specs.Failure.{Meets, unit_named}
use Rattle.pw_paired.specs.State.{OpenUnit, State}

-- the conflict of two units by the next file operation of a process whose context stands at its verb
pub record MeetsAtVerb (sys : Behaviour) (state : State) (kept : Kept)
    (one other : unit.Unit) : Type 0 where
  pub meets : Meets sys state one other
  pub context : Context
  pub is_kept : kept.jobs meets.class meets.process ≡ Some context
  pub at_verb : context.at_verb ≡ true

-- the unit of a terminal and that of another one meet so, in either order
pub record UnitsMeet (sys : Behaviour) (state : State) (kept : Kept) (t o : ℕ) : Type 0 where
  pub own : OpenUnit
  pub is_own : state.units t ≡ Some own
  pub other : OpenUnit
  pub is_other : state.units o ≡ Some other
  pub meets : MeetsAtVerb sys state kept (unit_named t own) (unit_named o other)
      ⊎ MeetsAtVerb sys state kept (unit_named o other) (unit_named t own)

-- what a cause asks for beside that it holds, so that it shows
abbrev pub ShowsAtVerb : Behaviour → State → Kept → ℕ → Cause → Type 0
ShowsAtVerb sys state kept t (Older o m) = UnitsMeet sys state kept t o
ShowsAtVerb sys state kept t _ = Unit {0}

-- for REDO the program of the terminal has run on to its next verb, if the terminal can step
abbrev pub IsRedoRead : System → Kept → ℕ → Cause → Type 0
IsRedoRead system kept t Redo = IsRead system kept t
IsRedoRead system kept t _ = Unit {0}

-- what a step asks for beside that it is legal, so that it shows
abbrev pub StepShows : Behaviour → State → Kept → Event → Type 0
StepShows sys state kept (Restart t n cause) = ShowsAtVerb sys state kept t cause
StepShows sys state kept (End t (Suspended cause)) = ShowsAtVerb sys state kept t cause
StepShows sys state kept _ = Unit {0}

-- what is to be read so that the test of an entry tells the steps that show: no server for OLDER
abbrev pub IsStepRead : System → Kept → Event → Type 0
IsStepRead system kept (Restart t n cause) = IsRedoRead system kept t cause
IsStepRead system kept (End t (Suspended cause)) = IsRedoRead system kept t cause
IsStepRead system kept entry = IsEntryRead system kept entry
