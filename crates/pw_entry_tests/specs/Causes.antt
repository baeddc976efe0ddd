-- The causes for which a unit restarts: which one was found, and whether any is there.
use Rattle.std.specs.Prelude.{◌≡◌, ℕ, ◌+◌, ◌<◌, ◌==◌, ◌&&◌, ◌||◌, nat_lt, Bool, true, false, not, length, Option, Some, None, slice_get, if◌then◌else◌}
use Rattle.pw_class.specs.declared.request.Request.{Request}
use Rattle.pw_code.specs.declared.file.FileCall.{FileCall}
use Rattle.pw_code.specs.declared.system.System.{System}
use Rattle.pw_code.specs.declared.unit.Unit as unit
use Rattle.pw_event.specs.declared.event.Cause.{Cause}
use Rattle.pw_event.specs.declared.event.Cause.TheVariants.{Older}
use Rattle.pw_code_meaning.specs.OfSystem.{processes_by}
use Rattle.pw_world_state.specs.CauseTests.{kept_cause_holds, unit_named, work_meets}
use Rattle.pw_world_state.specs.ClassTests.{works_where}
use Rattle.pw_world_state.specs.Kept.{Kept}
use Rattle.pw_world_state.specs.PairTests.{is_gone}
use Rattle.pw_world_state.specs.TerminalTests.{seen_pair_of}
use Rattle.pw_paired.specs.Units.{any_below}
use Rattle.pw_tmf.specs.Leaving.{unit_told}
use Rattle.pw_tmf.specs.Operation.{awaits}
use Rattle.pw_tmf.specs.Told.{ToldUnit}
use Rattle.pw_tmf.specs.declared.answer.Foreseen.{Foreseen}
use Rattle.pw_tmf.specs.declared.answer.Foreseen.TheVariants as foreseen

-- the open unit of a terminal, where an attempt of it runs
abbrev pub running_told : ℕ → Option ToldUnit → Option unit.Unit
running_told t None = None
running_told t (Some own) = if own.running then Some (unit_named t own) else None

-- the unit is the open one of its terminal, which is a started one
pub record IsUnit (system : System) (kept : Kept) (unit : unit.Unit) : Type 0 where
  pub there : unit.terminal < length system.terminals
  pub open_unit : unit_told unit.terminal (kept.disc.units unit.terminal) ≡ Some unit

-- ---- where units meet

-- the next operation of a process for one of two units conflicts with a lock of the other
abbrev pub process_meets : System → Kept → unit.Unit → unit.Unit → ℕ → ℕ → Bool
process_meets system kept one other c i =
    works_where kept c i (work_meets system kept one other)
    || works_where kept c i (work_meets system kept other one)

-- the operation, of a request for one of two units, conflicts with a lock of the other
abbrev pub meets_by : Kept → unit.Unit → unit.Unit → Request → FileCall → Bool
meets_by kept one other request call =
    if request.terminal == one.terminal then awaits kept.disc one call other
    else if request.terminal == other.terminal then awaits kept.disc other call one
    else false

-- the same of some process of a class
abbrev pub class_meets : System → Kept → unit.Unit → unit.Unit → ℕ → Bool
class_meets system kept one other c =
    any_below (processes_by (slice_get system.classes c))
    (λ i. process_meets system kept one other c (i + 1))

-- the same of some process
abbrev pub units_meet : System → Kept → unit.Unit → unit.Unit → Bool
units_meet system kept one other =
    any_below (length system.classes) (λ c. class_meets system kept one other c)

-- the other unit has this number and is older, while a member of the unit's pair is left
abbrev pub comes_before : System → Kept → unit.Unit → unit.Unit → ℕ → Bool
comes_before system kept own older m =
    older.number == m && (nat_lt older.birth own.birth
    && not (is_gone (seen_pair_of system kept own.terminal).mode))

-- ---- what was found

-- an older open unit that the unit meets
pub record IsOlder (system : System) (kept : Kept) (own : unit.Unit) (met : unit.Unit → Bool)
    (older : unit.Unit) : Type 0 where
  pub is_open : IsUnit system kept older
  pub first : older.birth < own.birth
  pub meets : met older ≡ true

-- there is none, or this is one
abbrev pub IsOlderFound : System → Kept → unit.Unit → (unit.Unit → Bool) → Option unit.Unit → Type 0
IsOlderFound system kept own met None = (older : unit.Unit) → IsOlder system kept own met older → ⊥
IsOlderFound system kept own met (Some older) = IsOlder system kept own met older

-- the cause holds for the open unit
abbrev pub HoldsFor : System → Kept → unit.Unit → Cause → Type 0
HoldsFor system kept own cause =
    (told : ToldUnit) → kept.disc.units own.terminal ≡ Some told
    → kept_cause_holds system kept own.terminal told cause ≡ true

-- none holds, or this one does
abbrev pub IsCauseFound : System → Kept → unit.Unit → Option Cause → Type 0
IsCauseFound system kept own None = (cause : Cause) → HoldsFor system kept own cause → ⊥
IsCauseFound system kept own (Some cause) = HoldsFor system kept own cause

-- none of these holds, or this cause does
abbrev pub IsOneFound : (Cause → Type 0) → System → Kept → unit.Unit → Option Cause → Type 0
IsOneFound These system kept own None = (cause : Cause) → These cause → HoldsFor system kept own cause → ⊥
IsOneFound These system kept own (Some cause) = HoldsFor system kept own cause

-- it names an older unit
abbrev pub IsOlderCause : Cause → Type 0
IsOlderCause (Older o m) = Unit {0}
IsOlderCause _ = ⊥

-- the unit that stands in the way of an operation, where it is older
abbrev pub older_holder : unit.Unit → Foreseen → Option unit.Unit
older_holder own (foreseen.Done status) = None
older_holder own (foreseen.Conflict holder) = if nat_lt holder.birth own.birth then Some holder else None
