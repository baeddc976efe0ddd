-- How the schedule of a source is answered.
use Rattle.std.specs.Prelude.{◌≡◌, ℕ, List, Option, IfSome}
use Rattle.pw_base.specs.Outside.{Rose}
use Rattle.pw_base.specs.declared.read_all.ReadFault.{ReadFault}
use Rattle.pw_base.specs.declared.read_all.ReadFault.TheVariants as fault
use Rattle.pw_expand.specs.Printed.{schedule_answered, expanded}
use Rattle.pw_expand.specs.declared.expand.ScheduleEnding.{ScheduleEnding}

-- what the bytes that the source had left, where it tells them, are answered by
pub record IsAnswered (left : Option (List ℕ)) (ending : ScheduleEnding) (text : List ℕ) : Type 0 where
  pub bytes : List ℕ
  pub read : IfSome left (λ had. had ≡ bytes)
  pub is : (ending, text) ≡ schedule_answered (expanded bytes)

-- why nothing is answered: the source failed, or memory ran out with its count of faults as it was
abbrev pub GivesUpSchedule : ReadFault → ℕ → ℕ → Type 0
GivesUpSchedule fault.Fault before now = Rose before now
GivesUpSchedule fault.Memory before now = now ≡ before
GivesUpSchedule fault.TooLong before now = ⊥
