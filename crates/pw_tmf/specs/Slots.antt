-- The units of one terminal.
use Rattle.std.specs.Prelude.{ℕ, ◌≤◌, ◌∷◌, Bool, true, false, drop, List, Option, Some, None}
use Rattle.std.specs.Option.{IfSome, option_map}
use Rattle.pw_paired.specs.State.{BeforeImage, LastEnded}
use Rattle.pw_tmf.specs.declared.answer.Ended.{Ended}
use Rattle.pw_tmf.specs.Told.{ToldUnit}
use Rattle.pw_tmf.specs.Units.{stopped}

-- the open unit, if any, and the last ended one
pub record SlotState : Type 0 where
  pub open_unit : Option ToldUnit
  pub ended : LastEnded

-- the last ended unit as all terminals have one: the number 0 is none
abbrev pub last_ended : Option Ended → LastEnded
last_ended None = record { number = 0; reply = None }
last_ended (Some unit) = record { number = unit.number; reply = unit.reply }

-- the numbers count from 1
pub record NumbersFromOne (unit : Option ToldUnit) (ended : Option Ended) : Type 0 where
  pub unit_number : IfSome unit (λ own. 1 ≤ own.number)
  pub ended_number : IfSome ended (λ last. 1 ≤ last.number)

-- the open unit has ended with this reply
abbrev pub ended_with_reply : Option (List ℕ) → Option ToldUnit → LastEnded → LastEnded
ended_with_reply reply None last = last
ended_with_reply reply (Some unit) last = record { number = unit.number; reply = reply }

-- the units of a terminal once the open one has ended with this reply
abbrev pub ended_slot : Option (List ℕ) → SlotState → SlotState
ended_slot reply slot = record { open_unit = None; ended = ended_with_reply reply slot.open_unit slot.ended }

-- the open unit is backed out: it ends, or stays open without an attempt
abbrev pub backed_out_slot : Bool → SlotState → SlotState
backed_out_slot true slot = ended_slot None slot
backed_out_slot false slot = record slot { open_unit = option_map stopped slot.open_unit }

-- a unit with one more before-image
abbrev pub with_before : BeforeImage → ToldUnit → ToldUnit
with_before image unit = record unit { before = image ∷ unit.before }

-- a unit without its last before-image
abbrev pub without_last : ToldUnit → ToldUnit
without_last unit = record unit { before = drop 1 unit.before }

-- the open unit, if any, is changed
abbrev pub with_unit : (ToldUnit → ToldUnit) → SlotState → SlotState
with_unit change slot = record slot { open_unit = option_map change slot.open_unit }

-- the before-images of a unit
abbrev pub images_in : ToldUnit → List BeforeImage
images_in unit = unit.before
