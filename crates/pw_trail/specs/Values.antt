-- What the values of a unit's changes are where they were written: numbers that have room in their bytes, and bytes.
use Rattle.std.specs.Prelude.{◌<◌, ◌^◌, length, All}
use Rattle.pw_image.specs.Values.{AreBytes}
use Rattle.pw_trail.specs.declared.changes.Change.{Change}
use Rattle.pw_trail.specs.declared.changes.UnitChanges.{UnitChanges}

-- the numbers and bytes of a change are of their types
pub record ChangeHasValues (change : Change) : Type 0 where
  pub file : change.file < 2 ^ 32
  pub size : length change.bytes < 2 ^ 32
  pub bytes : AreBytes change.bytes

-- the numbers and bytes of a unit's changes are of their types
pub record UnitChangesHaveValues (own : UnitChanges) : Type 0 where
  pub terminal : own.terminal < 2 ^ 32
  pub unit : own.unit < 2 ^ 32
  pub count : length own.changes < 2 ^ 32
  pub changes : All ChangeHasValues own.changes
