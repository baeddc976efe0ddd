-- What a follower of a trail has been told.
use Rattle.std.specs.Prelude.{◌≡◌, ℕ, List, ◌++◌, map}
use Rattle.pw_group_commit.specs.Grouped.{GroupState, settled_units, waiting_units}
use Rattle.pw_group_commit.specs.declared.follower.UnitName.{UnitName}
use Rattle.pw_trail.specs.declared.changes.UnitChanges.{UnitChanges}

-- the name of a unit
abbrev pub name_of : UnitChanges → UnitName
name_of unit = record { terminal = unit.terminal; number = unit.unit }

-- the names of units, in their order
abbrev pub names_of : List UnitChanges → List UnitName
names_of units = map name_of units

-- these are the names of the last of the units
pub record AreLastOf (units : List UnitChanges) (names : List UnitName) : Type 0 where
  pub front : List UnitName
  pub is : names_of units ≡ front ++ names

-- The follower was told the units that are settled, and no other, in their order; the names are those of the units that wait.
pub record IsFollowed {S F : Type 0} (settled : S → List ℕ) (before : List UnitChanges) (was_told : F → List UnitName → Type 0)
    (log : GroupState S) (waiting : List UnitName) (follower : F) : Type 0 where
  pub waits : names_of (waiting_units log) ≡ waiting
  pub told : was_told follower (names_of (settled_units settled before log))
