-- The oldest of some units.
use Rattle.std.specs.Prelude.{◌≤◌, nat_le, List, Bool, All, Contains, Option, None, Some, if◌then◌else◌}
use Rattle.pw_code.specs.declared.unit.Unit as unit

-- the unit is one of these, and none of them is older
pub record IsOldest (oldest : unit.Unit) (units : List unit.Unit) : Type 0 where
  pub among : Contains units oldest
  pub none_older : All (λ other. oldest.birth ≤ other.birth) units

-- the older of a unit and of the one that is known, if any
abbrev pub older : Option unit.Unit → unit.Unit → unit.Unit
older None unit = unit
older (Some known) unit = if nat_le known.birth unit.birth then known else unit

-- the one that is known, or where the unit counts the older of the two
abbrev pub oldest_unit_noted : Option unit.Unit → Bool → unit.Unit → Option unit.Unit
oldest_unit_noted known counts unit = if counts then Some (older known unit) else known
