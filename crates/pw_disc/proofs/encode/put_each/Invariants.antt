-- The bytes of those so far stand behind what was there, and their values are of their types.
use Rattle.std.proofs.Common.{◌≡◌, ◌++◌, All, take}
use Rattle.std.specs.List.{flat_map}
use Rattle.pw_disc.specs.Message.{unit_bytes}
use Rattle.pw_disc.specs.Values.{UnitHasValues}
use Rattle.pw_disc.proofs.encode.put_each.Given as goal

abbrev pub invariant-loop-unit : goal.invariant-loop-unit
invariant-loop-unit l = record {
  bytes : l.message ≡ l.initial.message ++ flat_map unit_bytes (take l.unit-index l.units);
  values : All UnitHasValues (take l.unit-index l.units);
}
