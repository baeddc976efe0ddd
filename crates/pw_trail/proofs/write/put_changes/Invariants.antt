-- The bytes of those so far stand behind what was there, and their values are of their types.
use Rattle.std.proofs.Common.{◌≡◌, ◌++◌, All, take}
use Rattle.std.specs.List.{flat_map}
use Rattle.pw_trail.specs.Body.{change_bytes}
use Rattle.pw_trail.specs.Values.{ChangeHasValues}
use Rattle.pw_trail.proofs.write.put_changes.Given as goal

abbrev pub invariant-loop-change : goal.invariant-loop-change
invariant-loop-change l = record {
  bytes : l.made ≡ l.initial.made ++ flat_map change_bytes (take l.change-index l.changes);
  values : All ChangeHasValues (take l.change-index l.changes);
}
