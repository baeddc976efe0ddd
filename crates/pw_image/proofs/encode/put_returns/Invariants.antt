-- The bytes of those so far stand behind what was there, and their values are of their types.
use Rattle.std.proofs.Common.{◌≡◌, ◌++◌, All, take}
use Rattle.std.specs.List.{flat_map}
use Rattle.pw_image.specs.Image.{return_bytes}
use Rattle.pw_image.specs.Values.{ReturnHasValues}
use Rattle.pw_image.proofs.encode.put_returns.Given as goal

abbrev pub invariant-loop-active : goal.invariant-loop-active
invariant-loop-active l = record {
  bytes : l.image ≡ l.initial.image ++ flat_map return_bytes (take l.active-index l.returns);
  values : All ReturnHasValues (take l.active-index l.returns);
}
