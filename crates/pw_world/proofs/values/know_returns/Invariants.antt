use Rattle.std.proofs.Common.{All, take}
use Rattle.pw_image.specs.Values.{ReturnHasValues}
use Rattle.pw_world.proofs.values.know_returns.Given as goal

abbrev pub invariant-loop-active : goal.invariant-loop-active
invariant-loop-active l = All ReturnHasValues (take l.active-index l.returns)
