-- The turns so far are those of the names so far.
use Rattle.std.proofs.Common.{◌≡◌, take}
use Rattle.std.specs.Prelude.{map}
use Rattle.pw_compile.specs.Plan.{turn_of}
use Rattle.pw_compile.proofs.plan.Plan.turns_named.Given as goal

abbrev pub invariant-loop-name : goal.invariant-loop-name
invariant-loop-name l = l.turns ≡ map (turn_of l.self) (take l.name-index l.names)
