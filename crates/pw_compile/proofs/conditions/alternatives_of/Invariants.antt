-- The tests so far are those of the lists so far.
use Rattle.std.proofs.Common.{◌≡◌, take}
use Rattle.std.specs.Prelude.{map}
use Rattle.pw_compile.specs.Conditions.{comparison_of}
use Rattle.pw_compile.proofs.conditions.alternatives_of.Given as goal

abbrev pub invariant-loop-list : goal.invariant-loop-list
invariant-loop-list l = l.tests ≡ map (map (comparison_of l.layout)) (take l.list-index l.any)
