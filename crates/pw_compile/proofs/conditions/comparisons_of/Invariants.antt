-- The tests so far are those of the comparisons so far.
use Rattle.std.proofs.Common.{◌≡◌, take}
use Rattle.std.specs.Prelude.{map}
use Rattle.pw_compile.specs.Conditions.{comparison_of}
use Rattle.pw_compile.proofs.conditions.comparisons_of.Given as goal

abbrev pub invariant-loop-comparison : goal.invariant-loop-comparison
invariant-loop-comparison l = l.tests ≡ map (comparison_of l.layout) (take l.comparison-index l.all)
