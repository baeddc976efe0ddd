-- The arguments that are left fit the lengths that are left where all fit.
use Rattle.std.proofs.Common.{◌≡◌, length}
use Rattle.pw_names.specs.Calls.{arguments_fit}
use Rattle.pw_names.proofs.scope.NameScope.arguments_fit.Given as goal

abbrev pub invariant-loop-argument : goal.invariant-loop-argument
invariant-loop-argument l = arguments_fit l.self.scope l.rest l.others ≡ arguments_fit l.self.scope l.arguments l.lengths

abbrev pub decreases-loop-argument : goal.decreases-loop-argument
decreases-loop-argument l = length l.rest
