-- What the things so far have, with what those that are left have, is all.
use Rattle.std.proofs.Common.{◌≡◌, drop}
use Rattle.std.specs.List.{flat_map}
use Rattle.pw_operands.specs.Uses.{comparison_uses}
use Rattle.pw_names.specs.Flaws.{flaws_of}
use Rattle.pw_names.specs.Order.{noted}
use Rattle.pw_names.proofs.scope.NameScope.comparisons.Given as goal

abbrev pub invariant-loop-comparison : goal.invariant-loop-comparison
invariant-loop-comparison l =
    noted l.found l.line (flat_map (λ one. flaws_of l.self.scope (comparison_uses one)) (drop l.comparison-index l.all)) ≡ noted l.fn.known l.line (flat_map (λ one. flaws_of l.self.scope (comparison_uses one)) l.all)
