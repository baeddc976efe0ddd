-- What the things so far have, with what those that are left have, is all.
use Rattle.std.proofs.Common.{◌≡◌, drop}
use Rattle.std.specs.List.{flat_map}
use Rattle.pw_operands.specs.Uses.{comparison_uses}
use Rattle.pw_names.specs.Flaws.{flaws_of}
use Rattle.pw_names.specs.Order.{noted}
use Rattle.pw_names.proofs.scope.NameScope.alternatives.Given as goal

abbrev pub invariant-loop-all : goal.invariant-loop-all
invariant-loop-all l =
    noted l.found l.line (flat_map (λ all. flaws_of l.self.scope (flat_map comparison_uses all)) (drop l.all-index l.any)) ≡ noted l.fn.known l.line (flat_map (λ all. flaws_of l.self.scope (flat_map comparison_uses all)) l.any)
