-- What the things so far have, with what those that are left have, is all.
use Rattle.std.proofs.Common.{◌≡◌, drop}
use Rattle.std.specs.List.{flat_map}
use Rattle.pw_operands.specs.Variables.{is_item}
use Rattle.pw_names.specs.Flaws.{item_flaws}
use Rattle.pw_names.specs.Order.{noted}
use Rattle.pw_names.proofs.scope.NameScope.yields.Given as goal

abbrev pub invariant-loop-code : goal.invariant-loop-code
invariant-loop-code l =
    noted l.found l.line (flat_map (λ code. item_flaws l.self.scope is_item code.yields) (drop l.code-index l.codes)) ≡ noted l.fn.known l.line (flat_map (λ code. item_flaws l.self.scope is_item code.yields) l.codes)
