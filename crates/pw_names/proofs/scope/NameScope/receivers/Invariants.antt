-- What the things so far have, with what those that are left have, is all.
use Rattle.std.proofs.Common.{◌≡◌, drop}
use Rattle.std.specs.List.{flat_map}
use Rattle.pw_operands.specs.Variables.{is_item}
use Rattle.pw_names.specs.Flaws.{item_flaws}
use Rattle.pw_names.specs.Order.{noted}
use Rattle.pw_names.proofs.scope.NameScope.receivers.Given as goal

abbrev pub invariant-loop-operand : goal.invariant-loop-operand
invariant-loop-operand l =
    noted l.found l.line (flat_map (item_flaws l.self.scope is_item) (drop l.operand-index l.operands)) ≡ noted l.fn.known l.line (flat_map (item_flaws l.self.scope is_item) l.operands)
