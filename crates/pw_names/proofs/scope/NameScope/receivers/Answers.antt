use Rattle.std.proofs.Common.{sym, ap, ◌∙◌}
use Rattle.std.specs.List.{flat_map}
use Rattle.std.proofs.lemmas.List.Folds.{flat_map-map}
use Rattle.pw_operands.specs.Variables.{is_item}
use Rattle.pw_operands.specs.Uses as place
use Rattle.pw_names.specs.Flaws.{item_flaws, flaws}
use Rattle.pw_names.proofs.Noted.{noted-further, noted-done}
use Rattle.pw_names.specs.Order.{noted}
use Rattle.pw_names.proofs.scope.NameScope.receivers.Goals as goal

pub loop-operand-preserved : goal.loop-operand-preserved
loop-operand-preserved c =
    noted-further c.args.line (item_flaws c.args.self.now.scope is_item) c.args.operands.now c.loop-operand.operand-index c.operand-item.result c.loop-operand.found c.item-found.result
    (noted c.args.known c.args.line (flat_map (item_flaws c.args.self.now.scope is_item) c.args.operands.now)) c.loop-operand-test.true c.operand-item.is c.item-found.ensures c.loop-operand.invariant

pub returns : goal.returns
returns c =
    noted-done c.args.line (item_flaws c.args.self.now.scope is_item) c.args.operands.now c.loop-operand.operand-index c.loop-operand.found (noted c.args.known c.args.line (flat_map (item_flaws c.args.self.now.scope is_item) c.args.operands.now))
    c.loop-operand-test.false c.loop-operand.invariant
    ∙ ap (noted c.args.known c.args.line) (sym (flat_map-map (flaws c.args.self.now.scope) place.Receiver c.args.operands.now))
