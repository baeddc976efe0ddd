use Rattle.std.proofs.Common.{sym, ap, ◌∙◌}
use Rattle.std.specs.List.{flat_map}
use Rattle.std.proofs.lemmas.List.Folds.{flat_map-map}
use Rattle.pw_operands.specs.Variables.{is_item}
use Rattle.pw_operands.specs.Uses as place
use Rattle.pw_names.specs.Flaws.{item_flaws, flaws}
use Rattle.pw_names.proofs.Noted.{noted-further, noted-done}
use Rattle.pw_names.specs.Order.{noted}
use Rattle.pw_names.proofs.scope.NameScope.yields.Goals as goal

pub loop-code-preserved : goal.loop-code-preserved
loop-code-preserved c =
    noted-further c.args.line (λ code. item_flaws c.args.self.now.scope is_item code.yields) c.args.codes.now c.loop-code.code-index c.code-item.result c.loop-code.found c.item-found.result
    (noted c.args.known c.args.line (flat_map (λ code. item_flaws c.args.self.now.scope is_item code.yields) c.args.codes.now)) c.loop-code-test.true c.code-item.is c.item-found.ensures c.loop-code.invariant

pub returns : goal.returns
returns c =
    noted-done c.args.line (λ code. item_flaws c.args.self.now.scope is_item code.yields) c.args.codes.now c.loop-code.code-index c.loop-code.found (noted c.args.known c.args.line (flat_map (λ code. item_flaws c.args.self.now.scope is_item code.yields) c.args.codes.now))
    c.loop-code-test.false c.loop-code.invariant
    ∙ ap (noted c.args.known c.args.line) (sym (flat_map-map (flaws c.args.self.now.scope) (λ code. place.Receiver code.yields) c.args.codes.now))
