use Rattle.std.proofs.Common.{◌++◌, [], sym, ap, ◌∙◌}
use Rattle.pw_operands.specs.Uses.{result_uses}
use Rattle.pw_operands.specs.Resolved.{is_sum}
use Rattle.pw_names.specs.Flaws.{amount_flaws, item_flaws, flaws_of}
use Rattle.pw_names.specs.Order.{noted}
use Rattle.pw_names.proofs.Noted.{one-part, two-parts}
use Rattle.pw_names.proofs.scope.NameScope.result.Goals as goal

pub returns-in-Some : goal.returns-in-Some
returns-in-Some c =
    two-parts c.args.known c.amount-known.result c.item.result c.args.line (amount_flaws c.args.self.now.scope c.args.second.now) ((item_flaws c.args.self.now.scope is_sum c.in-Some.item) ++ []) c.amount-known.ensures (one-part c.amount-known.result c.item.result c.args.line (item_flaws c.args.self.now.scope is_sum c.in-Some.item) c.item.ensures)
    ∙ ap (λ giving. noted c.args.known c.args.line (flaws_of c.args.self.now.scope (result_uses c.args.second.now giving))) (sym c.in-Some.is)
