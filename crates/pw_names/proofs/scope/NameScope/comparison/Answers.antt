use Rattle.std.proofs.Common.{◌++◌, [], sym, ap, ◌∙◌}
use Rattle.pw_operands.specs.Uses.{comparison_uses}
use Rattle.pw_names.specs.Flaws.{any_flaws, flaws_of}
use Rattle.pw_names.specs.Order.{noted}
use Rattle.pw_names.proofs.Noted.{one-part, two-parts}
use Rattle.pw_names.proofs.scope.NameScope.comparison.Goals as goal

pub returns-in-Compare : goal.returns-in-Compare
returns-in-Compare c =
    two-parts c.args.known c.any-known.result c.any.result c.args.line (any_flaws c.args.self.now.scope c.in-Compare.left) ((any_flaws c.args.self.now.scope c.in-Compare.right) ++ []) c.any-known.ensures (one-part c.any-known.result c.any.result c.args.line (any_flaws c.args.self.now.scope c.in-Compare.right) c.any.ensures)
    ∙ ap (λ comparison. noted c.args.known c.args.line (flaws_of c.args.self.now.scope (comparison_uses comparison))) (sym c.in-Compare.is)
