use Rattle.std.proofs.Common.{◌++◌, []}
use Rattle.pw_operands.specs.Uses as place
use Rattle.pw_names.specs.Flaws.{flaws, amount_flaws}
use Rattle.pw_names.proofs.Noted.{one-part, two-parts}
use Rattle.pw_names.proofs.scope.NameScope.perform_times.Goals as goal

pub returns : goal.returns
returns c =
    two-parts c.args.known c.paragraph-known.result c.amount.result c.args.line (flaws c.args.self.now.scope (place.Paragraph c.args.paragraph.now)) ((amount_flaws c.args.self.now.scope c.args.times.now) ++ []) c.paragraph-known.ensures (one-part c.paragraph-known.result c.amount.result c.args.line (amount_flaws c.args.self.now.scope c.args.times.now) c.amount.ensures)
