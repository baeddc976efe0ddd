use Rattle.pw_operands.specs.Uses.{result_uses}
use Rattle.pw_names.specs.Flaws.{amount_flaws, flaws_of}
use Rattle.pw_names.proofs.Noted.{two-parts}
use Rattle.pw_names.proofs.scope.NameScope.arithmetic.Goals as goal

pub returns : goal.returns
returns c =
    two-parts c.args.known c.amount-known.result c.result.result c.args.line (amount_flaws c.args.self.now.scope c.args.arithmetic.now.first) (flaws_of c.args.self.now.scope (result_uses c.args.arithmetic.now.second c.args.arithmetic.now.giving)) c.amount-known.ensures c.result.ensures
