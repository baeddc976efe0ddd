use Rattle.pw_operands.specs.Uses as place
use Rattle.pw_operands.specs.Uses.{cond_uses}
use Rattle.pw_names.specs.Flaws.{flaws, flaws_of}
use Rattle.pw_names.proofs.Noted.{two-parts}
use Rattle.pw_names.proofs.scope.NameScope.perform_until.Goals as goal

pub returns : goal.returns
returns c =
    two-parts c.args.known c.paragraph-known.result c.cond.result c.args.line (flaws c.args.self.now.scope (place.Paragraph c.args.paragraph.now)) (flaws_of c.args.self.now.scope (cond_uses c.args.cond.now))
    c.paragraph-known.ensures c.cond.ensures
