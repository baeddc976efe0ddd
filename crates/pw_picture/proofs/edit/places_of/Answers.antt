-- From the point on there are no more digits than in all.
use Rattle.std.proofs.Common.{◌-◌, length, arith}
use Rattle.pw_picture.proofs.DigitSymbols.{fewer-part}
use Rattle.pw_picture.proofs.edit.places_of.Goals as goal

pub returns-clause-bound : goal.returns-clause-bound
returns-clause-bound c = omega (arith, c.digit_symbols.ensures, fewer-part (length c.args.symbols.now - c.before_point.result) c.before_point.result c.args.symbols.now)
