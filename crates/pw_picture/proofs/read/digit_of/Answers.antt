-- The table has each character as a digit.
use Rattle.std.proofs.Common.{arith}
use Rattle.pw_picture.proofs.Tables.{digit_at}
use Rattle.pw_picture.proofs.read.digit_of.Goals as goal

pub returns-clause-digit : goal.returns-clause-digit
returns-clause-digit c = (digit_at c.args.char (omega arith)).0

pub returns-clause-bound : goal.returns-clause-bound
returns-clause-bound c = (digit_at c.args.char (omega arith)).1
