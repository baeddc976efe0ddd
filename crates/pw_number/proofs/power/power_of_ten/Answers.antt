-- The table has the powers of ten in order, and a power of at most 38 is at most that one.
use Rattle.std.proofs.Common.{◌≤◌, arith, lit<}
use Rattle.std.proofs.Math.Nat.{pow-le-pow_right}
use Rattle.pw_number.specs.declared.power.TheConstants.{POWERS}
use Rattle.pw_number.proofs.Powers.{ten_at}
use Rattle.pw_number.proofs.Scales.{ten-pos}
use Rattle.pw_number.proofs.power.power_of_ten.Goals as goal

pub returns-clause-value : goal.returns-clause-value
returns-clause-value c = ten_at POWERS 0 c.args.exponent c.args.exponent tt (omega arith) (omega arith)

pub returns-clause-above : goal.returns-clause-above
returns-clause-above c = omega (arith, ten_at POWERS 0 c.args.exponent c.args.exponent tt (omega arith) (omega arith), ten-pos c.args.exponent)

pub returns-clause-bound : goal.returns-clause-bound
returns-clause-bound c = omega (arith, ten_at POWERS 0 c.args.exponent c.args.exponent tt (omega arith) (omega arith), pow-le-pow_right {n = 10} (lit< tt) c.requires)

pub returns-clause-small : goal.returns-clause-small
returns-clause-small c = λ (few : c.args.exponent ≤ 18). omega (arith, ten_at POWERS 0 c.args.exponent c.args.exponent tt (omega arith) (omega arith), pow-le-pow_right {n = 10} (lit< tt) few)
