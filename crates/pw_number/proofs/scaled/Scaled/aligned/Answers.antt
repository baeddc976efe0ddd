-- Where one of the units does not fit, sum and difference are long.
use Rattle.std.proofs.Common.{IfNone}
use Rattle.pw_number.specs.Arithmetic.{raised, common}
use Rattle.pw_number.proofs.Sizes.{aligned_none, BothLong, IfNone-map}
use Rattle.pw_number.proofs.scaled.Scaled.aligned.Goals as goal

long_both : (c : goal.After-zip) → IfNone c.zip.result (BothLong (raised (common c.args.self c.args.other) c.args.self) (raised (common c.args.self c.args.other) c.args.other))
long_both c = aligned_none c.args.self c.args.other c.common_places-places.result c.raised-left.result c.raised-right.result c.zip.result c.common_places-places.ensures.places c.raised-left.ensures.bound c.raised-right.ensures.bound c.raised-left.ensures.units c.raised-right.ensures.units c.zip.ensures

pub returns-clause-sum : goal.returns-clause-sum
returns-clause-sum c = IfNone-map c.zip.result (λ both. both.long_sum) (long_both c)

pub returns-clause-difference : goal.returns-clause-difference
returns-clause-difference c = IfNone-map c.zip.result (λ both. both.long_difference) (long_both c)
