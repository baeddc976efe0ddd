-- At its own places a number is there as it is.
use Rattle.std.proofs.Common.{◌≡◌, FitsSigned, rules, to_z-of_z}
use Rattle.std.specs.Int.{w128}
use Rattle.pw_number.proofs.Sizes.{raised_there}
use Rattle.pw_number.proofs.scaled.Scaled.raised.Goals as goal

pub returns-then-places-clause-units : goal.returns-then-places-clause-units
returns-then-places-clause-units c =
    let fits : FitsSigned w128 c.units.result = search rules in
    let is : c.units.result ≡ c.args.self.units = c.units.ensures.units in
    simp to_z-of_z (raised_there c.args.self c.args.places c.places.result c.units.result is c.places.ensures.places c.if-places.true (rw is at c.units.ensures.bound))
