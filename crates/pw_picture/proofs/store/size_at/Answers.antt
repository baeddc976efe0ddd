-- At its own places a number's digits are those of its units.
use Rattle.std.proofs.Common.{◌≡◌, FitsSigned, unsigned_abs, rules, arith, sym, to_z-of_z}
use Rattle.std.specs.Int.{w128}
use Rattle.pw_picture.specs.Stored.{size_at}
use Rattle.pw_picture.proofs.Digits.{size_at-own}
use Rattle.pw_picture.proofs.store.size_at.Goals as goal

pub returns-then-places : goal.returns-then-places
returns-then-places c =
    let fits : FitsSigned w128 c.units.result = search rules in
    let size_is : c.unsigned_abs.result ≡ unsigned_abs c.args.value.units = rw c.units.ensures.units at (simp to_z-of_z at c.unsigned_abs.ensures.value) in
    let own : c.unsigned_abs.result ≡ size_at c.args.places c.args.value =
    size_at-own c.args.value c.args.places c.unsigned_abs.result c.places.result size_is c.places.ensures.places c.if-places.true in
    (omega (arith, sym own), own)
