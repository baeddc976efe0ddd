-- The quotient by its sign and size is the quotient of the values.
use Rattle.std.proofs.Common.{◌≡◌, ◌∙◌, ap, FitsSigned, rules, to_z-of_z}
use Rattle.std.specs.Int.{w128}
use Rattle.pw_number.specs.Sign.{signed, signs_differ}
use Rattle.pw_number.specs.Number.{number}
use Rattle.pw_number.specs.Arithmetic.{sized}
use Rattle.pw_number.proofs.Quotients.{divided_parts}
use Rattle.pw_number.proofs.scaled.Scaled.divide.Goals as goal

pub returns : goal.returns
returns c =
    let fits_units : FitsSigned w128 c.units-units.result = search rules in
    let fits_divisor : FitsSigned w128 c.units-divisor.result = search rules in
    let sign : c.signs_differ.result ≡ signs_differ c.units-units.result c.units-divisor.result = simp to_z-of_z at c.signs_differ.ensures in
    let size = (rw c.in_ok-ok_or.ensures.ok_part at c.quotient-size.ensures).1 in
    c.with_sign.ensures
    ∙ ap (λ s. sized (number (signed s c.in_ok-ok_or.field-0) c.args.places)) sign
    ∙ divided_parts c.args.self c.args.by c.args.places c.units-units.result c.units-divisor.result c.unsigned_abs.result c.unsigned_abs-divisor_size.result c.places-2.result c.places.result c.in_ok-ok_or.field-0
    c.units-units.ensures.units c.units-divisor.ensures.units (simp to_z-of_z at c.unsigned_abs.ensures.value) (simp to_z-of_z at c.unsigned_abs-divisor_size.ensures.value) c.places-2.ensures.places c.places.ensures.places c.if-divisor_size-eq0.false size
