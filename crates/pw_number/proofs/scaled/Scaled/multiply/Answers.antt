-- The digits that are cut are those beyond 18 places.
use Rattle.std.proofs.Common.{◌≡◌, ℕ, ◌+◌, ◌-◌, ◌≤◌, ◌^◌, ◌∙◌, min, refl, ap, ℤ, pos, ◌*ℤ◌, int_div, FitsSigned, unsigned_abs, rules, arith, to_z-of_z, lit<}
use Rattle.std.specs.Int.{w128}
use Rattle.std.proofs.lemmas.Int.{fits_signed_mul}
use Rattle.pw_number.specs.Number.{Number, number}
use Rattle.pw_number.specs.Arithmetic.{sized, cut, product}
use Rattle.pw_number.proofs.scaled.Scaled.multiply.Goals as goal

product_cut : (a b : Number) (left right : ℤ) (all places digits : ℕ) → left ≡ a.units → right ≡ b.units → all ≡ a.places + b.places → places ≡ min all 18 → digits ≡ all - places
    → sized (number (int_div (left *ℤ right) (pos (10 ^ digits))) places) ≡ sized (cut 18 (product a b))
product_cut a b left right all places digits left_is right_is all_is places_are digits_are =
    let few : digits ≡ (a.places + b.places) - 18 = omega arith in
    let kept : places ≡ min (a.places + b.places) 18 = omega arith in
    cc

pub returns : goal.returns
returns c =
    let fits_left : FitsSigned w128 c.units.result = search rules in
    let fits_right : FitsSigned w128 c.units-2.result = search rules in
    let small_left : unsigned_abs c.units.result ≤ 10 ^ 18 = omega (arith, ap unsigned_abs c.units.ensures.units) in
    let small_right : unsigned_abs c.units-2.result ≤ 10 ^ 18 = omega (arith, ap unsigned_abs c.units-2.ensures.units) in
    let fits_product : FitsSigned w128 (c.units.result *ℤ c.units-2.result) = fits_signed_mul w128 c.units.result c.units-2.result (10 ^ 18) (10 ^ 18) small_left small_right (lit< tt) in
    let fits_cut : FitsSigned w128 c.without_digits.result = search rules in
    let divided : c.without_digits.result ≡ int_div (c.units.result *ℤ c.units-2.result) (pos (10 ^ (c.places.result + c.places-2.result - c.min-places.result))) = simp to_z-of_z at c.without_digits.ensures in
    let whole : c.sized.result ≡ sized (number c.without_digits.result c.min-places.result) = simp to_z-of_z at c.sized.ensures in
    whole ∙ ap (λ z. sized (number z c.min-places.result)) divided
    ∙ product_cut c.args.self c.args.other c.units.result c.units-2.result (c.places.result + c.places-2.result) c.min-places.result _ c.units.ensures.units c.units-2.ensures.units (omega arith) c.min-places.ensures refl
