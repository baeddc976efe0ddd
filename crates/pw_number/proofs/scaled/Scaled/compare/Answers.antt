-- The numbers compare as their units at common places, or as the sign of the larger.
use Rattle.std.proofs.Common.{◌≡◌, ◌∙◌, ap, pos, FitsSigned, rules, arith, to_z-of_z}
use Rattle.std.specs.Int.{w128}
use Rattle.std.specs.Ordering.{int_cmp, ordering_reverse}
use Rattle.pw_number.proofs.Scales.{order-raised, order-large_left, order-large_right}
use Rattle.pw_number.proofs.Sizes.{larger_left, larger_right}
use Rattle.pw_number.proofs.scaled.Scaled.compare.Goals as goal

pub returns-in-Some-Some : goal.returns-in-Some-Some
returns-in-Some-Some c =
    let fits_left : FitsSigned w128 c.in-Some-Some.left = search rules in
    let fits_right : FitsSigned w128 c.in-Some-Some.right = search rules in
    let compared : c.cmp.result ≡ int_cmp c.in-Some-Some.left c.in-Some-Some.right = simp to_z-of_z at c.cmp.ensures in
    let ordered = order-raised c.args.self.now c.args.other.now c.common_places-places.result (omega arith) (omega arith) in
    let left_is = c.in-Some-Some.ensures.units.1 in
    let right_is = c.in-Some-Some.ensures'.units.1 in
    cc

pub returns-in_default-None : goal.returns-in_default-None
returns-in_default-None c =
    let fits : FitsSigned w128 c.units.result = search rules in
    let signed : c.by_sign.result ≡ int_cmp c.units.result (pos 0) = simp to_z-of_z at c.by_sign.ensures in
    c.reverse.ensures ∙ ap ordering_reverse (signed ∙ ap (λ z. int_cmp z (pos 0)) c.units.ensures.units)
    ∙ order-large_right c.args.self.now c.args.other.now c.common_places-places.result (omega arith) (omega arith)
    (larger_right c.args.self.now c.args.other.now c.common_places-places.result c.common_places-places.ensures.places c.raised.ensures.bound c.raised-2.ensures.bound c.in_default-None.ensures'.units)

pub returns-in-None-default : goal.returns-in-None-default
returns-in-None-default c =
    let fits : FitsSigned w128 c.units-in-None-default.result = search rules in
    let signed : c.by_sign-in-None-default.result ≡ int_cmp c.units-in-None-default.result (pos 0) = simp to_z-of_z at c.by_sign-in-None-default.ensures in
    signed ∙ ap (λ z. int_cmp z (pos 0)) c.units-in-None-default.ensures.units
    ∙ order-large_left c.args.self.now c.args.other.now c.common_places-places.result (omega arith) (omega arith)
    (larger_left c.args.self.now c.args.other.now c.common_places-places.result c.common_places-places.ensures.places c.raised.ensures.bound c.raised-2.ensures.bound (rw c.in-None-default.is-0 at c.raised.ensures.units))
