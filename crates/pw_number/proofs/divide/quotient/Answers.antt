-- Zeros behind both numbers are left out.
use Rattle.std.proofs.Common.{◌≡◌, ◌*◌, ◌/◌, ◌^◌, ◌<◌, sym, ap, ◌∙◌, subst, arith}
use Rattle.std.specs.Option.{SomeIff}
use Rattle.std.proofs.Math.Nat.{div-le_self}
use Rattle.pw_number.proofs.Scales.{times_below}
use Rattle.pw_number.proofs.Quotients.{fewer_zeros, fewer_zeros-divisor}
use Rattle.pw_number.proofs.divide.quotient.Goals as goal

pub nonzero_div-result : goal.nonzero_div-result
nonzero_div-result c = omega (arith, times_below 0 c.args.divisor c.power_of_ten.result c.power_of_ten.ensures.above c.requires.divisor.0)

pub returns-then-zeros-divisor_zeros : goal.returns-then-zeros-divisor_zeros
returns-then-zeros-divisor_zeros c =
    subst (λ n. SomeIff c.long_quotient.result (n < 2 ^ 128) n) (sym (fewer_zeros c.args.size c.args.divisor c.args.zeros c.args.divisor_zeros (omega arith))) c.long_quotient.ensures

pub returns-else-zeros-divisor_zeros : goal.returns-else-zeros-divisor_zeros
returns-else-zeros-divisor_zeros c =
    let same : c.args.size / (c.args.divisor * c.power_of_ten.result) ≡ c.args.size * 10 ^ c.args.zeros / (c.args.divisor * 10 ^ c.args.divisor_zeros) = ap (λ p. c.args.size / (c.args.divisor * p)) c.power_of_ten.ensures.value ∙ sym (fewer_zeros-divisor c.args.size c.args.divisor c.args.zeros c.args.divisor_zeros (omega arith)) in
    (omega (arith, sym same, div-le_self c.args.size (c.args.divisor * c.power_of_ten.result)), same)
