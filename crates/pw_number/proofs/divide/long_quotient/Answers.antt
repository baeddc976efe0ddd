-- The quotient is found in one step, or in two.
use Rattle.std.proofs.Common.{◌≡◌, ℕ, ◌+◌, ◌*◌, ◌/◌, ◌%◌, ◌^◌, ◌<◌, ◌∙◌, sym, ap, subst, Option, None, arith}
use Rattle.std.specs.Option.{SomeIff}
use Rattle.pw_number.proofs.Quotients.{in_two_steps}
use Rattle.pw_number.proofs.divide.long_quotient.Goals as goal

-- where already the front part is too long, the whole is
front_long : (result : Option ℕ) (front back whole limit : ℕ) → result ≡ None → front + back ≡ whole → ¬ (front < limit) → SomeIff result (whole < limit) whole
front_long result front back whole limit none parts long = subst (λ r. SomeIff r (whole < limit) whole) (sym none) (λ (h : whole < limit). long (omega arith))

pub returns-in_err-front : goal.returns-in_err-front
returns-in_err-front c = front_long c.from_residual.result _ _ _ _ c.from_residual.ensures
    (in_two_steps c.args.size c.args.zeros 18 c.args.divisor c.power_of_ten-2.result c.power_of_ten-second.result (omega arith) (omega arith) c.power_of_ten-2.ensures.value c.power_of_ten-second.ensures.value)
    c.in_err-front.ensures

pub returns : goal.returns
returns c =
    let whole = in_two_steps c.args.size c.args.zeros 18 c.args.divisor c.power_of_ten-2.result c.power_of_ten-second.result (omega arith) (omega arith) c.power_of_ten-2.ensures.value c.power_of_ten-second.ensures.value in
    let back : ℕ = c.args.size * c.power_of_ten-2.result % c.args.divisor * c.power_of_ten-second.result / c.args.divisor in
    subst (λ n. SomeIff c.checked_add.result (n < 2 ^ 128) n) (ap (λ m. m + back) c.in_ok-front.ensures.1 ∙ whole) c.checked_add.ensures
