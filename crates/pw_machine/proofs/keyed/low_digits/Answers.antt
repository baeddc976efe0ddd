-- One digit more.
use Rattle.std.proofs.Common.{◌≡◌, ℕ, ◌-◌, ◌*◌, ◌/◌, ◌%◌, ◌^◌, filter, sym, ap, ◌∙◌, arith}
use Rattle.std.specs.Char.{is_ascii_digit}
use Rattle.pw_picture.specs.Stored.{size_at, value_of}
use Rattle.pw_code.specs.Spelling.{number_in}
use Rattle.pw_machine.proofs.KeyedLemmas.{digit_more, few_digits, keyed_size, some_digits}
use Rattle.pw_machine.proofs.keyed.low_digits.Goals as goal

pub overflow_mul-size : goal.overflow_mul-size
overflow_mul-size c =
    let small = some_digits (size_at c.args.places (number_in c.args.value.now)) (c.args.digits - c.loop-place.place) c.loop-place.place c.loop-place.size c.loop-place.invariant (omega arith) in
    omega (arith, small)

pub overflow_add-size : goal.overflow_add-size
overflow_add-size c =
    let small = some_digits (size_at c.args.places (number_in c.args.value.now)) (c.args.digits - c.loop-place.place) c.loop-place.place c.loop-place.size c.loop-place.invariant (omega arith) in
    omega (arith, small, c.digit_with-digit.ensures)

pub loop-place-preserved : goal.loop-place-preserved
loop-place-preserved c =
    let v = value_of 0 (filter is_ascii_digit c.args.value.now) in
    let w : ℕ = c.args.digits - 1 - c.loop-place.place in
    let digit : c.digit_with-digit.result ≡ size_at c.args.places (number_in c.args.value.now) / 10 ^ w % 10 =
    c.digit_with-digit.ensures ∙ ap (λ d. v * 10 ^ c.args.places / 10 ^ d / 10 ^ w % 10) c.decimals_in-decimals.ensures
    ∙ ap (λ m. m / 10 ^ w % 10) (sym (keyed_size c.args.value.now c.args.places)) in
    digit_more (size_at c.args.places (number_in c.args.value.now)) c.loop-place.size c.args.digits c.loop-place.place c.digit_with-digit.result c.loop-place-test.true
    c.loop-place.invariant digit

pub returns-clause-bound : goal.returns-clause-bound
returns-clause-bound c =
    let few = few_digits (size_at c.args.places (number_in c.args.value.now) / 10 ^ (c.args.digits - c.loop-place.place)) c.loop-place.place (omega arith) in
    omega (arith, few, c.loop-place.invariant)
