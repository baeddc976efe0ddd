use Rattle.std.proofs.Common.{◌+◌, ◌/◌, ◌%◌, ◌≤◌, length, sym, ap, ◌∙◌, arith}
use Rattle.std.proofs.lemmas.List.{get_or_past}
use Rattle.pw_terminal.proofs.Cells.{length-digits_of}
use Rattle.pw_picture.specs.Stored.{digits_of}
use Rattle.pw_machine.proofs.TextLemmas.{get_or-digits_of}
use Rattle.pw_machine.proofs.texts.digit_of_value.Goals as goal

pub returns-then-place-digits : goal.returns-then-place-digits
returns-then-place-digits c =
    ap (λ p. 48 + c.args.value / p % 10) c.power_of_ten.ensures.value ∙ sym (get_or-digits_of c.args.digits c.args.value c.args.place c.if-place-digits.true)

pub returns-else-place-digits : goal.returns-else-place-digits
returns-else-place-digits c =
    let past : length (digits_of c.args.digits c.args.value) ≤ c.args.place = omega (arith, length-digits_of c.args.digits c.args.value) in
    sym (get_or_past (digits_of c.args.digits c.args.value) c.args.place 32 past)
