use Rattle.std.proofs.Common.{ℕ, sym, ◌∙◌}
use Rattle.pw_event.proofs.Digits.{digit_is, no_digit_none}
use Rattle.pw_event.proofs.fields.digit_of.Goals as goal

pub returns-then-is_ascii_digit : goal.returns-then-is_ascii_digit
returns-then-is_ascii_digit c = rw c.from.ensures (digit_is c.args.byte (sym c.is_ascii_digit.ensures.value ∙ c.if-is_ascii_digit.true))

pub returns-else-is_ascii_digit : goal.returns-else-is_ascii_digit
returns-else-is_ascii_digit c = no_digit_none c.args.byte (sym c.is_ascii_digit.ensures.value ∙ c.if-is_ascii_digit.false)
