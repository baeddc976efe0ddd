use Rattle.std.proofs.Common.{filter, ◌∙◌, arith}
use Rattle.std.specs.Char.{is_ascii_digit}
use Rattle.pw_picture.specs.Stored.{value_of}
use Rattle.pw_machine.proofs.KeyedLemmas.{cut_digit, raised_digit}
use Rattle.pw_machine.proofs.keyed.digit_with.Goals as goal

pub returns-then-behind-places : goal.returns-then-behind-places
returns-then-behind-places c =
    c.digit_at.ensures ∙ cut_digit (value_of 0 (filter is_ascii_digit c.args.value.now)) c.args.places c.args.decimals c.args.weight (omega (arith, c.if-behind-places.true))

pub returns-else-behind-places : goal.returns-else-behind-places
returns-else-behind-places c =
    raised_digit (value_of 0 (filter is_ascii_digit c.args.value.now)) c.args.places c.args.decimals c.args.weight (omega (arith, c.if-behind-places.false))
