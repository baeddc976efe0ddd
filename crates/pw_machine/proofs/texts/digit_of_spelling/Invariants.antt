-- The digits that are left, from the place that is left on, are those from the place on.
use Rattle.std.proofs.Common.{◌≡◌, drop, filter, get_or}
use Rattle.std.specs.Char.{is_ascii_digit}
use Rattle.pw_machine.proofs.texts.digit_of_spelling.Given as goal

abbrev pub invariant-loop-byte : goal.invariant-loop-byte
invariant-loop-byte l = get_or (filter is_ascii_digit (drop l.byte-index l.spelling)) l.left 32 ≡ get_or (filter is_ascii_digit l.spelling) l.place 32
