-- Those before this character were digits.
use Rattle.std.proofs.Common.{◌≡◌, take}
use Rattle.std.specs.Char.{is_ascii_digit}
use Rattle.std.specs.List.{list_all}
use Rattle.pw_machine.proofs.conditions.are_digits.Given as goal

abbrev pub invariant-loop-char : goal.invariant-loop-char
invariant-loop-char l = l.all ≡ list_all is_ascii_digit (take l.char-index l.chars)
