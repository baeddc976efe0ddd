-- Numbers as they are written.
use Rattle.std.specs.Prelude.{ℕ, ◌+◌, ◌==◌, not, List, length, drop, take_while, filter}
use Rattle.std.specs.Char.{is_ascii_digit}
use Rattle.pw_base.specs.Characters.{full_stop, hyphen}
use Rattle.pw_number.specs.Number.{Number, number}
use Rattle.pw_number.specs.Sign.{signed}
use Rattle.pw_picture.specs.Stored.{value_of}
use Rattle.pw_picture.specs.Symbols.{begins_with}

-- the digits behind the point
abbrev pub decimals_in : List ℕ → List ℕ
decimals_in spelling = drop (length (take_while (λ char. not (char == full_stop)) spelling) + 1) spelling

-- the number that a literal or an entry is: an optional sign, and digits with an optional point
abbrev pub number_in : List ℕ → Number
number_in spelling =
    number (signed (begins_with hyphen spelling) (value_of 0 (filter is_ascii_digit spelling)))
    (length (decimals_in spelling))
