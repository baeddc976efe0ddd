-- What a number shows in an edited picture, position by position.
use Rattle.std.specs.Prelude.{ℕ, ◌+◌, ◌/◌, ◌%◌, ◌^◌, Bool, true, false, not, ◌&&◌, ◌||◌, ◌==◌, List, [], ◌∷◌, length, drop, take_while, if◌then◌else◌}
use Rattle.pw_base.specs.Characters.{capital_z, comma, digit_nine, digit_zero, full_stop, hyphen, space}
use Rattle.pw_number.specs.Number.{Number}
use Rattle.pw_picture.specs.Grammar.{digit_symbols}
use Rattle.pw_picture.specs.Stored.{size_at, is_negative}
use Rattle.pw_picture.specs.declared.picture.Picture.{Picture}
use Rattle.pw_picture.specs.declared.picture.Picture.TheVariants as picture

-- the picture is an Edited
abbrev pub is_edited_picture : Picture → Bool
is_edited_picture (picture.Text size) = false
is_edited_picture (picture.Number digits places sign) = false
is_edited_picture (picture.Edited symbols) = true

-- how many decimals a picture shows: the digits from its point on
abbrev pub shown_decimals : List ℕ → ℕ
shown_decimals symbols = digit_symbols (drop (length (take_while (λ symbol. not (symbol == full_stop)) symbols)) symbols)

-- the digit of this weight
abbrev pub digit_at : ℕ → ℕ → ℕ
digit_at size weight = digit_zero + size / 10 ^ weight % 10

-- the digits down to this weight are zero
abbrev pub is_blank : ℕ → ℕ → Bool
is_blank size weight = size / 10 ^ weight == 0

-- what a symbol shows that has so many digits behind it: a 9 its digit; a Z its digit, or a space where no digit but
-- zero stands so far; a comma itself, or a space where no digit is shown yet; a `-` itself where the number is negative
abbrev pub shown : Bool → Bool → ℕ → ℕ → ℕ → ℕ
shown nine negative size weight symbol =
    if symbol == digit_nine then digit_at size weight
    else if symbol == capital_z then (if is_blank size weight then space else digit_at size weight)
    else if symbol == comma then (if not nine && is_blank size weight then space else comma)
    else if symbol == hyphen then (if negative then hyphen else space)
    else symbol

-- what the symbols show, of which a 9 may stand in front
abbrev pub shown_from : Bool → Bool → ℕ → List ℕ → List ℕ
shown_from nine negative size [] = []
shown_from nine negative size (symbol ∷ symbols) = shown nine negative size (digit_symbols symbols) symbol ∷ shown_from (nine || symbol == digit_nine) negative size symbols

-- the digits that a number shows
abbrev pub shown_size : List ℕ → Number → ℕ
shown_size symbols n = size_at (shown_decimals symbols) n % 10 ^ digit_symbols symbols

-- the characters of a number in an edited picture; the shown number is negative where it is not zero
abbrev pub edited : Picture → Number → List ℕ
edited (picture.Text size) n = []
edited (picture.Number digits places sign) n = []
edited (picture.Edited symbols) n = shown_from false (is_negative n && not (shown_size symbols n == 0)) (shown_size symbols n) symbols
