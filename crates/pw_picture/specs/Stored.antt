-- Numbers as the characters of an item.
use Rattle.std.specs.Prelude.{ℕ, zero, suc, ◌+◌, ◌-◌, ◌*◌, ◌/◌, ◌%◌, ◌^◌, nat_lt, Bool, true, false, not, ◌&&◌, ◌||◌, ◌==◌, List, [], ◌∷◌, drop, int_lt, pos, unsigned_abs, if◌then◌else◌}
use Rattle.std.specs.Char.{is_ascii_digit}
use Rattle.pw_base.specs.Characters.{digit_zero, hyphen, plus_sign}
use Rattle.pw_number.specs.Number.{Number, number}
use Rattle.pw_number.specs.Sign.{signed}
use Rattle.pw_picture.specs.Symbols.{begins_with}
use Rattle.pw_picture.specs.declared.picture.Picture.{Picture}
use Rattle.pw_picture.specs.declared.picture.Picture.TheVariants as picture

-- the picture is a Number
abbrev pub is_numeric_picture : Picture → Bool
is_numeric_picture (picture.Text size) = false
is_numeric_picture (picture.Number digits places sign) = true
is_numeric_picture (picture.Edited symbols) = false

-- a character as a digit: one that is none counts as 0
abbrev pub digit_of : ℕ → ℕ
digit_of char = if is_ascii_digit char then char - digit_zero else 0

-- the value of characters behind those of a value
abbrev pub value_of : ℕ → List ℕ → ℕ
value_of value [] = value
value_of value (char ∷ chars) = value_of (10 * value + digit_of char) chars

-- the number of so many places that characters are
abbrev pub number_of_chars : ℕ → Bool → List ℕ → Number
number_of_chars places true chars = number (signed (begins_with hyphen chars) (value_of 0 (drop 1 chars))) places
number_of_chars places false chars = number (pos (value_of 0 chars)) places

-- the number that the characters of an item are
abbrev pub read_of : Picture → List ℕ → Number
read_of (picture.Text size) chars = number (pos 0) 0
read_of (picture.Number digits places sign) chars = number_of_chars places sign chars
read_of (picture.Edited symbols) chars = number (pos 0) 0

-- a number's digits at these places, without a point: more decimals are cut
abbrev pub size_at : ℕ → Number → ℕ
size_at places n = unsigned_abs n.units * 10 ^ places / 10 ^ n.places

-- so many digits of a value, that of the highest weight first
abbrev pub digits_of : ℕ → ℕ → List ℕ
digits_of zero size = []
digits_of (suc count) size = (digit_zero + size / 10 ^ count % 10) ∷ digits_of count size

-- the sign of a number that shows these digits: a `-` only where they are not zero
abbrev pub sign_of : Bool → ℕ → ℕ
sign_of negative size = if negative && not (size == 0) then hyphen else plus_sign

-- the characters of digits, with a sign in front where there is one
abbrev pub chars_of : ℕ → Bool → Bool → ℕ → List ℕ
chars_of digits true negative size = sign_of negative size ∷ digits_of digits size
chars_of digits false negative size = digits_of digits size

-- the number is below zero
abbrev pub is_negative : Number → Bool
is_negative n = int_lt n.units (pos 0)

-- the characters of an item that a number is moved to: high digits are dropped
abbrev pub moved : Picture → Number → List ℕ
moved (picture.Text size) n = []
moved (picture.Number digits places sign) n = chars_of digits sign (is_negative n) (size_at places n % 10 ^ digits)
moved (picture.Edited symbols) n = []

-- no integer digit of the number is lost, and a number below zero meets a sign
abbrev pub is_kept : Picture → Number → Bool
is_kept (picture.Text size) n = false
is_kept (picture.Number digits places sign) n = nat_lt (size_at places n) (10 ^ digits) && (sign || not (is_negative n))
is_kept (picture.Edited symbols) n = false

-- the characters of an item after a number was stored, or refused: those that it had
abbrev pub stored : Picture → Number → List ℕ → List ℕ
stored p n chars = if is_kept p n then moved p n else chars
