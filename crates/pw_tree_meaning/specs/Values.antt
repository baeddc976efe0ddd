-- What operands say, as texts and as numbers.
pub use Rattle.pw_code.specs.Spelling.{number_in}
use Rattle.std.specs.Prelude.{ℕ, ◌-◌, ◌/◌, ◌^◌, Bool, true, false, pos, List, length, drop, filter, replicate, codes, unsigned_abs, Option, Some, if◌then◌else◌}
use Rattle.std.specs.Char.{is_ascii_digit}
use Rattle.pw_base.specs.Characters.{digit_zero, space}
use Rattle.pw_number.specs.Number.{Number, number}
use Rattle.pw_picture.specs.declared.picture.Picture.{Picture}
use Rattle.pw_picture.specs.declared.picture.Picture.TheVariants as picture
use Rattle.pw_picture.specs.Stored.{value_of, read_of, digits_of, is_negative}
use Rattle.pw_picture.specs.Text.{fitted}

-- An operand as it is read: the characters of an item, with its picture, of which a group has none;
-- a register with its digits and its value; a number as it is written; the characters of a text;
-- SPACES or ZEROS.
pub data Value : Type 0 where
  Chars : (picture : Option Picture) (chars : List ℕ) → Value
  Register : (digits value : ℕ) → Value
  Number' : (spelling : List ℕ) → Value
  Text' : (chars : List ℕ) → Value
  Spaces' : Value
  Zeros' : Value

-- ---- characters

-- the characters of an operand as it is stored or written: a number with its sign, and SPACES and
-- ZEROS one character. They are what is displayed, and what is a key, a message, a record, a reply
-- and an argument.
abbrev pub as_it_stands : Value → List ℕ
as_it_stands (Chars picture chars) = chars
as_it_stands (Register digits value) = digits_of digits value
as_it_stands (Number' spelling) = spelling
as_it_stands (Text' chars) = chars
as_it_stands Spaces' = codes " "
as_it_stands Zeros' = codes "0"

-- an item's characters without the sign of a signed number
abbrev pub without_sign : Option Picture → List ℕ → List ℕ
without_sign (Some (picture.Number digits places true)) chars = drop 1 chars
without_sign _ chars = chars

-- the characters of an operand as MOVE to a text takes them: a number without its sign, a number
-- literal its digits
abbrev pub operand_text : Value → List ℕ
operand_text (Chars picture chars) = without_sign picture chars
operand_text (Number' spelling) = filter is_ascii_digit spelling
operand_text other = as_it_stands other

-- the same in so many characters: SPACES and ZEROS fill, a text is cut at its end or has spaces
-- behind it
abbrev pub text_in : ℕ → Value → List ℕ
text_in size Spaces' = replicate size space
text_in size Zeros' = replicate size digit_zero
text_in size other = fitted size (operand_text other)

-- ---- numbers

-- the whole part of a number's value, and 0 for one below zero
abbrev pub whole_part : Number → ℕ
whole_part n = if is_negative n then 0 else unsigned_abs n.units / 10 ^ n.places

-- the operand is a number: a Number item, a register or a number literal
abbrev pub is_number_picture : Option Picture → Bool
is_number_picture (Some (picture.Number digits places sign)) = true
is_number_picture _ = false

-- an operand is a number
abbrev pub is_number_operand : Value → Bool
is_number_operand (Chars picture chars) = is_number_picture picture
is_number_operand (Register digits value) = true
is_number_operand (Number' spelling) = true
is_number_operand _ = false

-- a text as an unsigned whole number: its last 18 characters, where one that is no digit is as 0
abbrev pub number_of_text : List ℕ → Number
number_of_text chars = number (pos (value_of 0 (drop (length chars - 18) chars))) 0

-- an item's characters as a number: those of a Number are one, and those of a text are taken as one
abbrev pub number_of_item : Option Picture → List ℕ → Number
number_of_item (Some (picture.Number digits places sign)) chars =
    read_of (picture.Number digits places sign) chars
number_of_item _ chars = number_of_text chars

-- the number of an operand: its value, and of SPACES and ZEROS zero
abbrev pub number_of : Value → Number
number_of (Chars picture chars) = number_of_item picture chars
number_of (Register digits value) = number (pos value) 0
number_of (Number' spelling) = number_in spelling
number_of (Text' chars) = number_of_text chars
number_of Spaces' = number (pos 0) 0
number_of Zeros' = number (pos 0) 0
