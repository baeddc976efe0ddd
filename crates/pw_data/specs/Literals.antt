-- What literals and whole numbers say.
pub use Rattle.pw_text.specs.Literals.{kept, is_first_quote, unquoted}
use Rattle.std.specs.Prelude.{ℕ, ◌+◌, ◌-◌, min, nat_le, List, ◌++◌, Bool, false, not, ◌&&◌, ◌||◌, ◌==◌, length, drop, take_while, Option, Some, None, option_map, if◌then◌else◌}
use Rattle.std.specs.List.{list_all}
use Rattle.std.specs.Char.{is_ascii_digit}
use Rattle.std.specs.Ordering.{is_eq}
use Rattle.pw_base.specs.Characters.{full_stop, hyphen, plus_sign}
use Rattle.pw_number.specs.Number.{Number}
use Rattle.pw_number.specs.Order.{order}
use Rattle.pw_picture.specs.declared.picture.Picture.{Picture}
use Rattle.pw_picture.specs.declared.picture.Picture.TheVariants as picture
use Rattle.pw_picture.specs.Symbols.{value_behind, begins_with}
use Rattle.pw_picture.specs.Stored.{read_of, moved, is_kept}
use Rattle.pw_text.specs.declared.token.TokenKind.{TokenKind}
use Rattle.pw_text.specs.declared.token.TokenKind.TheVariants as kind
use Rattle.pw_text.specs.declared.token.Token.{Token}
use Rattle.pw_data.specs.declared.literal.Literal.{Literal}
use Rattle.pw_data.specs.declared.literal.Literal.TheVariants as literal
use Rattle.pw_text.specs.Cursor.{spelling}

-- the value of digits without a sign or a point; every value above 1,000 is as 1,001
abbrev pub whole_number : List ℕ → Option ℕ
whole_number bytes =
    if nat_le 1 (length bytes) && list_all is_ascii_digit bytes then Some (min (value_behind 0 bytes) 1001) else None

-- the bytes in front of a point
abbrev pub before_point : List ℕ → List ℕ
before_point bytes = take_while (λ byte. not (byte == full_stop)) bytes

-- the bytes behind a point
abbrev pub behind_point : List ℕ → List ℕ
behind_point bytes = drop 1 (drop (length (before_point bytes)) bytes)

-- a sign stands in front
abbrev pub has_sign : List ℕ → Bool
has_sign bytes = begins_with plus_sign bytes || begins_with hyphen bytes

-- the size of a sign
abbrev pub sign_size : Bool → ℕ
sign_size signed = if signed then 1 else 0

-- the number that an item holds which has these characters before its decimals and these decimals, with 1 to 18 digits
abbrev pub number_with : Bool → List ℕ → List ℕ → Option Number
number_with signed front places =
    let digits = length front + length places - sign_size signed in
    if nat_le 1 digits && nat_le digits 18
    then Some (read_of (picture.Number digits (length places) signed) (front ++ places))
    else None

-- the number that a literal is
abbrev pub number_of_literal : List ℕ → Option Number
number_of_literal bytes = number_with (has_sign bytes) (before_point bytes) (behind_point bytes)

-- the literal of these bytes
abbrev pub literal_by : TokenKind → List ℕ → Option Literal
literal_by kind.Text bytes = Some (literal.Text (unquoted false bytes))
literal_by kind.Number bytes = option_map literal.Number (number_of_literal bytes)
literal_by _ bytes = None

-- the literal that a token is
abbrev pub literal_of : List ℕ → Token → Option Literal
literal_of text token = literal_by token.kind (spelling text token)

-- the number is kept, and is still the same when it is read
abbrev pub holds_number : Picture → Number → Bool
holds_number p n = is_kept p n && is_eq (order (read_of p (moved p n)) n)

-- an item of the picture holds the literal unchanged, up to padding
abbrev pub picture_holds : Picture → Literal → Bool
picture_holds (picture.Text size) (literal.Text chars) = nat_le (length chars) size
picture_holds (picture.Text size) (literal.Number n) = false
picture_holds (picture.Number digits places signed) (literal.Text chars) = false
picture_holds (picture.Number digits places signed) (literal.Number n) = holds_number (picture.Number digits places signed) n
picture_holds (picture.Edited symbols) value = false
