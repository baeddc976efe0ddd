-- The bytes of a text, and those that may not stand in its lines.
use Rattle.std.specs.Prelude.{ℕ, ◌+◌, List, [], ◌∷◌, ◌++◌, Bool, false, not, ◌&&◌, ◌||◌, nat_lt, nat_le, ◌==◌, length, take_while, if◌then◌else◌}
use Rattle.pw_base.specs.Characters.{capital_a, capital_z, carriage_return, comma, digit_nine, digit_zero, hyphen, line_feed, plus_sign, semicolon, small_a, small_z, space, tilde, vertical_line}
use Rattle.pw_base.specs.declared.fault.Fault.{Fault}
use Rattle.pw_base.specs.declared.fault_code.FaultCode.TheVariants.{BadCharacter}

-- A to Z or a to z
abbrev pub is_letter : ℕ → Bool
is_letter b = (nat_le capital_a b && nat_le b capital_z) || (nat_le small_a b && nat_le b small_z)

-- 0 to 9
abbrev pub is_digit : ℕ → Bool
is_digit b = nat_le digit_zero b && nat_le b digit_nine

-- + or -
abbrev pub is_sign : ℕ → Bool
is_sign b = b == plus_sign || b == hyphen

-- a letter, a digit or a hyphen
abbrev pub is_word_byte : ℕ → Bool
is_word_byte b = is_letter b || (is_digit b || b == hyphen)

-- a space, and a comma, a semicolon or | that separates as a space does
abbrev pub is_separator : ℕ → Bool
is_separator b = b == space || (b == comma || (b == semicolon || b == vertical_line))

-- what a picture has: every byte but a space, on its line
abbrev pub is_picture_byte : ℕ → Bool
is_picture_byte b = not (b == space || (b == carriage_return || b == line_feed))

-- every byte but LF
abbrev pub is_line_byte : ℕ → Bool
is_line_byte b = not (b == line_feed)

-- how many bytes in front pass the test
abbrev pub run : (ℕ → Bool) → List ℕ → ℕ
run test bytes = length (take_while test bytes)

-- the byte in front passes the test
abbrev pub begins_with : (ℕ → Bool) → List ℕ → Bool
begins_with test [] = false
begins_with test (b ∷ bs) = test b

-- a sign counts where a digit follows it directly
abbrev pub is_signed : ℕ → List ℕ → Bool
is_signed b behind = is_sign b && begins_with is_digit behind

-- LF stands in front, or CR and LF
abbrev pub at_line_end : List ℕ → Bool
at_line_end [] = false
at_line_end (b ∷ bs) = b == line_feed || (b == carriage_return && begins_with (λ c. c == line_feed) bs)

-- the byte in front may not stand in a line: it is outside 0x20 to 0x7E
abbrev pub is_bad : List ℕ → Bool
is_bad [] = false
is_bad (b ∷ bs) = not (at_line_end (b ∷ bs)) && (nat_lt b space || nat_lt tilde b)

-- the line of the byte behind this one
abbrev pub line_behind : ℕ → ℕ → ℕ
line_behind b line = if b == line_feed then line + 1 else line

-- the fault, where it is one
abbrev pub text_fault_if : Bool → Fault → List Fault
text_fault_if is_fault fault = if is_fault then fault ∷ [] else []

-- BadCharacter for each byte that may not stand in its line, from a line on
unfoldable pub bad_bytes : ℕ → List ℕ → List Fault
bad_bytes line [] = []
bad_bytes line (b ∷ bs) = text_fault_if (is_bad (b ∷ bs)) (record { line = line; code = BadCharacter }) ++ bad_bytes (line_behind b line) bs
