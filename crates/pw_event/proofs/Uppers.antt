-- Names in either case.
use Rattle.std.proofs.Common.{◌≡◌, ℕ, ◌<◌, true, List, [], ◌∷◌, length, refl, ap, ◌∙◌, inl, inr, arith}
use Rattle.std.specs.Prelude.{◌&&◌, ◌||◌, ◌==◌, nat_le}
use Rattle.std.specs.Char.{to_ascii_uppercase, is_ascii_uppercase, is_ascii_digit}
use Rattle.std.specs.List.{list_all}
use Rattle.std.specs.Str.{str_to_ascii_uppercase}
use Rattle.std.proofs.lemmas.Bool.{leb-true, lt-ltb, eqb-true, and_parts, or_cases}
use Rattle.pw_code.specs.Names.{is_name_byte, begins_with_letter, is_name, IsName, may_name}

-- a byte of a name is no small letter
no_small : (b : ℕ) → is_name_byte b ≡ true → b < 97
no_small b is = elim (or_cases (is_ascii_uppercase b) (is_ascii_digit b || b == 45) is) [
  | inl letter ↦ let range = and_parts (nat_le 65 b) (nat_le b 90) letter in omega (arith, leb-true b 90 range.1)
  | inr other ↦ elim (or_cases (is_ascii_digit b) (b == 45) other) [
    | inl digit ↦ let range = and_parts (nat_le 48 b) (nat_le b 57) digit in omega (arith, leb-true b 57 range.1)
    | inr hyphen ↦ omega (arith, eqb-true b 45 hyphen)
  ]
]

-- a byte of a name is as its upper case
upper_byte : (b : ℕ) → is_name_byte b ≡ true → to_ascii_uppercase b ≡ b
upper_byte b is = rw (lt-ltb b 97 (no_small b is)) refl

upper_bytes : (word : List ℕ) → list_all is_name_byte word ≡ true → str_to_ascii_uppercase word ≡ word
upper_bytes [] is = refl
upper_bytes (b ∷ bs) is =
    let both = and_parts (is_name_byte b) (list_all is_name_byte bs) is in
    ap (λ c. c ∷ str_to_ascii_uppercase bs) (upper_byte b both.0) ∙ ap (λ rest. b ∷ rest) (upper_bytes bs both.1)

-- a name of a system is in upper case
pub upper_name : (word : List ℕ) → IsName word → str_to_ascii_uppercase word ≡ word
upper_name word is = upper_bytes word (and_parts (nat_le (length word) 30) (list_all is_name_byte word) (and_parts (begins_with_letter word) (nat_le (length word) 30 && list_all is_name_byte word) is).1).1

-- a name of a system may stand in a line
pub may_name-name : (word : List ℕ) → IsName word → may_name word ≡ true
may_name-name word is = ap is_name (upper_name word is) ∙ is
