-- Names of pairs, terminals, classes and files.
use Rattle.std.specs.Prelude.{ℕ, List, [], ◌∷◌, length, Bool, false, ◌&&◌, ◌||◌, ◌==◌, nat_le, IsTrue, All}
use Rattle.std.specs.Char.{is_ascii_digit, is_ascii_uppercase}
use Rattle.std.specs.List.{list_all, IsDistinct}
use Rattle.std.specs.Str.{bytes_eq, str_to_ascii_uppercase}
use Rattle.pw_base.specs.Characters.{hyphen}

-- a letter, a digit or a hyphen, in upper case
abbrev pub is_name_byte : ℕ → Bool
is_name_byte b = is_ascii_uppercase b || (is_ascii_digit b || b == hyphen)

-- the first byte is a letter
abbrev pub begins_with_letter : List ℕ → Bool
begins_with_letter [] = false
begins_with_letter (b ∷ rest) = is_ascii_uppercase b

-- 1 to 30 letters, digits and hyphens, of which the first is a letter
abbrev pub is_name : List ℕ → Bool
is_name name = begins_with_letter name && (nat_le (length name) 30 && list_all is_name_byte name)

-- a name as it may stand in a line: 1 to 30 letters, digits and hyphens, of which the first is a letter, in either case
abbrev pub may_name : List ℕ → Bool
may_name word = is_name (str_to_ascii_uppercase word)

-- the text is a name
abbrev pub IsName : List ℕ → Type 0
IsName name = IsTrue (is_name name)

-- these are the names of one kind: each is one, and no two are the same
pub record AreNames (names : List (List ℕ)) : Type 0 where
  pub each : All IsName names
  pub distinct : IsDistinct bytes_eq names
