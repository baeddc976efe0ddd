-- The numbers of a schedule's lines.
use Rattle.std.specs.Prelude.{ℕ, ◌==◌, List, [], ◌∷◌, Bool, false, ◌&&◌, not, nat_le, length, Option, Some, None, if◌then◌else◌}
use Rattle.std.specs.Char.{is_ascii_digit}
use Rattle.std.specs.List.{list_all}
use Rattle.std.specs.Str.Parse.{digits_value}
use Rattle.pw_base.specs.Characters.{digit_zero}

-- 1 to 10 digits, of which the first is no zero
abbrev pub is_count : List ℕ → Bool
is_count [] = false
is_count (b ∷ bs) =
    not (b == digit_zero) && (nat_le (length (b ∷ bs)) 10 && list_all is_ascii_digit (b ∷ bs))

-- the number from 1 to 4,294,967,295 that a word is
unfoldable pub count_in : List ℕ → Option ℕ
count_in word =
    if is_count word && nat_le (digits_value 10 word) 4294967295
    then Some (digits_value 10 word) else None

-- a number in front of others, where both are there
abbrev pub with_count : Option ℕ → Option (List ℕ) → Option (List ℕ)
with_count None counts = None
with_count (Some count) None = None
with_count (Some count) (Some counts) = Some (count ∷ counts)

-- the numbers that words are, where each is one
unfoldable pub counts_in : List (List ℕ) → Option (List ℕ)
counts_in [] = Some []
counts_in (word ∷ words) = with_count (count_in word) (counts_in words)
