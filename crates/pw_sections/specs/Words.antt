-- The words of a line, and the names and numbers among them.
use Rattle.std.specs.Prelude.{ℕ, List, [], ◌∷◌, Bool, true, ◌&&◌, ◌==◌, nat_le, length, Option, None, Some, if◌then◌else◌}
use Rattle.std.specs.Char.{is_ascii_digit}
use Rattle.std.specs.List.{list_all}
use Rattle.std.specs.Str.{str_to_ascii_uppercase}
use Rattle.std.specs.Str.Parse.{digits_value}
use Rattle.pw_base.specs.Characters.{space}
use Rattle.pw_code.specs.Names.{may_name}
use Rattle.pw_sections.specs.Lines.{in_front}

-- no word goes on there: a space stands in front, or nothing does
abbrev pub ends_word : List ℕ → Bool
ends_word [] = true
ends_word (b ∷ rest) = b == space

-- the words of a line: the runs of bytes that its spaces leave
unfoldable pub words : List ℕ → List (List ℕ)
words [] = []
words (b ∷ rest) =
    if b == space then words rest
    else (if ends_word rest then (b ∷ []) ∷ words rest
    else in_front b (words rest))

-- the name that a word is, in upper case
abbrev pub name_in : List ℕ → Option (List ℕ)
name_in word = if may_name word then Some (str_to_ascii_uppercase word) else None

-- 1 to 9 digits
abbrev pub is_number : List ℕ → Bool
is_number word = nat_le 1 (length word) && (nat_le (length word) 9 && list_all is_ascii_digit word)

-- the number that a word is
abbrev pub word_number : List ℕ → Option ℕ
word_number word = if is_number word then Some (digits_value 10 word) else None
