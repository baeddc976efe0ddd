-- Words, and which of them are the same.
use Rattle.std.specs.Prelude.{ℕ, List, [], ◌∷◌, Bool, true, not, ◌&&◌, Option, position}
use Rattle.std.specs.List.{list_all}
use Rattle.std.specs.Str.{str_eq_ignore_ascii_case}

-- the bytes of a word
abbrev pub Word : Type 0
Word = List ℕ

-- the two are one word, where the case of a letter does not count
abbrev pub same_word : Word → Word → Bool
same_word = str_eq_ignore_ascii_case

-- no two of the words are the same
abbrev pub all_apart : List Word → Bool
all_apart [] = true
all_apart (word ∷ words) = list_all (λ other. not (same_word word other)) words && all_apart words

-- the place of a word in a list, counted from 0
abbrev pub word_place : List Word → Word → Option ℕ
word_place words word = position (λ row. same_word row word) words
