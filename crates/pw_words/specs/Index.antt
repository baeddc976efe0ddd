-- Indexes of rows by the letters with which they begin.
use Rattle.std.specs.Prelude.{ℕ, ◌+◌, ◌-◌, ◌==◌, List, [], ◌∷◌, Bool, true, false, ◌&&◌, Option, Some, None, unwrap_or, slice_get, bytes_eq, find, if◌then◌else◌}
use Rattle.std.specs.Char.{is_ascii_lowercase}
use Rattle.std.specs.Str.{str_to_ascii_lowercase}
use Rattle.pw_words.specs.Words.{Word}

-- the number of a letter in lower case, from 1 on, and 0 for every other byte
abbrev pub letter_number : ℕ → ℕ
letter_number byte = if is_ascii_lowercase byte then byte - 96 else 0

-- the number of the letter with which a word in lower case begins
abbrev pub first_letter : Word → ℕ
first_letter [] = 0
first_letter (byte ∷ bytes) = letter_number byte

-- the places that an index has for a word in lower case
abbrev pub word_index_places : List (List ℕ) → Word → List ℕ
word_index_places index folded = unwrap_or (slice_get index (first_letter folded)) []

-- there is a row, and in lower case it is this word
abbrev pub is_row : Option Word → Word → Bool
is_row None folded = false
is_row (Some row) folded = bytes_eq (str_to_ascii_lowercase row) folded

-- the first place of the index for a word in lower case at which the word stands
abbrev pub place_by : List (List ℕ) → List Word → Word → Option ℕ
place_by index rows folded = find (λ place. is_row (slice_get rows place) folded) (word_index_places index folded)

-- the place is this one
abbrev pub is_place : Option ℕ → ℕ → Bool
is_place None place = false
is_place (Some found) place = found == place

-- by the index each of some rows, which stand from a place on, is found at its place
abbrev pub finds_from : List (List ℕ) → List Word → ℕ → List Word → Bool
finds_from index rows place [] = true
finds_from index rows place (row ∷ behind) =
    is_place (place_by index rows (str_to_ascii_lowercase row)) place
    && finds_from index rows (place + 1) behind

-- by the index each row is found at its place
abbrev pub finds_all : List (List ℕ) → List Word → Bool
finds_all index rows = finds_from index rows 0 rows
