-- The limits, each a number. What is above one is refused as docs/reference/DECK.md says.
use Rattle.std.specs.Prelude.{ℕ}

-- the most bytes of an input
abbrev pub longest_input : ℕ
longest_input = 16777216

-- the most characters of storage of a program
abbrev pub most_storage : ℕ
most_storage = 32000

-- the most bytes of a record of a file
abbrev pub most_content : ℕ
most_content = 4000

-- the most characters of a word
abbrev pub longest_word : ℕ
longest_word = 30

-- the most digits of a number
abbrev pub most_digits : ℕ
most_digits = 18

-- the most occurrences of an item
abbrev pub most_occurrences : ℕ
most_occurrences = 1000
