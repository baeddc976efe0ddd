-- What a screen shows, and how it is printed.
use Rattle.std.specs.Prelude.{ℕ, zero, suc, ◌+◌, ◌/◌, ◌%◌, List, [], ◌∷◌, ◌++◌, take, drop, replicate, ◌==◌, if◌then◌else◌}
use Rattle.pw_base.specs.Characters.{digit_zero, line_feed, space, vertical_line}
use Rattle.pw_picture.specs.Text.{fitted}

-- a screen of spaces
abbrev pub blank_cells : List ℕ
blank_cells = replicate 1920 space

-- the screen with a text on row 24, and its other rows as they were
abbrev pub with_message : List ℕ → List ℕ → List ℕ
with_message text cells = take 1840 cells ++ fitted 80 text

-- a cell before the trimmed rest of its row
abbrev pub before_rest : ℕ → List ℕ → List ℕ
before_rest cell [] = if cell == space then [] else cell ∷ []
before_rest cell (next ∷ rest) = cell ∷ next ∷ rest

-- a row without the spaces at its end
unfoldable pub trimmed : List ℕ → List ℕ
trimmed [] = []
trimmed (cell ∷ cells) = before_rest cell (trimmed cells)

-- a row's number as two digits
abbrev pub two_digits : ℕ → List ℕ
two_digits number = (digit_zero + number / 10) ∷ (digit_zero + number % 10) ∷ []

-- the line of a trimmed row: its number, `|` and the row, or nothing where the row is blank
abbrev pub row_line : ℕ → List ℕ → List ℕ
row_line number [] = []
row_line number (cell ∷ cells) = two_digits number ++ vertical_line ∷ (cell ∷ cells ++ line_feed ∷ [])

-- the lines of so many rows of 80 cells, which are numbered from `number`
unfoldable pub row_lines : ℕ → ℕ → List ℕ → List ℕ
row_lines zero number cells = []
row_lines (suc rows) number cells = row_line number (trimmed (take 80 cells)) ++ row_lines rows (number + 1) (drop 80 cells)

-- the lines of a screen's rows that are not blank
abbrev pub refresh_lines : List ℕ → List ℕ
refresh_lines cells = row_lines 24 1 cells
