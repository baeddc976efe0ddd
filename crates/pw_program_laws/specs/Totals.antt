-- Sums over the records of a file.
use Rattle.std.specs.Prelude.{ℕ, ◌+◌, List, [], ◌∷◌, Option, Some, None}

-- the sum of what is counted of each record
abbrev pub total_of : (List ℕ → ℕ) → List (List ℕ) → ℕ
total_of count [] = 0
total_of count (content ∷ rest) = count content + total_of count rest

-- what is counted of a record, where there is one
abbrev pub counted_of : (List ℕ → ℕ) → Option (List ℕ) → ℕ
counted_of count None = 0
counted_of count (Some content) = count content
