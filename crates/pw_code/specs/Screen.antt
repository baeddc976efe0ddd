-- The screen of a terminal.
use Rattle.std.specs.Prelude.{◌≡◌, List, ℕ, length}

-- cells of 24 rows of 80
abbrev pub IsWhole : List ℕ → Type 0
IsWhole cells = length cells ≡ 1920
