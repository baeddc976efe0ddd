-- An entry line.
use Rattle.std.specs.Prelude.{ℕ, ◌≤◌, List, length}
use Rattle.pw_code.specs.Limits.{most_pairs}

-- a key, and the names of fields with their values
pub record EntryLineModel : Type 0 where
  pub key : ℕ
  pub fields : List (List ℕ × List ℕ)

-- there are not too many pairs
abbrev pub IsEntry : EntryLineModel → Type 0
IsEntry entry = length entry.fields ≤ most_pairs
