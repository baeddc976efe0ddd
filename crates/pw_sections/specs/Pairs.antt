-- The pairs of an entry line with their names.
use Rattle.std.specs.Prelude.{◌≡◌, ℕ, ◌≤◌, List, map, length}
use Rattle.pw_code.specs.Limits.{most_pairs}
use Rattle.pw_sections.specs.Entries.{NameValue}

-- the names of pairs
abbrev pub names_of : List NameValue → List (List ℕ)
names_of pairs = map (λ pair. pair.0) pairs

-- these are the names of the pairs, of which there are not too many
pub record AreNamesOfPairs (pairs : List NameValue) (names : List (List ℕ)) : Type 0 where
  pub named : names ≡ names_of pairs
  pub few : length pairs ≤ most_pairs
