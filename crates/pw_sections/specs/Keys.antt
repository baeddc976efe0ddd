-- Keys that were seen.
use Rattle.std.specs.Prelude.{ℕ, List, [], ◌∷◌, ◌++◌, Bool, if◌then◌else◌}
use Rattle.std.specs.List.{list_any}
use Rattle.std.specs.Str.{bytes_eq}

-- the key was seen
abbrev pub is_seen : List (List ℕ) → List ℕ → Bool
is_seen keys key = list_any (λ known. bytes_eq key known) keys

-- the keys with one more, if it is new
abbrev pub with_key : List (List ℕ) → List ℕ → List (List ℕ)
with_key keys key = if is_seen keys key then keys else keys ++ key ∷ []
