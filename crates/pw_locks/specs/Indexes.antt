-- Numbers under keys.
use Rattle.std.specs.Prelude.{ℕ, nat_eq, List, Bool, false, Option, Some, None}
use Rattle.std.specs.BTreeMap.{BTreeMap, get}
use Rattle.std.specs.List.{list_any}
use Rattle.std.specs.declared.cmp.Ordering.{Ordering}
use Rattle.std.specs.Global.{Vec}

-- the number is among these
abbrev pub has : List ℕ → ℕ → Bool
has numbers n = list_any (nat_eq n) numbers

-- the same of those that a look-up found
abbrev pub found_has : Option (Vec ℕ) → ℕ → Bool
found_has None n = false
found_has (Some numbers) n = has numbers.items n

-- the number is filed under the key
abbrev pub is_filed : {K : Type 0} → (K → K → Ordering) → BTreeMap K (Vec ℕ) → K → ℕ → Bool
is_filed cmp index key n = found_has (get cmp index key) n
