-- Things by their names: an index says which is the first of each name.
use Rattle.std.specs.Prelude.{◌≡◌, ℕ, Vec, List, Option, bytes_eq}
use Rattle.std.specs.List.{position_from}
use Rattle.std.specs.Ordering.{nat_cmp}
use Rattle.std.specs.Cmp.Lexicographic.{slice_cmp}
use Rattle.std.specs.BTreeMap.{BTreeMap, get_by}

-- what a map from names has for a name
abbrev pub indexed_number : {A : Type 0} → BTreeMap (Vec ℕ A) ℕ → List ℕ → Option ℕ
indexed_number index name = get_by (λ key. slice_cmp nat_cmp name key.items) index

-- the map has the number of the first thing of each name, from 0, and no other
abbrev pub IsIndexOf : {A T : Type 0} → BTreeMap (Vec ℕ A) ℕ → (T → List ℕ) → List T → Type 0
IsIndexOf index name_of things =
    (name : List ℕ) → indexed_number index name ≡ position_from (λ thing. bytes_eq (name_of thing) name) 0 things
