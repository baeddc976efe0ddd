-- Items by their names: an index says which is the first of each name.
use Rattle.std.specs.Prelude.{◌≡◌, ℕ, Vec, bytes_eq, List, Option, None, Some, if◌then◌else◌}
use Rattle.std.specs.List.{position_from}
use Rattle.std.specs.Option.{option_or}
use Rattle.std.specs.Str.{str_to_ascii_lowercase}
use Rattle.indexmap.specs.IndexMap.{IndexMap, get_by}
use Rattle.pw_words.specs.Words.{Word}
use Rattle.pw_data.specs.declared.item.Item.{Item}
use Rattle.pw_data.specs.Names.{is_this_name}

-- what a map from names in lower case has for a name
abbrev pub indexed_item_number : {A S : Type 0} → IndexMap (Vec ℕ A) ℕ S → Word → Option ℕ
indexed_item_number index name = get_by (λ key. bytes_eq (str_to_ascii_lowercase name) key.items) index

-- the number of the first item of a name, where the items are numbered from one on
abbrev pub first_item_number : ℕ → List Item → Word → Option ℕ
first_item_number first items name = position_from (λ item. is_this_name item.name name) first items

-- the map has the number of the first item of each name, and no other
abbrev pub IsItemIndexOf : {A S : Type 0} → IndexMap (Vec ℕ A) ℕ S → List Item → Type 0
IsItemIndexOf index items = (name : Word) → indexed_item_number index name ≡ first_item_number 0 items name

-- the second map has a number besides for the name, if any, unless the first has one
abbrev pub Indexes : {A S : Type 0} → Option Word → ℕ → IndexMap (Vec ℕ A) ℕ S → IndexMap (Vec ℕ A) ℕ S → Type 0
Indexes name number before now =
    (word : Word) → indexed_item_number now word ≡ option_or (indexed_item_number before word) (if is_this_name name word then Some number else None)
