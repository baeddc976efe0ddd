-- An index of items by their names: one name more, and the look-up.
use Rattle.std.proofs.Common.{◌≡◌, ℕ, suc, ◌+◌, ◌<◌, Bool, true, false, cond, List, [], ◌∷◌, length, Option, Some, None, refl, sym, ap, ◌∙◌, arith}
use Rattle.std.specs.Prelude.{Vec, bytes_eq, is_some, slice_get, find, if◌then◌else◌}
use Rattle.std.specs.Option.{option_or}
use Rattle.std.specs.Str.{str_to_ascii_lowercase}
use Rattle.std.specs.Cmp.Lexicographic.{bytes_decides}
use Rattle.indexmap.specs.IndexMap.{IndexMap, insert_entry, get_by}
use Rattle.std.specs.Map.{lookup}
use Rattle.pw_base.proofs.Plain.{is_some-None, bytes_eq-swap}
use Rattle.pw_words.specs.Words.{Word, same_word}
use Rattle.pw_data.specs.declared.item.Item.{Item}
use Rattle.pw_data.specs.Names.{is_this_name}
use Rattle.pw_data.specs.Index.{indexed_item_number, first_item_number, Indexes}

-- an entry that does not pass is passed over
skipped : {X : Type 0} (b : Bool) (x : X) (o : Option X) → is_some (cond b (Some x) o) ≡ false → (b ≡ false) × (is_some o ≡ false)
skipped true x o none = absurd cc
skipped false x o none = (refl, none)

-- a look-up by a test that equal keys pass alike, where a key is put
module _ {K X : Type 0} (eq : K → K → Bool) (test : K → Bool) (k : K) (v : X) (alike : (x : K) → eq k x ≡ true → test k ≡ test x) where
  new-by : (e : K × X) (es : List (K × X)) (b : Bool) → eq k e.0 ≡ b → test k ≡ true → is_some (lookup test (e ∷ es)) ≡ false
      → (is_some (lookup test es) ≡ false → lookup test (insert_entry eq es k v) ≡ Some v) → lookup test (insert_entry eq (e ∷ es) k v) ≡ Some v
  new-by e es true is hits none rest = let at : test e.0 ≡ true = sym (alike e.0 is) ∙ hits in rw (is, at) refl
  new-by e es false is hits none rest = let past = skipped (test e.0) e.1 (lookup test es) none in rw (is, past.0) (rest past.1)

  -- the key is found, where none was
  lookup-new : (es : List (K × X)) → test k ≡ true → is_some (lookup test es) ≡ false → lookup test (insert_entry eq es k v) ≡ Some v
  lookup-new [] hits none = rw hits refl
  lookup-new (e ∷ es) hits none = new-by e es (eq k e.0) refl hits none (lookup-new es hits)

  other-by : (e : K × X) (es : List (K × X)) (b : Bool) → eq k e.0 ≡ b → test k ≡ false → lookup test (insert_entry eq es k v) ≡ lookup test es
      → lookup test (insert_entry eq (e ∷ es) k v) ≡ lookup test (e ∷ es)
  other-by e es true is misses rest = let at : test e.0 ≡ false = sym (alike e.0 is) ∙ misses in rw (is, at) refl
  other-by e es false is misses rest = rw is (ap (λ found. cond (test e.0) (Some e.1) found) rest)

  -- what does not look for the key finds what it found
  lookup-other : (es : List (K × X)) → test k ≡ false → lookup test (insert_entry eq es k v) ≡ lookup test es
  lookup-other [] misses = rw misses refl
  lookup-other (e ∷ es) misses = other-by e es (eq k e.0) refl misses (lookup-other es misses)

or-none : {X : Type 0} (o : Option X) → o ≡ option_or o None
or-none None = refl
or-none (Some x) = refl

module _ {A S : Type 0} (index next : IndexMap (Vec ℕ A) ℕ S) (key : Vec ℕ A) (name : Word) (number : ℕ) (key_is : key.items ≡ str_to_ascii_lowercase name)
    (next_is : next.entries ≡ insert_entry (λ x y. bytes_eq x.items y.items) index.entries key number)
    (fresh : is_some (get_by (λ x. bytes_eq key.items x.items) index) ≡ false) where
  -- the key is found by the words that are the name
  found_by : (word : Word) → bytes_eq (str_to_ascii_lowercase word) key.items ≡ same_word name word
  found_by word = bytes_eq-swap (str_to_ascii_lowercase word) key.items ∙ ap (λ bytes. bytes_eq bytes (str_to_ascii_lowercase word)) key_is

  alike : (word : Word) (x : Vec ℕ A) → bytes_eq key.items x.items ≡ true → bytes_eq (str_to_ascii_lowercase word) key.items ≡ bytes_eq (str_to_ascii_lowercase word) x.items
  alike word x equal = ap (bytes_eq (str_to_ascii_lowercase word)) ((bytes_decides key.items x.items).0 equal)

  none_yet : (word : Word) → bytes_eq (str_to_ascii_lowercase word) key.items ≡ true → is_some (indexed_item_number index word) ≡ false
  none_yet word hits =
      let same : str_to_ascii_lowercase word ≡ key.items = (bytes_decides (str_to_ascii_lowercase word) key.items).0 hits in
      ap (λ bytes. is_some (get_by (λ x. bytes_eq bytes x.items) index)) same ∙ fresh

  by : (word : Word) (b : Bool) → bytes_eq (str_to_ascii_lowercase word) key.items ≡ b
      → indexed_item_number next word ≡ option_or (indexed_item_number index word) (if b then Some number else None)
  by word true hits =
      let none : indexed_item_number index word ≡ None = is_some-None (indexed_item_number index word) (none_yet word hits) in
      ap (λ es. lookup (λ (x : Vec ℕ A). bytes_eq (str_to_ascii_lowercase word) x.items) es) next_is
      ∙ lookup-new (λ x y. bytes_eq x.items y.items) (λ x. bytes_eq (str_to_ascii_lowercase word) x.items) key number (alike word) index.entries hits (none_yet word hits)
      ∙ ap (λ o. option_or o (Some number)) (sym none)
  by word false misses =
      ap (λ es. lookup (λ (x : Vec ℕ A). bytes_eq (str_to_ascii_lowercase word) x.items) es) next_is
      ∙ lookup-other (λ x y. bytes_eq x.items y.items) (λ x. bytes_eq (str_to_ascii_lowercase word) x.items) key number (alike word) index.entries misses
      ∙ or-none (indexed_item_number index word)

  -- an index with one name more
  pub number_of-insert : (word : Word) → indexed_item_number next word ≡ option_or (indexed_item_number index word) (if same_word name word then Some number else None)
  number_of-insert word =
      by word (bytes_eq (str_to_ascii_lowercase word) key.items) refl
      ∙ ap (λ b. option_or (indexed_item_number index word) (if b then Some number else None)) (found_by word)

-- a name that is there stays before that of the next item
or-next : (a : Option ℕ) (c : Bool) (number : ℕ) (rest : Option ℕ) → option_or (option_or a (if c then Some number else None)) rest ≡ option_or a (cond c (Some number) rest)
or-next None true number rest = refl
or-next None false number rest = refl
or-next (Some n) true number rest = refl
or-next (Some n) false number rest = refl

-- one item further
pub index-further : {A S : Type 0} (before now : IndexMap (Vec ℕ A) ℕ S) (number : ℕ) (item : Item) (items : List Item) (word : Word) → Indexes item.name number before now
    → option_or (indexed_item_number now word) (first_item_number (number + 1) items word) ≡ option_or (indexed_item_number before word) (first_item_number number (item ∷ items) word)
index-further before now number item items word puts =
    ap (λ o. option_or o (first_item_number (number + 1) items word)) (puts word)
    ∙ or-next (indexed_item_number before word) (is_this_name item.name word) number (first_item_number (number + 1) items word)

-- what the first item of a name is, by its number
record Found (first number : ℕ) (items : List Item) (name : Word) : Type 0 where
  place : ℕ
  number_is : number ≡ first + place
  within : place < length items
  item : slice_get items place ≡ find (λ item. is_this_name item.name name) items

found-next : (first number : ℕ) (item : Item) (items : List Item) (name : Word) → is_this_name item.name name ≡ false → Found (first + 1) number items name → Found first number (item ∷ items) name
found-next first number item items name other found =
    record { place = suc found.place; number_is = omega (arith, found.number_is); within = omega (arith, found.within); item = rw other found.item }

found-by : (b : Bool) (first number : ℕ) (item : Item) (items : List Item) (name : Word) → is_this_name item.name name ≡ b
    → cond b (Some first) (first_item_number (first + 1) items name) ≡ Some number → (first_item_number (first + 1) items name ≡ Some number → Found (first + 1) number items name) → Found first number (item ∷ items) name
found-by true first number item items name is at rest =
    let same : first ≡ number = cc in
    record { place = 0; number_is = omega (arith, same); within = omega arith; item = rw is refl }
found-by false first number item items name is at rest = found-next first number item items name is (rest at)

found : (first number : ℕ) (items : List Item) (name : Word) → first_item_number first items name ≡ Some number → Found first number items name
found first number [] name at = absurd cc
found first number (item ∷ items) name at = found-by (is_this_name item.name name) first number item items name refl at (found (first + 1) number items name)

none-by : (b : Bool) (first : ℕ) (item : Item) (items : List Item) (name : Word) → is_this_name item.name name ≡ b → cond b (Some first) (first_item_number (first + 1) items name) ≡ None
    → (first_item_number (first + 1) items name ≡ None → find (λ item. is_this_name item.name name) items ≡ None) → find (λ item. is_this_name item.name name) (item ∷ items) ≡ None
none-by true first item items name is at rest = absurd cc
none-by false first item items name is at rest = rw is (rest at)

-- where there is no number there is no item
pub not_found : (first : ℕ) (items : List Item) (name : Word) → first_item_number first items name ≡ None → find (λ item. is_this_name item.name name) items ≡ None
not_found first [] name at = refl
not_found first (item ∷ items) name at = none-by (is_this_name item.name name) first item items name refl at (not_found (first + 1) items name)

-- the item of a number is the first of the name
pub item-found : (number : ℕ) (items : List Item) (name : Word) → first_item_number 0 items name ≡ Some number → slice_get items number ≡ find (λ item. is_this_name item.name name) items
item-found number items name at =
    let f = found 0 number items name at in
    ap (slice_get items) (omega (arith, f.number_is)) ∙ f.item
