-- An index of things by their names: one name more, and one thing further.
use Rattle.std.proofs.Common.{◌≡◌, ℕ, suc, ◌+◌, ◌<◌, ◌≤◌, Bool, true, false, cond, List, [], ◌∷◌, length, drop, get_or, Option, Some, None, refl, sym, ap, ◌∙◌, add-one}
use Rattle.std.specs.Prelude.{Vec, bytes_eq, is_some, if◌then◌else◌}
use Rattle.std.specs.List.{position_from}
use Rattle.std.specs.Option.{option_or}
use Rattle.std.specs.Ordering.{is_eq, nat_cmp}
use Rattle.std.specs.Cmp.Lexicographic.{slice_cmp, texts_ties, bytes_decides}
use Rattle.std.specs.BTreeMap.{BTreeMap, insert_entry, get_by}
use Rattle.std.specs.Map.{lookup}
use Rattle.std.specs.declared.cmp.Ordering.{Ordering}
use Rattle.std.specs.declared.cmp.Ordering.TheVariants.{Less, Equal, Greater}
use Rattle.std.proofs.Math.Seq.{drop-cons}
use Rattle.std.proofs.lemmas.List.{drop_all}
use Rattle.pw_base.proofs.Plain.{is_eq-Equal, is_some-None, bytes_eq-swap}
use Rattle.pw_operands.specs.Index.{indexed_number, IsIndexOf}

-- bytes that compare as equal are equal
equal_bytes : (xs ys : List ℕ) → slice_cmp nat_cmp xs ys ≡ Equal → xs ≡ ys
equal_bytes xs ys is = (bytes_decides xs ys).0 (texts_ties xs ys ∙ ap is_eq is)

-- an entry that does not pass is passed over
skipped : {X : Type 0} (b : Bool) (x : X) (o : Option X) → is_some (cond b (Some x) o) ≡ false → (b ≡ false) × (is_some o ≡ false)
skipped true x o none = absurd cc
skipped false x o none = (refl, none)

-- a look-up by a test that equal keys pass alike, where a key is put
module _ {K X : Type 0} (cmp : K → K → Ordering) (test : K → Bool) (k : K) (v : X) (alike : (x : K) → cmp k x ≡ Equal → test k ≡ test x) where
  new-by : (e : K × X) (es : List (K × X)) (o : Ordering) → cmp k e.0 ≡ o → test k ≡ true → is_some (lookup test (e ∷ es)) ≡ false
      → (is_some (lookup test es) ≡ false → lookup test (insert_entry cmp es k v) ≡ Some v) → lookup test (insert_entry cmp (e ∷ es) k v) ≡ Some v
  new-by e es Less is hits none rest = rw (is, hits) refl
  new-by e es Equal is hits none rest = let at : test e.0 ≡ true = sym (alike e.0 is) ∙ hits in rw (is, at) refl
  new-by e es Greater is hits none rest = let past = skipped (test e.0) e.1 (lookup test es) none in rw (is, past.0) (rest past.1)

  -- the key is found, where none was
  lookup-new : (es : List (K × X)) → test k ≡ true → is_some (lookup test es) ≡ false → lookup test (insert_entry cmp es k v) ≡ Some v
  lookup-new [] hits none = rw hits refl
  lookup-new (e ∷ es) hits none = new-by e es (cmp k e.0) refl hits none (lookup-new es hits)

  other-by : (e : K × X) (es : List (K × X)) (o : Ordering) → cmp k e.0 ≡ o → test k ≡ false → lookup test (insert_entry cmp es k v) ≡ lookup test es
      → lookup test (insert_entry cmp (e ∷ es) k v) ≡ lookup test (e ∷ es)
  other-by e es Less is misses rest = rw (is, misses) refl
  other-by e es Equal is misses rest = let at : test e.0 ≡ false = sym (alike e.0 is) ∙ misses in rw (is, at) refl
  other-by e es Greater is misses rest = rw is (ap (λ found. cond (test e.0) (Some e.1) found) rest)

  -- what does not look for the key finds what it found
  lookup-other : (es : List (K × X)) → test k ≡ false → lookup test (insert_entry cmp es k v) ≡ lookup test es
  lookup-other [] misses = rw misses refl
  lookup-other (e ∷ es) misses = other-by e es (cmp k e.0) refl misses (lookup-other es misses)

or-none : {X : Type 0} (o : Option X) → o ≡ option_or o None
or-none None = refl
or-none (Some x) = refl

module _ {A : Type 0} (index next : BTreeMap (Vec ℕ A) ℕ) (key : Vec ℕ A) (name : List ℕ) (number : ℕ) (key_is : key.items ≡ name)
    (next_is : next.entries ≡ insert_entry (λ x y. slice_cmp nat_cmp x.items y.items) index.entries key number)
    (fresh : is_some (get_by (λ x. slice_cmp nat_cmp key.items x.items) index) ≡ false) where
  -- the key is found by the word that is the name
  found_by : (word : List ℕ) → is_eq (slice_cmp nat_cmp word key.items) ≡ bytes_eq name word
  found_by word = sym (texts_ties word key.items) ∙ bytes_eq-swap word key.items ∙ ap (λ bytes. bytes_eq bytes word) key_is

  alike : (word : List ℕ) (x : Vec ℕ A) → slice_cmp nat_cmp key.items x.items ≡ Equal → is_eq (slice_cmp nat_cmp word key.items) ≡ is_eq (slice_cmp nat_cmp word x.items)
  alike word x equal = ap (λ bytes. is_eq (slice_cmp nat_cmp word bytes)) (equal_bytes key.items x.items equal)

  none_yet : (word : List ℕ) → is_eq (slice_cmp nat_cmp word key.items) ≡ true → is_some (indexed_number index word) ≡ false
  none_yet word hits =
      let same : word ≡ key.items = equal_bytes word key.items (is_eq-Equal (slice_cmp nat_cmp word key.items) hits) in
      ap (λ bytes. is_some (get_by (λ x. slice_cmp nat_cmp bytes x.items) index)) same ∙ fresh

  by : (word : List ℕ) (b : Bool) → is_eq (slice_cmp nat_cmp word key.items) ≡ b
      → indexed_number next word ≡ option_or (indexed_number index word) (if b then Some number else None)
  by word true hits =
      let none : indexed_number index word ≡ None = is_some-None (indexed_number index word) (none_yet word hits) in
      ap (λ es. lookup (λ (x : Vec ℕ A). is_eq (slice_cmp nat_cmp word x.items)) es) next_is
      ∙ lookup-new (λ x y. slice_cmp nat_cmp x.items y.items) (λ x. is_eq (slice_cmp nat_cmp word x.items)) key number (alike word) index.entries hits (none_yet word hits)
      ∙ ap (λ o. option_or o (Some number)) (sym none)
  by word false misses =
      ap (λ es. lookup (λ (x : Vec ℕ A). is_eq (slice_cmp nat_cmp word x.items)) es) next_is
      ∙ lookup-other (λ x y. slice_cmp nat_cmp x.items y.items) (λ x. is_eq (slice_cmp nat_cmp word x.items)) key number (alike word) index.entries misses
      ∙ or-none (indexed_number index word)

  -- an index with one name more
  pub number_of-insert : (word : List ℕ) → indexed_number next word ≡ option_or (indexed_number index word) (if bytes_eq name word then Some number else None)
  number_of-insert word =
      by word (is_eq (slice_cmp nat_cmp word key.items)) refl
      ∙ ap (λ b. option_or (indexed_number index word) (if b then Some number else None)) (found_by word)

-- the number of the first thing of a name among things that are numbered from one on
abbrev pub number_from : {T : Type 0} → (T → List ℕ) → ℕ → List T → List ℕ → Option ℕ
number_from name_of first things word = position_from (λ thing. bytes_eq (name_of thing) word) first things

-- a name that is there stays before that of the next thing
or-next : (a : Option ℕ) (c : Bool) (number : ℕ) (rest : Option ℕ) → option_or (option_or a (if c then Some number else None)) rest ≡ option_or a (cond c (Some number) rest)
or-next None true number rest = refl
or-next None false number rest = refl
or-next (Some n) true number rest = refl
or-next (Some n) false number rest = refl

module _ {A T : Type 0} (name_of : T → List ℕ) (things : List T) where
  -- the index of the things so far, with those that are left
  abbrev pub Leads : ℕ → BTreeMap (Vec ℕ A) ℕ → Type 0
  Leads i index = (word : List ℕ) → option_or (indexed_number index word) (number_from name_of i (drop i things) word) ≡ number_from name_of 0 things word

  pub index-further : (before now : BTreeMap (Vec ℕ A) ℕ) (i : ℕ) (thing : T) (name : List ℕ) → i < length things → thing ≡ get_or things i thing → name ≡ name_of thing
      → ((word : List ℕ) → indexed_number now word ≡ option_or (indexed_number before word) (if bytes_eq name word then Some i else None)) → Leads i before → Leads (i + 1) now
  index-further before now i thing name within is name_is puts leads word =
      let front : drop i things ≡ thing ∷ drop (i + 1) things = rw (add-one, drop-cons things i thing) (ap (λ x. x ∷ drop (suc i) things) (sym is)) in
      let rest : Option ℕ = number_from name_of (i + 1) (drop (i + 1) things) word in
      ap (λ o. option_or o rest) (puts word ∙ ap (λ n. option_or (indexed_number before word) (if bytes_eq n word then Some i else None)) name_is)
      ∙ or-next (indexed_number before word) (bytes_eq (name_of thing) word) i rest
      ∙ ap (λ xs. option_or (indexed_number before word) (number_from name_of i xs word)) (sym front) ∙ leads word

  pub index-done : (index : BTreeMap (Vec ℕ A) ℕ) (i : ℕ) → length things ≤ i → Leads i index → IsIndexOf index name_of things
  index-done index i done leads word =
      or-none (indexed_number index word) ∙ ap (λ xs. option_or (indexed_number index word) (number_from name_of i xs word)) (sym (drop_all i things done)) ∙ leads word
