-- The block that may have a key, by the index of first keys.
use Rattle.std.proofs.Common.{◌≡◌, ◌≢◌, ℕ, zero, suc, ◌-◌, ◌<◌, ◌≤◌, ◌∙◌, sym, ap, subst, refl, arith, true, false, Bool, List, [], ◌∷◌, ◌++◌, map, take, drop, get_or, slice_index_or, length}
use Rattle.std.specs.List.{AllByRecursion}
use Rattle.std.specs.List.Sorted.{IsStrictlySortedBy, IsPartitionPoint, IsPartitionedBy}
use Rattle.std.specs.Ordering.{is_lt, is_le}
use Rattle.std.specs.declared.cmp.Ordering.{Ordering}
use Rattle.std.specs.declared.cmp.Ordering.TheVariants.{Less, Equal, Greater}
use Rattle.std.proofs.lemmas.Cmp.{nat_list_cmp_total}
use Rattle.std.proofs.lemmas.List.{length-map}
use Rattle.std.proofs.lemmas.List.Elements.{All-from_recursion, recursion_from_All}
use Rattle.std.proofs.lemmas.Map.Keys.{Less-from_sorted}
use Rattle.std.proofs.lemmas.Map.Lookups.{exact_bytes}
use Rattle.pw_base.proofs.Plain.{all-weaker, all-append}
use Rattle.pw_files.specs.Records.{key_cmp, compared}
use Rattle.pw_blocks.specs.Blocks.{records_of, first_key, IsBlockFile, IsHome}
use Rattle.pw_blocks.specs.Cuts.{Rises}
use Rattle.pw_blocks.proofs.CutLemmas.{AllLess, AllGreater}
use Rattle.pw_blocks.proofs.RoundLemmas.{all_back, all_unmapped, sorted_back, sorted_across, above_not_below}

-- no block is empty
abbrev NoneEmpty : List (List (List ℕ)) → Type 0
NoneEmpty blocks = AllByRecursion (λ block. block ≢ []) blocks

-- what is below a key that is not above another is below that one
below_le : (a b key : List ℕ) → key_cmp a b ≡ Less → is_le (key_cmp b key) ≡ true → key_cmp a key ≡ Less
below_le a b key less e =
    let at : (o : Ordering) → key_cmp b key ≡ o → is_le o ≡ true → key_cmp a key ≡ Less =
    λ o is. elim o as (λ o. key_cmp b key ≡ o → is_le o ≡ true → key_cmp a key ≡ Less) [
      | Less ↦ λ is le. nat_list_cmp_total.trans a b key less is
      | Equal ↦ λ is le. ap (λ k. key_cmp a k) (sym (exact_bytes b key is)) ∙ less
      | Greater ↦ λ is le. cc
    ] is in
    at (key_cmp b key) refl e

-- what is not at most is not less, and is greater
not_lt : (o : Ordering) → is_le o ≡ false → is_lt o ≡ false
not_lt Less h = cc
not_lt Equal h = cc
not_lt Greater h = refl

is_greater : (o : Ordering) → is_le o ≡ false → o ≡ Greater
is_greater Less h = cc
is_greater Equal h = cc
is_greater Greater h = refl

-- past the last block there are no records
all_past : (P : List ℕ → Type 0) (place : ℕ) (blocks : List (List (List ℕ))) → length blocks ≤ place → AllByRecursion P (records_of (drop place blocks))
all_past P zero [] h = tt
all_past P zero (block ∷ blocks) h = absurd (omega (arith, h))
all_past P (suc place) [] h = tt
all_past P (suc place) (block ∷ blocks) h = all_past P place blocks (omega (arith, h))

-- a place is within a length or past it
within_or_past : (P : Type 0) (place long : ℕ) → (place < long → P) → (long ≤ place → P) → P
within_or_past P zero zero f g = g (omega arith)
within_or_past P zero (suc long) f g = f (omega arith)
within_or_past P (suc place) zero f g = g (omega arith)
within_or_past P (suc place) (suc long) f g = within_or_past P place long (λ h. f (omega (arith, h))) (λ h. g (omega (arith, h)))

module _ (n : ℕ) where
  -- the key of a content
  abbrev key_of : List ℕ → List ℕ
  key_of content = take n content

  -- the first keys of the blocks
  abbrev firsts : List (List (List ℕ)) → List (List ℕ)
  firsts blocks = map (first_key n) blocks

  -- the first key of the block at a place
  first_at : (blocks : List (List (List ℕ))) (i : ℕ) → first_key n (slice_index_or blocks i []) ≡ get_or (firsts blocks) i []
  first_at [] i = refl
  first_at (block ∷ blocks) zero = refl
  first_at (block ∷ blocks) (suc i) = first_at blocks i

  -- the first key of a block is the key of one of its records
  first_among : (Q : List ℕ → Type 0) (blocks : List (List (List ℕ))) → NoneEmpty blocks → AllByRecursion (λ c. Q (key_of c)) (records_of blocks) → (i : ℕ) → i < length blocks → Q (get_or (firsts blocks) i [])
  first_among Q [] some all i h = absurd (omega (arith, h))
  first_among Q ([] ∷ blocks) some all i h = absurd (some.0 refl)
  first_among Q ((c ∷ cs) ∷ blocks) some all zero h = all.0
  first_among Q ((c ∷ cs) ∷ blocks) some all (suc i) h = first_among Q blocks some.1 (all_back (λ c. Q (key_of c)) cs (records_of blocks) all.1) i (omega (arith, h))

  -- what holds of the keys of all records holds of the first keys
  all_firsts : (Q : List ℕ → Type 0) (blocks : List (List (List ℕ))) → NoneEmpty blocks → AllByRecursion (λ c. Q (key_of c)) (records_of blocks) → AllByRecursion Q (firsts blocks)
  all_firsts Q [] some all = tt
  all_firsts Q ([] ∷ blocks) some all = absurd (some.0 refl)
  all_firsts Q ((c ∷ cs) ∷ blocks) some all = (all.0, all_firsts Q blocks some.1 (all_back (λ c. Q (key_of c)) cs (records_of blocks) all.1))

  -- the first keys rise
  firsts_rise : (blocks : List (List (List ℕ))) → NoneEmpty blocks → Rises n (records_of blocks) → IsStrictlySortedBy key_cmp (firsts blocks)
  unfolding IsStrictlySortedBy
  firsts_rise [] some s = tt
  firsts_rise ([] ∷ blocks) some s = absurd (some.0 refl)
  firsts_rise ((c ∷ cs) ∷ blocks) some s = (
    all_firsts (λ k. key_cmp (key_of c) k ≡ Less) blocks some.1 (all_back (λ d. key_cmp (key_of c) (key_of d) ≡ Less) cs (records_of blocks) (all_unmapped key_of (λ k. key_cmp (key_of c) k ≡ Less) (λ d. key_cmp (key_of c) (key_of d) ≡ Less) (λ d h. h) (cs ++ records_of blocks) s.0)),
    firsts_rise blocks some.1 (sorted_back key_cmp key_of (c ∷ cs) (records_of blocks) s),
  )

  module _ (key : List ℕ) where
    -- the records before a block whose first key is not above the key are below it
    low_at : (blocks : List (List (List ℕ))) → NoneEmpty blocks → Rises n (records_of blocks) → (i : ℕ) → i < length blocks → is_le (key_cmp (get_or (firsts blocks) i []) key) ≡ true → AllLess n key (records_of (take i blocks))
    low_at [] some s i h e = absurd (omega (arith, h))
    low_at (block ∷ blocks) some s zero h e = tt
    low_at (block ∷ blocks) some s (suc i) h e =
        let within : i < length blocks = omega (arith, h) in
        let first : List ℕ = get_or (firsts blocks) i [] in
        all-append (λ c. compared n key c ≡ Less) block (records_of (take i blocks))
        (all-weaker (λ c. AllByRecursion (λ d. key_cmp (key_of c) (key_of d) ≡ Less) (records_of blocks)) (λ c. compared n key c ≡ Less)
        (λ c all. below_le (key_of c) first key (first_among (λ k. key_cmp (key_of c) k ≡ Less) blocks some.1 all i within) e) block
        (sorted_across key_cmp key_of block (records_of blocks) s))
        (low_at blocks some.1 (sorted_back key_cmp key_of block (records_of blocks) s) i within e)

    -- the records from a block on whose first key is above the key are above it
    high_at : (blocks : List (List (List ℕ))) → NoneEmpty blocks → Rises n (records_of blocks) → (i : ℕ) → i < length blocks → is_le (key_cmp (get_or (firsts blocks) i []) key) ≡ false → AllGreater n key (records_of (drop i blocks))
    unfolding IsStrictlySortedBy
    high_at [] some s i h e = absurd (omega (arith, h))
    high_at ([] ∷ blocks) some s i h e = absurd (some.0 refl)
    high_at ((c ∷ cs) ∷ blocks) some s zero h e = (
      is_greater (compared n key c) e,
      all_unmapped key_of (λ k. key_cmp (key_of c) k ≡ Less) (λ d. compared n key d ≡ Greater) (λ d. above_not_below n key c (not_lt (compared n key c) e) (key_of d)) (cs ++ records_of blocks) s.0,
    )
    high_at ((c ∷ cs) ∷ blocks) some s (suc i) h e = high_at blocks some.1 (sorted_back key_cmp key_of (c ∷ cs) (records_of blocks) s) i (omega (arith, h)) e

module _ (n : ℕ) (blocks : List (List (List ℕ))) (index : List (List ℕ)) (file : IsBlockFile n blocks index) (key : List ℕ) where
  -- whether a first key is not above the key
  abbrev pub at_most : List ℕ → Bool
  at_most first = is_le (key_cmp first key)

  some_in_each : NoneEmpty blocks
  some_in_each = recursion_from_All (λ block. block ≢ []) blocks file.none_empty

  index_rises : IsStrictlySortedBy key_cmp index
  index_rises = subst (IsStrictlySortedBy key_cmp) (sym file.first_keys) (firsts_rise n blocks some_in_each file.file.order)

  -- so the index has those first
  pub index_parts : IsPartitionedBy at_most index
  index_parts i j d low high e =
      let a : List ℕ = get_or index i d in
      let b : List ℕ = get_or index j d in
      let at : (v : Bool) → at_most a ≡ v → v ≡ true =
      λ v is. elim v as (λ v. at_most a ≡ v → v ≡ true) [
        | true ↦ λ is. refl
        | false ↦ λ is.
            let other : i ≡ j → ⊥ = λ same. (let no : false ≡ true = sym is ∙ ap (λ k. at_most (get_or index k d)) same ∙ e in absurd cc) in
            let before : i < j = omega arith in
            sym is ∙ ap is_le (below_le a b key (Less-from_sorted key_cmp index i j d index_rises before high) e)
      ] is in
      at (at_most a) refl

  -- and the block before the first one that begins above the key is its home
  pub home_is : (point : ℕ) → point ≤ length index → IsPartitionPoint (λ first. at_most first ≡ true) (λ first. at_most first ≡ false) index point → IsHome n blocks key (point - 1)
  home_is point within parts =
      let long : length index ≡ length blocks = ap length file.first_keys ∙ length-map blocks (first_key n) in
      record {
        within = omega (arith, within, long);
        begins = begins_of point within parts.0;
        low = All-from_recursion (λ c. compared n key c ≡ Less) (records_of (take (point - 1) blocks)) (low_of long point within parts.0);
        high = All-from_recursion (λ c. compared n key c ≡ Greater) (records_of (drop (suc (point - 1)) blocks)) (high_of (suc (point - 1)) (omega arith) long parts.1);
      }
    where
      first_is : (k : ℕ) → get_or (firsts n blocks) k [] ≡ get_or index k []
      first_is k = ap (λ keys. get_or keys k []) (sym file.first_keys)

      begins_of : (point : ℕ) → point ≤ length index → ((k : ℕ) (d : List ℕ) → 0 ≤ k → k < point → at_most (get_or index k d) ≡ true) → 0 < point - 1 → at_most (first_key n (slice_index_or blocks (point - 1) [])) ≡ true
      begins_of zero h all some = absurd (omega (arith, some))
      begins_of (suc before) h all some =
          let same : before ≡ suc before - 1 = omega arith in
          subst (λ k. at_most (first_key n (slice_index_or blocks k [])) ≡ true) same
          (ap at_most (first_at n blocks before ∙ first_is before) ∙ all before [] (omega arith) (omega arith))

      low_of : length index ≡ length blocks → (point : ℕ) → point ≤ length index → ((k : ℕ) (d : List ℕ) → 0 ≤ k → k < point → at_most (get_or index k d) ≡ true) → AllLess n key (records_of (take (point - 1) blocks))
      low_of long zero h all = tt
      low_of long (suc before) h all =
          let same : before ≡ suc before - 1 = omega arith in
          subst (λ k. AllLess n key (records_of (take k blocks))) same
          (low_at n key blocks some_in_each file.file.order before (omega arith) (ap at_most (first_is before) ∙ all before [] (omega arith) (omega arith)))

      high_of : (place : ℕ) → point ≤ place → length index ≡ length blocks → ((k : ℕ) (d : List ℕ) → point ≤ k → k < length index → at_most (get_or index k d) ≡ false) → AllGreater n key (records_of (drop place blocks))
      high_of place h long all =
          within_or_past (AllGreater n key (records_of (drop place blocks))) place (length blocks)
          (λ less. high_at n key blocks some_in_each file.file.order place less (ap at_most (first_is place) ∙ all place [] h (omega arith)))
          (λ more. all_past (λ c. compared n key c ≡ Greater) place blocks more)
