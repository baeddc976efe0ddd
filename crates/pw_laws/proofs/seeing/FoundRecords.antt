-- What a file has at a key and after it, in words of the order of keys.
use Rattle.std.proofs.Common.{◌≡◌, ◌≢◌, ℕ, refl, sym, ◌∙◌, ap, subst, true, false, cond, List, [], ◌∷◌, map, take, Option, Some, None, All, Contains, HoldsAt}
use Rattle.std.specs.List.{AllByRecursion}
use Rattle.std.specs.Ordering.{is_lt, is_eq, is_gt, ordering_reverse}
use Rattle.std.specs.declared.cmp.Ordering.TheVariants.{Less, Equal, Greater}
use Rattle.std.proofs.lemmas.Cmp.{nat_list_cmp_total, tied_itself}
use Rattle.std.proofs.lemmas.List.Elements.{All-contains, at_from_Contains}
use Rattle.std.proofs.lemmas.Map.Lookups.{exact_bytes}
use Rattle.std.proofs.lemmas.Option.{slice_get-get_or}
use Rattle.pw_files.proofs.Lookups.{record_at-found, record_at-with_record, record_at-with_other, record_at-without_key, record_at-without_other}
use Rattle.pw_files.proofs.Nearest.{record_after-found, record_after-nearest, record_after-missing}
use Rattle.pw_files.proofs.Places.{found_at}
use Rattle.pw_files.specs.Records.{key_cmp, compared, record_at, record_after, with_record, without_key, IsFile}
use Rattle.pw_locks.proofs.Order.{not-itself}
use Rattle.pw_locks.specs.Spans.{Precedes}

-- a key compares as equal with itself
cmp-itself : (key : List ℕ) → key_cmp key key ≡ Equal
cmp-itself key = tied_itself nat_list_cmp_total key

-- what the test for greater says
above-Precedes : (key other : List ℕ) → is_gt (key_cmp other key) ≡ true → Precedes key other
above-Precedes key other h =
    elim (key_cmp other key) as (λ r. key_cmp other key ≡ r → is_gt r ≡ true → Precedes key other) [
      | Less ↦ λ p q. absurd (cc q)
      | Equal ↦ λ p q. absurd (cc q)
      | Greater ↦ λ p q. nat_list_cmp_total.antisymm key other ∙ ap ordering_reverse p
    ] refl h

Precedes-above : (key other : List ℕ) → Precedes key other → key_cmp other key ≡ Greater
Precedes-above key other h = nat_list_cmp_total.antisymm other key ∙ ap ordering_reverse h

-- of two keys one is below the other, or they are one
pub key_cases : (P : Type 0) (a b : List ℕ) → (Precedes a b → P) → (a ≡ b → P) → (Precedes b a → P) → P
key_cases P a b below same above =
    elim (key_cmp a b) as (λ r. key_cmp a b ≡ r → P) [
      | Less ↦ λ p. below p
      | Equal ↦ λ p. same (exact_bytes a b p)
      | Greater ↦ λ p. above (nat_list_cmp_total.antisymm b a ∙ ap ordering_reverse p)
    ] refl

-- two keys are one or differ
pub key_is : (P : Type 0) (a b : List ℕ) → (a ≡ b → P) → (a ≢ b → P) → P
key_is P a b same other =
    key_cases P a b
    (λ below. other (λ is. not-itself b (subst (λ k. Precedes k b) is below)))
    same
    (λ above. other (λ is. not-itself b (subst (Precedes b) is above)))

-- two keys that differ do not compare as equal
differ : (a b : List ℕ) → a ≢ b → is_eq (key_cmp a b) ≡ false
differ a b ne =
    elim (key_cmp a b) as (λ r. key_cmp a b ≡ r → is_eq r ≡ false)
    [ Less ↦ λ _. refl | Equal ↦ λ p. absurd (ne (exact_bytes a b p)) | Greater ↦ λ _. refl ] refl

module _ (n : ℕ) where
  -- the first record is the one at its key
  pub record_at-here : (content : List ℕ) (records : List (List ℕ))
      → record_at n (content ∷ records) (take n content) ≡ Some content
  record_at-here content records =
      ap (λ o. cond (is_eq o) (Some content) (record_at n records (take n content))) (cmp-itself (take n content))

  -- another key has what the other records have there
  pub record_at-past : (content : List ℕ) (records : List (List ℕ)) (key : List ℕ) → take n content ≢ key
      → record_at n (content ∷ records) key ≡ record_at n records key
  record_at-past content records key ne =
      ap (λ b. cond b (Some content) (record_at n records key)) (differ (take n content) key ne)

  -- a key below all others has no record
  pub record_at-below : (key : List ℕ) (records : List (List ℕ))
      → AllByRecursion (λ k. key_cmp key k ≡ Less) (map (λ content. take n content) records)
      → record_at n records key ≡ None
  record_at-below key [] h = refl
  record_at-below key (content ∷ records) h =
      ap (λ o. cond (is_eq o) (Some content) (record_at n records key)) (Precedes-above key (take n content) h.0)
      ∙ record_at-below key records h.1

  module _ (records : List (List ℕ)) (key : List ℕ) where
    -- what is at a key once another thing was put at one
    abbrev Put : Option (List ℕ) → List ℕ → Option (List ℕ)
    Put new place = cond (is_eq (key_cmp key place)) new (record_at n records key)

    put-at : (new : Option (List ℕ)) (place : List ℕ) → key ≡ place → Put new place ≡ new
    put-at new place is =
        ap (λ o. cond (is_eq o) new (record_at n records key)) (subst (λ k. key_cmp key k ≡ Equal) is (cmp-itself key))

    put-elsewhere : (new : Option (List ℕ)) (place : List ℕ) → key ≢ place → Put new place ≡ record_at n records key
    put-elsewhere new place ne = ap (λ b. cond b new (record_at n records key)) (differ key place ne)

    -- what a file has at a key once a record is put
    pub record_at-with : (content : List ℕ)
        → record_at n (with_record n records content) key
        ≡ cond (is_eq (key_cmp key (take n content))) (Some content) (record_at n records key)
    record_at-with content =
        let now : List (List ℕ) = with_record n records content in
        key_is (record_at n now key ≡ Put (Some content) (take n content)) key (take n content)
        (λ is.
        ap (record_at n now) is
        ∙ (record_at-with_record n records content ∙ sym (put-at (Some content) (take n content) is)))
        (λ ne. record_at-with_other n records content key ne ∙ sym (put-elsewhere (Some content) (take n content) ne))

    -- and once one is taken away
    pub record_at-without : (gone : List ℕ)
        → record_at n (without_key n records gone) key ≡ cond (is_eq (key_cmp key gone)) None (record_at n records key)
    record_at-without gone =
        let now : List (List ℕ) = without_key n records gone in
        key_is (record_at n now key ≡ Put None gone) key gone
        (λ is. ap (record_at n now) is ∙ (record_at-without_key n records gone ∙ sym (put-at None gone is)))
        (λ ne. record_at-without_other n records gone key ne ∙ sym (put-elsewhere None gone ne))

-- The content is that of the next record behind the key: it is there at its key, it is above the key, and no key
-- between the two has a record.
pub record IsNext (n : ℕ) (records : List (List ℕ)) (key content : List ℕ) : Type 0 where
  pub there : record_at n records (take n content) ≡ Some content
  pub after : Precedes key (take n content)
  pub least : (j : List ℕ) → Precedes key j → Precedes j (take n content) → record_at n records j ≡ None

-- a key that no record has
none_at : (n : ℕ) (records : List (List ℕ)) (key : List ℕ)
    → ((other : List ℕ) → Contains records other → take n other ≡ key → ⊥) → record_at n records key ≡ None
none_at n records key never = at (record_at n records key) refl
  where
    at : (r : Option (List ℕ)) → record_at n records key ≡ r → r ≡ None
    at None is = refl
    at (Some other) is = let found = record_at-found n records key other is in absurd (never other found.0 found.1)

module _ (n : ℕ) (records : List (List ℕ)) (file : IsFile n records) where
  -- each record of a file is the one at its key
  pub record_at-contained : (content : List ℕ) → Contains records content
      → record_at n records (take n content) ≡ Some content
  record_at-contained content among =
      let at = at_from_Contains records content among in
      let same : HoldsAt (λ c. compared n (take n content) c ≡ Equal) records at.0 =
      λ d. subst (λ c. compared n (take n content) c ≡ Equal) (sym (at.2 d)) (cmp-itself (take n content)) in
      let found = found_at n records file (take n content) at.0 at.1 same in
      sym found.here ∙ slice_get-get_or records at.0 [] at.1 ∙ ap Some (at.2 [])

  -- the record that is found after a key is the next one behind it
  pub next-found : (key content : List ℕ) → record_after n records key ≡ Some content → IsNext n records key content
  next-found key content h =
      let found = record_after-found n key records content h in
      let near : List ℕ → Type 0 = λ other.
      is_gt (compared n key other) ≡ true → is_lt (key_cmp (take n other) (take n content)) ≡ false in
      let nearest : All near records = record_after-nearest n key records content file h in
      record {
        there = record_at-contained content found.0;
        after = above-Precedes key (take n content) found.1;
        least = λ j above below. none_at n records j
            (λ other among is.
            let up : is_gt (compared n key other) ≡ true =
            ap is_gt (Precedes-above key (take n other) (subst (Precedes key) (sym is) above)) in
            let down : is_lt (key_cmp (take n other) (take n content)) ≡ true =
            ap is_lt (subst (λ k. Precedes k (take n content)) (sym is) below) in
            absurd (cc (All-contains near records other nearest among up, down)));
      }

-- where none is found, no key above has a record
pub next-missing : (n : ℕ) (records : List (List ℕ)) (key : List ℕ) → record_after n records key ≡ None
    → (j : List ℕ) → Precedes key j → record_at n records j ≡ None
next-missing n records key h j above =
    let low : List ℕ → Type 0 = λ content. is_gt (compared n key content) ≡ false in
    let all_low : All low records = record_after-missing n key records h in
    none_at n records j
    (λ other among is.
    let up : is_gt (compared n key other) ≡ true =
    ap is_gt (Precedes-above key (take n other) (subst (Precedes key) (sym is) above)) in
    absurd (cc (All-contains low records other all_low among, up)))
