-- Records that are put back at two keys, one after the other.
use Rattle.std.proofs.Common.{◌≡◌, ◌≢◌, ℕ, Bool, true, false, cond, List, [], ◌∷◌, ◌++◌, take, Option, Some, None, refl, sym, ap, ◌∙◌, append_assoc}
use Rattle.std.specs.Prelude.{filter}
use Rattle.std.specs.declared.cmp.Ordering.{Ordering}
use Rattle.std.specs.declared.cmp.Ordering.TheVariants.{Less, Equal, Greater}
use Rattle.std.specs.FinMap.{nat_cmp-IsAntisymmetric, slice_cmp-IsAntisymmetric}
use Rattle.std.specs.Ordering.{is_gt, is_lt, ordering_reverse}
use Rattle.std.proofs.lemmas.Cmp.{nat_list_cmp_total}
use Rattle.std.proofs.lemmas.List.{append-nil}
use Rattle.std.proofs.lemmas.List.Elements.{filter-append}
use Rattle.pw_base.proofs.Plain.{is_lt-Less}
use Rattle.pw_files.proofs.RecordLemmas.{gt_is}
use Rattle.pw_files.specs.Records.{above, below, key_cmp}
use Rattle.pw_paired.specs.Units.{put_back}
use Rattle.pw_tmf.specs.Leaving.{HasKey}

-- ---- two tests of one list

module _ {X : Type 0} (p q : X → Bool) where
  -- what passes the first passes the second
  pub more-pass : ((x : X) → p x ≡ true → q x ≡ true) → (xs : List X) → filter q (filter p xs) ≡ filter p xs
  more-pass more [] = refl
  more-pass more (x ∷ xs) =
      elim (p x) as (λ b. p x ≡ b → filter q (cond b (x ∷ filter p xs) (filter p xs)) ≡ cond b (x ∷ filter p xs) (filter p xs)) [
        | true ↦ λ is. ap (λ b. cond b (x ∷ filter q (filter p xs)) (filter q (filter p xs))) (more x is) ∙ ap (λ ys. x ∷ ys) (more-pass more xs)
        | false ↦ λ is. more-pass more xs
      ] refl

  -- what passes the first does not pass the second
  pub none-pass : ((x : X) → p x ≡ true → q x ≡ false) → (xs : List X) → filter q (filter p xs) ≡ []
  none-pass none [] = refl
  none-pass none (x ∷ xs) =
      elim (p x) as (λ b. p x ≡ b → filter q (cond b (x ∷ filter p xs) (filter p xs)) ≡ []) [
        | true ↦ λ is. ap (λ b. cond b (x ∷ filter q (filter p xs)) (filter q (filter p xs))) (none x is) ∙ none-pass none xs
        | false ↦ λ is. none-pass none xs
      ] refl

  either-step : (x : X) (xs : List X) (b c : Bool) → p x ≡ b → q x ≡ c → filter p (filter q xs) ≡ filter q (filter p xs)
      → filter p (cond c (x ∷ filter q xs) (filter q xs)) ≡ filter q (cond b (x ∷ filter p xs) (filter p xs))
  either-step x xs true true is too rest =
      ap (λ b. cond b (x ∷ filter p (filter q xs)) (filter p (filter q xs))) is ∙ ap (λ ys. x ∷ ys) rest ∙ sym (ap (λ b. cond b (x ∷ filter q (filter p xs)) (filter q (filter p xs))) too)
  either-step x xs true false is too rest = rest ∙ sym (ap (λ b. cond b (x ∷ filter q (filter p xs)) (filter q (filter p xs))) too)
  either-step x xs false true is too rest = ap (λ b. cond b (x ∷ filter p (filter q xs)) (filter p (filter q xs))) is ∙ rest
  either-step x xs false false is too rest = rest

  -- either one comes first
  pub either-first : (xs : List X) → filter p (filter q xs) ≡ filter q (filter p xs)
  either-first [] = refl
  either-first (x ∷ xs) = either-step x xs (p x) (q x) refl refl (either-first xs)

-- ---- lists that lie round two places

-- what is below a place, these, and what is above it
abbrev around : {X : Type 0} → (X → Bool) → (X → Bool) → List X → List X → List X
around below above these xs = filter below xs ++ (these ++ filter above xs)

three-parts : {X : Type 0} (f : X → Bool) (xs ys zs : List X) → filter f (xs ++ (ys ++ zs)) ≡ filter f xs ++ (filter f ys ++ filter f zs)
three-parts f xs ys zs = filter-append f xs (ys ++ zs) ∙ ap (λ t. filter f xs ++ t) (filter-append f ys zs)

module _ {X : Type 0} (low above_low high_below high : X → Bool)
    (lower : (x : X) → low x ≡ true → high_below x ≡ true) (higher : (x : X) → high x ≡ true → above_low x ≡ true)
    (apart : (x : X) → low x ≡ true → high x ≡ false) (apart_high : (x : X) → high x ≡ true → low x ≡ false)
    (first second : List X) (first_below : filter high_below first ≡ first) (first_not : filter high first ≡ [])
    (second_above : filter above_low second ≡ second) (second_not : filter low second ≡ []) (xs : List X) where
  between : List X
  between = filter high_below (filter above_low xs)

  -- the lower place first, or the higher one
  twice : around high_below high second (around low above_low first xs) ≡ around low above_low first (around high_below high second xs)
  unfolding between
  twice =
      let below_high : filter high_below (around low above_low first xs) ≡ filter low xs ++ (first ++ between) =
      three-parts high_below (filter low xs) first (filter above_low xs)
      ∙ ap (λ t. t ++ (filter high_below first ++ between)) (more-pass low high_below lower xs)
      ∙ ap (λ t. filter low xs ++ (t ++ between)) first_below in
      let above_high : filter high (around low above_low first xs) ≡ filter high xs =
      three-parts high (filter low xs) first (filter above_low xs)
      ∙ ap (λ t. t ++ (filter high first ++ filter high (filter above_low xs))) (none-pass low high apart xs)
      ∙ ap (λ t. t ++ filter high (filter above_low xs)) first_not
      ∙ (either-first high above_low xs ∙ more-pass high above_low higher xs) in
      let below_low : filter low (around high_below high second xs) ≡ filter low xs =
      three-parts low (filter high_below xs) second (filter high xs)
      ∙ ap (λ t. t ++ (filter low second ++ filter low (filter high xs))) (either-first low high_below xs ∙ more-pass low high_below lower xs)
      ∙ ap (λ t. filter low xs ++ (t ++ filter low (filter high xs))) second_not
      ∙ ap (λ t. filter low xs ++ t) (none-pass high low apart_high xs)
      ∙ append-nil (filter low xs) in
      let above_of_low : filter above_low (around high_below high second xs) ≡ between ++ (second ++ filter high xs) =
      three-parts above_low (filter high_below xs) second (filter high xs)
      ∙ ap (λ t. t ++ (filter above_low second ++ filter above_low (filter high xs))) (either-first above_low high_below xs)
      ∙ ap (λ t. between ++ (t ++ filter above_low (filter high xs))) second_above
      ∙ ap (λ t. between ++ (second ++ t)) (more-pass high above_low higher xs) in
      ap (λ t. t ++ (second ++ filter high (around low above_low first xs))) below_high
      ∙ ap (λ t. (filter low xs ++ (first ++ between)) ++ (second ++ t)) above_high
      ∙ append_assoc (filter low xs) (first ++ between) (second ++ filter high xs)
      ∙ ap (λ t. filter low xs ++ t) (append_assoc first between (second ++ filter high xs))
      ∙ sym (ap (λ t. t ++ (first ++ filter above_low (around high_below high second xs))) below_low
      ∙ ap (λ t. filter low xs ++ (first ++ t)) above_of_low)

-- ---- records round two keys

-- the records round a key, with these between them
abbrev placed : ℕ → List ℕ → List (List ℕ) → List (List ℕ) → List (List ℕ)
placed n key these records = below n records key ++ (these ++ above n records key)

-- a content, if any, as a list
abbrev one_or_none : Option (List ℕ) → List (List ℕ)
one_or_none None = []
one_or_none (Some content) = content ∷ []

one-passes : (f : Ordering → Bool) (n : ℕ) (own key : List ℕ) (content : Option (List ℕ)) → HasKey n own content → f (key_cmp own key) ≡ true → filter (λ c. f (key_cmp (take n c) key)) (one_or_none content) ≡ one_or_none content
one-passes f n own key None of is = refl
one-passes f n own key (Some content) of is = ap (λ b. cond b (content ∷ []) []) (ap (λ k. f (key_cmp k key)) of ∙ is)

one-fails : (f : Ordering → Bool) (n : ℕ) (own key : List ℕ) (content : Option (List ℕ)) → HasKey n own content → f (key_cmp own key) ≡ false → filter (λ c. f (key_cmp (take n c) key)) (one_or_none content) ≡ []
one-fails f n own key None of is = refl
one-fails f n own key (Some content) of is = ap (λ b. cond b (content ∷ []) []) (ap (λ k. f (key_cmp k key)) of ∙ is)

module _ (n : ℕ) (a b : List ℕ) (first second : Option (List ℕ)) (of_a : HasKey n a first) (of_b : HasKey n b second) (records : List (List ℕ)) where
  lower-first : key_cmp a b ≡ Less → placed n b (one_or_none second) (placed n a (one_or_none first) records) ≡ placed n a (one_or_none first) (placed n b (one_or_none second) records)
  lower-first less =
      let back : key_cmp b a ≡ Greater = nat_list_cmp_total.antisymm b a ∙ ap ordering_reverse less in
      twice (λ c. is_lt (key_cmp (take n c) a)) (λ c. is_gt (key_cmp (take n c) a)) (λ c. is_lt (key_cmp (take n c) b)) (λ c. is_gt (key_cmp (take n c) b))
      (λ c is. ap is_lt (nat_list_cmp_total.trans (take n c) a b (is_lt-Less (key_cmp (take n c) a) is) less))
      (λ c is.
      let turned : key_cmp b (take n c) ≡ Less = nat_list_cmp_total.antisymm b (take n c) ∙ ap ordering_reverse (gt_is (key_cmp (take n c) b) is) in
      ap is_gt (nat_list_cmp_total.antisymm (take n c) a ∙ ap ordering_reverse (nat_list_cmp_total.trans a b (take n c) less turned)))
      (λ c is. ap is_gt (nat_list_cmp_total.trans (take n c) a b (is_lt-Less (key_cmp (take n c) a) is) less))
      (λ c is.
      let turned : key_cmp b (take n c) ≡ Less = nat_list_cmp_total.antisymm b (take n c) ∙ ap ordering_reverse (gt_is (key_cmp (take n c) b) is) in
      ap is_lt (nat_list_cmp_total.antisymm (take n c) a ∙ ap ordering_reverse (nat_list_cmp_total.trans a b (take n c) less turned)))
      (one_or_none first) (one_or_none second)
      (one-passes is_lt n a b first of_a (ap is_lt less)) (one-fails is_gt n a b first of_a (ap is_gt less))
      (one-passes is_gt n b a second of_b (ap is_gt back)) (one-fails is_lt n b a second of_b (ap is_lt back))
      records

-- of two keys either may be first
either-key : (n : ℕ) (a b : List ℕ) (first second : Option (List ℕ)) → HasKey n a first → HasKey n b second → a ≢ b → (records : List (List ℕ))
    → placed n b (one_or_none second) (placed n a (one_or_none first) records) ≡ placed n a (one_or_none first) (placed n b (one_or_none second) records)
either-key n a b first second of_a of_b ne records =
    elim (key_cmp a b) as (λ o. key_cmp a b ≡ o → placed n b (one_or_none second) (placed n a (one_or_none first) records) ≡ placed n a (one_or_none first) (placed n b (one_or_none second) records)) [
      | Less ↦ λ is. lower-first n a b first second of_a of_b records is
      | Equal ↦ λ is. absurd (ne (slice_cmp-IsAntisymmetric nat_cmp-IsAntisymmetric a b is))
      | Greater ↦ λ is. sym (lower-first n b a second first of_b of_a records (nat_list_cmp_total.antisymm b a ∙ ap ordering_reverse is))
    ] refl

put-placed : (n : ℕ) (records : List (List ℕ)) (key : List ℕ) (content : Option (List ℕ)) → HasKey n key content → put_back n records key content ≡ placed n key (one_or_none content) records
put-placed n records key None of = refl
put-placed n records key (Some content) of = ap (λ k. below n records k ++ content ∷ above n records k) of

-- what is put back at two keys is put back in either order
pub put-either : (n : ℕ) (a b : List ℕ) (first second : Option (List ℕ)) → HasKey n a first → HasKey n b second → a ≢ b → (records : List (List ℕ))
    → put_back n (put_back n records a first) b second ≡ put_back n (put_back n records b second) a first
put-either n a b first second of_a of_b ne records =
    put-placed n (put_back n records a first) b second of_b
    ∙ ap (placed n b (one_or_none second)) (put-placed n records a first of_a)
    ∙ either-key n a b first second of_a of_b ne records
    ∙ sym (put-placed n (put_back n records b second) a first of_a ∙ ap (placed n a (one_or_none first)) (put-placed n records b second of_b))
