-- Files with the same records at some keys are alike there.
use Rattle.std.proofs.Common.{◌≡◌, ℕ, refl, sym, ◌∙◌, ap, ap₂, subst, List, [], ◌∷◌, map, take, Option, Some, None}
use Rattle.std.specs.List.{AllByRecursion}
use Rattle.std.specs.List.Sorted.{IsStrictlySortedBy}
use Rattle.std.specs.declared.cmp.Ordering.TheVariants.{Less}
use Rattle.std.proofs.lemmas.Cmp.{nat_list_cmp_total}
use Rattle.pw_files.specs.Records.{key_cmp, record_at, record_after, IsFile}
use Rattle.pw_laws.proofs.seeing.FoundRecords.{key_cases, key_is, record_at-here, record_at-past, record_at-below, next-found, next-missing}
use Rattle.pw_locks.proofs.Order.{not-itself, not-both-ways}
use Rattle.pw_locks.specs.Spans.{Precedes, Covers}
use Rattle.pw_locks.specs.declared.span.Span.TheVariants.{After}
use Rattle.pw_onecopy.specs.Operation.{found_key}

module _ (n : ℕ) where
  -- the keys of the records rise
  abbrev IsRising : List (List ℕ) → Type 0
  IsRising records = IsStrictlySortedBy key_cmp (map (λ content. take n content) records)

  -- the keys of the records are all above this one
  abbrev AreAbove : List ℕ → List (List ℕ) → Type 0
  AreAbove key records = AllByRecursion (λ k. key_cmp key k ≡ Less) (map (λ content. take n content) records)

  -- the same record, or none, is at each key of both
  abbrev HaveSame : List (List ℕ) → List (List ℕ) → Type 0
  HaveSame a b = (key : List ℕ) → record_at n a key ≡ record_at n b key

  rising_parts : (x : List ℕ) (xs : List (List ℕ)) → IsRising (x ∷ xs) → AreAbove (take n x) xs × IsRising xs
  unfolding IsStrictlySortedBy
  rising_parts x xs h = h

  further : (key other : List ℕ) (records : List (List ℕ)) → Precedes key other → AreAbove other records
      → AreAbove key records
  further key other [] below h = tt
  further key other (x ∷ xs) below h =
      (nat_list_cmp_total.trans key other (take n x) below h.0, further key other xs below h.1)

  -- a key below the first one has no record
  none_first : (y : List ℕ) (ys : List (List ℕ)) (key : List ℕ) → AreAbove (take n y) ys → Precedes key (take n y)
      → record_at n (y ∷ ys) key ≡ None
  none_first y ys key h below = record_at-below n key (y ∷ ys) (below, further key (take n y) ys below h)

  -- the records behind an equal first one
  same_rest : (x : List ℕ) (xs ys : List (List ℕ)) → AreAbove (take n x) xs → AreAbove (take n x) ys
      → HaveSame (x ∷ xs) (x ∷ ys) → HaveSame xs ys
  same_rest x xs ys low high h key =
      key_is (record_at n xs key ≡ record_at n ys key) (take n x) key
      (λ is.
      let none : record_at n xs (take n x) ≡ record_at n ys (take n x) =
      record_at-below n (take n x) xs low ∙ sym (record_at-below n (take n x) ys high) in
      subst (λ k. record_at n xs k ≡ record_at n ys k) is none)
      (λ ne. sym (record_at-past n x xs key ne) ∙ (h key ∙ record_at-past n x ys key ne))

  rising_same : (a b : List (List ℕ)) → IsRising a → IsRising b → HaveSame a b → a ≡ b
  rising_same [] [] p q h = refl
  rising_same [] (y ∷ ys) p q h =
      let is = record_at-here n y ys in
      let too : None ≡ record_at n (y ∷ ys) (take n y) = h (take n y) in
      absurd (cc (is, too))
  rising_same (x ∷ xs) [] p q h =
      let is = record_at-here n x xs in
      let too : record_at n (x ∷ xs) (take n x) ≡ None = h (take n x) in
      absurd (cc (is, too))
  rising_same (x ∷ xs) (y ∷ ys) p q h =
      let low = rising_parts x xs p in
      let high = rising_parts y ys q in
      let left = record_at-here n x xs in
      let right = record_at-here n y ys in
      key_cases (◌≡◌ {A = List (List ℕ)} (x ∷ xs) (y ∷ ys)) (take n x) (take n y)
      (λ below. absurd (cc (left, none_first y ys (take n x) high.0 below, h (take n x))))
      (λ is.
      let at : record_at n (y ∷ ys) (take n x) ≡ Some y = ap (record_at n (y ∷ ys)) is ∙ right in
      let both : Some x ≡ Some y = sym left ∙ (h (take n x) ∙ at) in
      let first : y ≡ x = cc in
      let above : AreAbove (take n x) ys = subst (λ k. AreAbove k ys) (sym is) high.0 in
      let rest : HaveSame xs ys =
      same_rest x xs ys low.0 above (λ key. h key ∙ ap (λ z. record_at n (z ∷ ys) key) first) in
      ap₂ (λ z zs. z ∷ zs) (sym first) (rising_same xs ys low.1 high.1 rest))
      (λ above. absurd (cc (right, none_first x xs (take n y) low.0 above, h (take n y))))

module _ (n : ℕ) (a b : List (List ℕ)) (file : IsFile n a) (other : IsFile n b) where
  -- files that have the same record at each key are the same
  pub same_files : ((key : List ℕ) → record_at n a key ≡ record_at n b key) → a ≡ b
  same_files h = rising_same n a b file.order other.order h

  module _ (low : List ℕ) where
    after_same : (r : Option (List ℕ)) → record_after n a low ≡ r
        → ((key : List ℕ) → Covers (After low (found_key n r)) key → record_at n a key ≡ record_at n b key)
        → (s : Option (List ℕ)) → record_after n b low ≡ s → r ≡ s
    after_same None is same None too = refl
    after_same None is same (Some d) too =
        let next = next-found n b other low d too in
        let none = next-missing n a low is (take n d) next.after in
        absurd (cc (none, next.there, same (take n d) (next.after, tt)))
    after_same (Some c) is same None too =
        let next = next-found n a file low c is in
        let none = next-missing n b low too (take n c) next.after in
        absurd (cc (none, next.there, same (take n c) (next.after, not-itself (take n c))))
    after_same (Some c) is same (Some d) too =
        let next = next-found n a file low c is in
        let second = next-found n b other low d too in
        let at_c = same (take n c) (next.after, not-itself (take n c)) in
        key_cases (◌≡◌ {A = Option (List ℕ)} (Some c) (Some d)) (take n c) (take n d)
        (λ below. absurd (cc (second.least (take n c) next.after below, next.there, at_c)))
        (λ key. sym next.there ∙ (at_c ∙ (ap (record_at n b) key ∙ second.there)))
        (λ above.
        let none = next.least (take n d) second.after above in
        let at_d = same (take n d) (second.after, not-both-ways (take n d) (take n c) above) in
        absurd (cc (none, second.there, at_d)))

    -- what READ NEXT finds is fixed by the records at the keys that it locks
    pub same_after : ((key : List ℕ) → Covers (After low (found_key n (record_after n a low))) key
        → record_at n a key ≡ record_at n b key)
        → record_after n a low ≡ record_after n b low
    same_after same = after_same (record_after n a low) refl same (record_after n b low) refl
