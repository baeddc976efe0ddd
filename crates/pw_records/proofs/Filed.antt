-- Records that are a file are what is put, one after the other, and have distinct keys.
use Rattle.std.proofs.Common.{◌≡◌, ℕ, ◌∙◌, sym, ap, subst, refl, true, false, Bool, List, [], ◌∷◌, ◌++◌, map, take}
use Rattle.std.specs.Prelude.{fold}
use Rattle.std.specs.List.{AllByRecursion, IsDistinct}
use Rattle.std.specs.List.Sorted.{IsStrictlySortedBy}
use Rattle.std.specs.Ordering.{ordering_reverse}
use Rattle.std.specs.Str.{bytes_eq}
use Rattle.std.specs.declared.cmp.Ordering.{Ordering}
use Rattle.std.specs.declared.cmp.Ordering.TheVariants.{Less, Equal, Greater}
use Rattle.std.proofs.lemmas.Cmp.{nat_list_cmp_total}
use Rattle.std.proofs.lemmas.List.{append_assoc, append-nil}
use Rattle.std.proofs.lemmas.Slice.Eq.{bytes_eq-Decides}
use Rattle.pw_base.proofs.Plain.{all-last, all-weaker}
use Rattle.pw_code.specs.Valid.{IsDeckFile}
use Rattle.pw_code.specs.declared.file.FileInfo.{FileInfo}
use Rattle.pw_files.specs.Records.{IsFile, above, below, key_cmp, with_record}

-- ---- keys that rise are distinct

not-less : (o : Ordering) → o ≡ ordering_reverse o → o ≡ Less → ⊥
not-less Less same less = cc
not-less Equal same less = cc
not-less Greater same less = cc

apart : (x y : List ℕ) → key_cmp x y ≡ Less → bytes_eq x y ≡ false
apart x y less = by (bytes_eq x y) refl
  where
    by : (b : Bool) → bytes_eq x y ≡ b → b ≡ false
    by false is = refl
    by true is =
        let one : x ≡ y = (bytes_eq-Decides x y).0 is in
        absurd (not-less (key_cmp x x) (nat_list_cmp_total.antisymm x x) (subst (λ (k : List ℕ). key_cmp x k ≡ Less) (sym one) less))

pub rising-distinct : (keys : List (List ℕ)) → IsStrictlySortedBy key_cmp keys → IsDistinct bytes_eq keys
unfolding IsStrictlySortedBy IsDistinct
rising-distinct [] rise = tt
rising-distinct (k ∷ keys) rise =
    (all-weaker (λ (y : List ℕ). key_cmp k y ≡ Less) (λ (y : List ℕ). bytes_eq k y ≡ false) (apart k) keys rise.0, rising-distinct keys rise.1)

-- the files of a system with records that are a file
pub deck-file : (file : FileInfo) (records : List (List ℕ)) → IsFile file.key records → IsDeckFile (record file { records = records })
deck-file file records is = record {
  key = is.key;
  contents = is.contents;
  distinct = rising-distinct (map (λ content. take file.key content) records) is.order;
}

-- ---- what is put in order

module _ (n : ℕ) where
  -- each of these has its key below that of a record
  abbrev AreBelow : List ℕ → List (List ℕ) → Type 0
  AreBelow content records = AllByRecursion (λ (one : List ℕ). key_cmp (take n one) (take n content) ≡ Less) records

  all-below : (content : List ℕ) (records : List (List ℕ)) → AreBelow content records → below n records (take n content) ≡ records
  all-below content [] low = refl
  all-below content (one ∷ records) low = rw low.0 (ap (λ (rest : List (List ℕ)). one ∷ rest) (all-below content records low.1))

  none-above : (content : List ℕ) (records : List (List ℕ)) → AreBelow content records → above n records (take n content) ≡ []
  none-above content [] low = refl
  none-above content (one ∷ records) low = rw low.0 (none-above content records low.1)

  put-last : (content : List ℕ) (records : List (List ℕ)) → AreBelow content records → with_record n records content ≡ records ++ content ∷ []
  put-last content records low =
      ap (λ (front : List (List ℕ)). front ++ content ∷ above n records (take n content)) (all-below content records low)
      ∙ ap (λ (rest : List (List ℕ)). records ++ content ∷ rest) (none-above content records low)

  -- each record behind has these below it
  abbrev AreAllBelow : List (List ℕ) → List (List ℕ) → Type 0
  AreAllBelow front [] = Unit {0}
  AreAllBelow front (content ∷ rest) = AreBelow content front × AreAllBelow (front ++ content ∷ []) rest

  put-rest : (front rest : List (List ℕ)) → AreAllBelow front rest → fold (with_record n) front rest ≡ front ++ rest
  put-rest front [] low = sym (append-nil front)
  put-rest front (content ∷ rest) low =
      ap (λ (records : List (List ℕ)). fold (with_record n) records rest) (put-last content front low.0)
      ∙ put-rest (front ++ content ∷ []) rest low.1
      ∙ append_assoc front (content ∷ []) rest

  -- those behind have the record before them below them too
  each-more : (front : List (List ℕ)) (content : List ℕ) (rest : List (List ℕ)) → AllByRecursion (λ (c : List ℕ). AreBelow c front) rest
      → AllByRecursion (λ (k : List ℕ). key_cmp (take n content) k ≡ Less) (map (λ c. take n c) rest)
      → AllByRecursion (λ (c : List ℕ). AreBelow c (front ++ content ∷ [])) rest
  each-more front content [] each rise = tt
  each-more front content (c ∷ rest) each rise =
      (all-last (λ (one : List ℕ). key_cmp (take n one) (take n c) ≡ Less) front content each.0 rise.0, each-more front content rest each.1 rise.1)

  rest-low : (front rest : List (List ℕ)) → AllByRecursion (λ (c : List ℕ). AreBelow c front) rest
      → IsStrictlySortedBy key_cmp (map (λ c. take n c) rest) → AreAllBelow front rest
  unfolding IsStrictlySortedBy
  rest-low front [] each rise = tt
  rest-low front (content ∷ rest) each rise =
      (each.0, rest-low (front ++ content ∷ []) rest (each-more front content rest each.1 rise.0) rise.1)

  none-before : (rest : List (List ℕ)) → AllByRecursion (λ (c : List ℕ). AreBelow c []) rest
  none-before [] = tt
  none-before (c ∷ rest) = (tt, none-before rest)

  -- records that are a file, put in order, are these
  pub put-file : (records : List (List ℕ)) → IsFile n records → fold (with_record n) [] records ≡ records
  put-file records is = put-rest [] records (rest-low [] records (none-before records) is.order)
