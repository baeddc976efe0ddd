-- A file stays a file when a record is put or taken away.
use Rattle.std.proofs.Common.{◌≡◌, ℕ, ◌∙◌, sym, ap, subst, refl, true, List, [], ◌∷◌, ◌++◌, map, take}
use Rattle.std.specs.Prelude.{filter}
use Rattle.std.specs.List.{AllByRecursion}
use Rattle.std.specs.List.Sorted.{IsStrictlySortedBy}
use Rattle.std.specs.Ordering.{is_lt, is_gt, ordering_reverse}
use Rattle.std.specs.declared.cmp.Ordering.{Ordering}
use Rattle.std.specs.declared.cmp.Ordering.TheVariants.{Less, Equal, Greater}
use Rattle.std.proofs.lemmas.Cmp.{nat_list_cmp_total}
use Rattle.std.proofs.lemmas.List.{map-append}
use Rattle.std.proofs.lemmas.List.Elements.{filter_passes, recursion_from_All, All-weaker, All-append, All-cons, All-filter, All-nil}
use Rattle.std.proofs.lemmas.List.Kept.{IsStrictlySortedBy-filter}
use Rattle.pw_base.proofs.Plain.{is_lt-Less}
use Rattle.pw_files.specs.Records.{key_cmp, below, above, with_record, without_key, IsFile, IsContent, IsKeyLength}
use Rattle.pw_files.proofs.Lists.{map-filter, sorted-append, sorted-around}

-- what the test for greater says
pub gt_is : (o : Ordering) → is_gt o ≡ true → o ≡ Greater
gt_is Less h = cc
gt_is Equal h = cc
gt_is Greater h = refl

-- a key that is above another has it below
turned : (a b : List ℕ) → is_gt (key_cmp a b) ≡ true → key_cmp b a ≡ Less
turned a b h = nat_list_cmp_total.antisymm b a ∙ ap ordering_reverse (gt_is (key_cmp a b) h)

-- no records are a file
pub IsFile-empty : (n : ℕ) → IsKeyLength n → IsFile n []
unfolding IsStrictlySortedBy
IsFile-empty n h = record {
  key = h;
  contents = All-nil (IsContent n);
  order = tt;
}

module _ (n : ℕ) (records : List (List ℕ)) (file : IsFile n records) (key : List ℕ) where
  keys : List (List ℕ)
  keys = map (λ content. take n content) records

  low : List (List ℕ)
  low = filter (λ k. is_lt (key_cmp k key)) keys

  high : List (List ℕ)
  high = filter (λ k. is_gt (key_cmp k key)) keys

  low-sorted : IsStrictlySortedBy key_cmp low
  unfolding low keys
  low-sorted = IsStrictlySortedBy-filter key_cmp (λ k. is_lt (key_cmp k key)) keys file.order

  high-sorted : IsStrictlySortedBy key_cmp high
  unfolding high keys
  high-sorted = IsStrictlySortedBy-filter key_cmp (λ k. is_gt (key_cmp k key)) keys file.order

  low-below : AllByRecursion (λ k. key_cmp k key ≡ Less) low
  unfolding low
  low-below =
      recursion_from_All (λ k. key_cmp k key ≡ Less) low
      (All-weaker (λ k. is_lt (key_cmp k key) ≡ true) (λ k. key_cmp k key ≡ Less) (λ k. is_lt-Less (key_cmp k key)) low
      (filter_passes (λ k. is_lt (key_cmp k key)) keys))

  high-above : AllByRecursion (λ k. key_cmp key k ≡ Less) high
  unfolding high
  high-above =
      recursion_from_All (λ k. key_cmp key k ≡ Less) high
      (All-weaker (λ k. is_gt (key_cmp k key) ≡ true) (λ k. key_cmp key k ≡ Less) (λ k. turned k key) high
      (filter_passes (λ k. is_gt (key_cmp k key)) keys))

  -- without a record it is still a file
  pub IsFile-without_key : IsFile n (without_key n records key)
  unfolding low high keys
  IsFile-without_key = record {
    key = file.key;
    contents = All-append (IsContent n) (below n records key) (above n records key) (All-filter _ (IsContent n) records file.contents) (All-filter _ (IsContent n) records file.contents);
    order =
        let f : List ℕ → List ℕ = λ content. take n content in
        let lower : map f (below n records key) ≡ low = map-filter f (λ k. is_lt (key_cmp k key)) records in
        let upper : map f (above n records key) ≡ high = map-filter f (λ k. is_gt (key_cmp k key)) records in
        subst (IsStrictlySortedBy key_cmp) (sym (map-append f (below n records key) (above n records key) ∙ ap (λ ks. ks ++ map f (above n records key)) lower ∙ ap (λ ks. low ++ ks) upper))
        (sorted-append key_cmp nat_list_cmp_total key low high low-sorted high-sorted low-below high-above);
  }

-- with a record in its place it is still a file
pub IsFile-with_record : (n : ℕ) (records : List (List ℕ)) → IsFile n records → (content : List ℕ) → IsContent n content → IsFile n (with_record n records content)
unfolding low high keys
IsFile-with_record n records file content fits =
    let key : List ℕ = take n content in
    record {
      key = file.key;
      contents = All-append (IsContent n) (below n records key) (content ∷ above n records key) (All-filter _ (IsContent n) records file.contents) (All-cons (IsContent n) content (above n records key) fits (All-filter _ (IsContent n) records file.contents));
      order =
          let f : List ℕ → List ℕ = λ content. take n content in
          let lower : map f (below n records key) ≡ low n records file key = map-filter f (λ k. is_lt (key_cmp k key)) records in
          let upper : map f (above n records key) ≡ high n records file key = map-filter f (λ k. is_gt (key_cmp k key)) records in
          subst (IsStrictlySortedBy key_cmp) (sym (map-append f (below n records key) (content ∷ above n records key) ∙ ap (λ ks. ks ++ key ∷ map f (above n records key)) lower ∙ ap (λ ks. low n records file key ++ key ∷ ks) upper))
          (sorted-around key_cmp nat_list_cmp_total key (low n records file key) (high n records file key) (low-sorted n records file key) (high-sorted n records file key) (low-below n records file key) (high-above n records file key));
    }
