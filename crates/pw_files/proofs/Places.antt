-- What a binary search by key found, in records whose keys rise.
use Rattle.std.proofs.Common.{◌≡◌, ℕ, suc, ◌+◌, ◌<◌, ◌≤◌, ◌∙◌, sym, ap, refl, arith, true, false, Bool, List, [], ◌∷◌, ◌++◌, map, take, drop, length, get_or, Some, Result, Ok, Err, cond, length-take, length-drop, get_or-take, get_or-drop}
use Rattle.std.specs.Prelude.{filter, slice_get, All, is_some, HoldsAt}
use Rattle.std.specs.List.Sorted.{IsPartitionPoint, IsNonDecreasingBy, IsBinarySearchResult, IsSearchInRange}
use Rattle.std.specs.Ordering.{is_lt, is_eq, is_gt, ordering_reverse, ordering_index}
use Rattle.std.specs.declared.cmp.Ordering.{Ordering}
use Rattle.std.specs.declared.cmp.Ordering.TheVariants.{Less, Equal, Greater}
use Rattle.std.proofs.lemmas.Cmp.{nat_list_cmp_total}
use Rattle.std.proofs.lemmas.List.{append-nil, take-append-drop, drop_more, get_or-map, length-map}
use Rattle.std.proofs.lemmas.List.Elements.{filter-append, All-weaker, All-cons}
use Rattle.std.proofs.lemmas.List.Sorted.{searchable_from_sorted}
use Rattle.std.proofs.lemmas.Map.Keys.{Less-from_sorted}
use Rattle.std.proofs.lemmas.Map.Lookups.{exact_bytes}
use Rattle.std.proofs.lemmas.Option.{slice_get-get_or}
use Rattle.pw_files.specs.Records.{key_cmp, compared, below, above, record_at, IsFile}
use Rattle.pw_files.specs.Places.{IsRecordAt, IsMissing, IsRecordPlace}
use Rattle.pw_files.proofs.Lists.{filter_all, filter_none, find_none, find-append}

-- a test that all of the first part passes and none of the second keeps the first
first_kept : {X : Type 0} (p : X → Bool) (xs ys : List X) → All (λ x. p x ≡ true) xs → All (λ y. p y ≡ false) ys → filter p (xs ++ ys) ≡ xs
first_kept p xs ys h k =
    filter-append p xs ys ∙ ap (λ zs. zs ++ filter p ys) (filter_all p xs h) ∙ ap (λ zs. xs ++ zs) (filter_none p ys k) ∙ append-nil xs

-- a test that none of the first part passes and all of the second keeps the second
second_kept : {X : Type 0} (p : X → Bool) (xs ys : List X) → All (λ x. p x ≡ false) xs → All (λ y. p y ≡ true) ys → filter p (xs ++ ys) ≡ ys
second_kept p xs ys h k =
    filter-append p xs ys ∙ ap (λ zs. zs ++ filter p ys) (filter_none p xs h) ∙ filter_all p ys k

module _ (n : ℕ) (key : List ℕ) where
  -- the contents of a list compare like this with the key
  abbrev AllAre : Ordering → List (List ℕ) → Type 0
  AllAre o xs = All (λ content. compared n key content ≡ o) xs

  -- so a test of that answers the same of all
  tested : (test : Ordering → Bool) (o : Ordering) (xs : List (List ℕ)) → AllAre o xs → All (λ content. test (compared n key content) ≡ test o) xs
  tested test o xs h = All-weaker (λ content. compared n key content ≡ o) (λ content. test (compared n key content) ≡ test o) (λ content e. ap test e) xs h

  -- the first part is below the key and the second above it
  pub missing_between : (xs ys : List (List ℕ)) → AllAre Less xs → AllAre Greater ys → (records : List (List ℕ)) (place : ℕ) → place ≤ length records → take place records ≡ xs → drop place records ≡ ys → IsMissing n records key place
  missing_between xs ys low high records place fits front back =
      let whole : records ≡ xs ++ ys = sym (take-append-drop place records) ∙ ap (λ zs. zs ++ drop place records) front ∙ ap (λ zs. xs ++ zs) back in
      record {
        within = fits;
        before = front ∙ sym (ap (λ rs. below n rs key) whole ∙ first_kept (λ content. is_lt (compared n key content)) xs ys (tested is_lt Less xs low) (tested is_lt Greater ys high));
        nowhere = ap (λ rs. record_at n rs key) whole ∙ find-append (λ content. is_eq (compared n key content)) xs ys (tested is_eq Less xs low) ∙ find_none (λ content. is_eq (compared n key content)) ys (tested is_eq Greater ys high);
        after = back ∙ sym (ap (λ rs. above n rs key) whole ∙ second_kept (λ content. is_gt (compared n key content)) xs ys (tested is_gt Less xs low) (tested is_gt Greater ys high));
      }

  -- the record with the key stands between the first part, which is below it, and the second, which is above it
  pub found_between : (xs ys : List (List ℕ)) (content : List ℕ) → AllAre Less xs → compared n key content ≡ Equal → AllAre Greater ys → (records : List (List ℕ)) (place : ℕ) → place < length records → take place records ≡ xs → drop place records ≡ content ∷ ys → slice_get records place ≡ Some content → drop (suc place) records ≡ ys → IsRecordAt n records key place
  found_between xs ys content low same high records place fits front back here after =
      let whole : records ≡ xs ++ content ∷ ys = sym (take-append-drop place records) ∙ ap (λ zs. zs ++ drop place records) front ∙ ap (λ zs. xs ++ zs) back in
      let found : record_at n records key ≡ Some content =
      ap (λ rs. record_at n rs key) whole ∙ find-append (λ c. is_eq (compared n key c)) xs (content ∷ ys) (tested is_eq Less xs low) ∙ ap (λ o. cond (is_eq o) (Some content) (record_at n ys key)) same in
      record {
        within = fits;
        before = front ∙ sym (ap (λ rs. below n rs key) whole ∙ first_kept (λ c. is_lt (compared n key c)) xs (content ∷ ys) (tested is_lt Less xs low) (All-cons (λ c. is_lt (compared n key c) ≡ false) content ys (ap is_lt same) (tested is_lt Greater ys high)));
        here = here ∙ sym found;
        is_there = ap is_some found;
        after = after ∙ sym (ap (λ rs. above n rs key) whole ∙ filter-append (λ c. is_gt (compared n key c)) xs (content ∷ ys) ∙ ap (λ zs. zs ++ above n (content ∷ ys) key) (filter_none (λ c. is_gt (compared n key c)) xs (tested is_gt Less xs low)) ∙ ap (λ o. cond (is_gt o) (content ∷ above n ys key) (above n ys key)) same ∙ filter_all (λ c. is_gt (compared n key c)) ys (tested is_gt Greater ys high));
      }

module _ (n : ℕ) (records : List (List ℕ)) (file : IsFile n records) where
  -- a key is below each later one
  rise : (i j : ℕ) (d : List ℕ) → i < j → j < length records → key_cmp (take n (get_or records i d)) (take n (get_or records j d)) ≡ Less
  rise i j d h k =
      let f : List ℕ → List ℕ = λ content. take n content in
      let within : j < length (map f records) = omega (arith, length-map records f) in
      let first : get_or (map f records) i [] ≡ f (get_or records i d) = get_or-map f records i d [] (omega arith) in
      let second : get_or (map f records) j [] ≡ f (get_or records j d) = get_or-map f records j d [] k in
      ap (λ a. key_cmp a (f (get_or records j d))) (sym first) ∙ ap (λ b. key_cmp (get_or (map f records) i []) b) (sym second) ∙ Less-from_sorted key_cmp (map f records) i j [] file.order h within

  -- and each later one is above it
  fall : (i j : ℕ) (d : List ℕ) → i < j → j < length records → key_cmp (take n (get_or records j d)) (take n (get_or records i d)) ≡ Greater
  fall i j d h k = nat_list_cmp_total.antisymm (take n (get_or records j d)) (take n (get_or records i d)) ∙ ap ordering_reverse (rise i j d h k)

  module _ (key : List ℕ) where
    -- the place of a content with the key
    pub found_at : (place : ℕ) → place < length records → HoldsAt (λ content. compared n key content ≡ Equal) records place → IsRecordAt n records key place
    found_at place fits same =
        let content : List ℕ = get_or records place [] in
        let later : place + 1 ≡ suc place = omega arith in
        let is_key : take n content ≡ key = exact_bytes (take n content) key (same []) in
        found_between n key (take place records) (drop (suc place) records) content
        (λ k d h.
        let near : k < place = omega (arith, length-take place records) in
        ap (λ c. compared n key c) (get_or-take place records k d near) ∙ ap (λ b. key_cmp (take n (get_or records k d)) b) (sym (exact_bytes (take n (get_or records place d)) key (same d))) ∙ rise k place d near fits)
        (same [])
        (λ k d h.
        let far : suc place + k < length records = omega (arith, length-drop (suc place) records) in
        ap (λ c. compared n key c) (get_or-drop (suc place) records k d) ∙ ap (λ b. key_cmp (take n (get_or records (suc place + k) d)) b) (sym (exact_bytes (take n (get_or records place d)) key (same d))) ∙ fall place (suc place + k) d (omega arith) far)
        records place fits refl (drop_more records place [] fits ∙ ap (λ i. content ∷ drop i records) later) (slice_get-get_or records place [] fits) refl

    -- the answers of the comparison rise
    answers_rise : IsNonDecreasingBy (λ content. ordering_index (compared n key content)) records
    answers_rise = searchable_from_sorted nat_list_cmp_total (λ content. take n content) records key (λ k d low high. ap is_lt (fall k (k + 1) d (omega arith) high))

    -- the place where a content with the key would stand
    pub missing_at : (place : ℕ) → place ≤ length records → (IsNonDecreasingBy (λ content. ordering_index (compared n key content)) records → IsPartitionPoint (λ content. compared n key content ≡ Less) (λ content. compared n key content ≡ Greater) records place) → IsMissing n records key place
    missing_at place fits point =
        let parted = point answers_rise in
        missing_between n key (take place records) (drop place records)
        (λ k d h.
        let near : k < place = omega (arith, length-take place records) in
        ap (λ c. compared n key c) (get_or-take place records k d near) ∙ parted.0 k d (omega arith) near)
        (λ k d h.
        let far : place + k < length records = omega (arith, length-drop place records) in
        ap (λ c. compared n key c) (get_or-drop place records k d) ∙ parted.1 (place + k) d (omega arith) far)
        records place fits refl refl

    -- what the search answers
    pub place_from : (answer : Result ℕ ℕ) → IsSearchInRange answer (length records) → IsBinarySearchResult (λ content. compared n key content) records answer → IsRecordPlace n records key answer
    place_from (Ok place) fits said = found_at place fits said
    place_from (Err place) fits said = missing_at place fits said
