-- What a file answers for a key that lies in the middle of its records, and keys that rise in parts of a list.
use Rattle.std.proofs.Common.{◌≡◌, ℕ, ◌∙◌, sym, ap, refl, false, Bool, List, [], ◌∷◌, ◌++◌, map, take}
use Rattle.std.specs.Prelude.{filter, find, All}
use Rattle.std.specs.List.{AllByRecursion}
use Rattle.std.specs.List.Sorted.{IsStrictlySortedBy}
use Rattle.std.specs.Option.{option_or}
use Rattle.std.specs.Ordering.{is_lt, is_eq, is_gt, ordering_reverse}
use Rattle.std.specs.declared.cmp.Ordering.{Ordering}
use Rattle.std.specs.declared.cmp.Ordering.TheVariants.{Less, Equal, Greater}
use Rattle.std.proofs.lemmas.Cmp.{nat_list_cmp_total}
use Rattle.std.proofs.lemmas.List.{append-nil}
use Rattle.std.proofs.lemmas.List.Elements.{filter-append, All-weaker}
use Rattle.std.proofs.lemmas.List.Folds.{find-append}
use Rattle.std.proofs.lemmas.Map.Lookups.{exact_bytes}
use Rattle.pw_base.proofs.Plain.{option_or-None}
use Rattle.pw_files.specs.Records.{key_cmp, compared, below, above, record_at}
use Rattle.pw_files.proofs.Lists.{filter_all, filter_none, find_none}
use Rattle.pw_files.proofs.Lists.{find-append as find-append_none}

-- what holds of all of a list holds of all of its parts
pub all_front : {X : Type 0} (P : X → Type 0) (xs ys : List X) → AllByRecursion P (xs ++ ys) → AllByRecursion P xs
all_front P [] ys h = tt
all_front P (x ∷ xs) ys h = (h.0, all_front P xs ys h.1)

pub all_back : {X : Type 0} (P : X → Type 0) (xs ys : List X) → AllByRecursion P (xs ++ ys) → AllByRecursion P ys
all_back P [] ys h = h
all_back P (x ∷ xs) ys h = all_back P xs ys h.1

-- a weaker fact, of what f gives
pub all_unmapped : {X Y : Type 0} (f : X → Y) (P : Y → Type 0) (Q : X → Type 0) → ((x : X) → P (f x) → Q x) → (xs : List X) → AllByRecursion P (map f xs) → AllByRecursion Q xs
all_unmapped f P Q w [] h = tt
all_unmapped f P Q w (x ∷ xs) h = (w x h.0, all_unmapped f P Q w xs h.1)

module _ {X K : Type 0} (R : K → K → Ordering) (f : X → K) where
  -- keys that rise in a list rise in its parts
  pub sorted_front : (xs ys : List X) → IsStrictlySortedBy R (map f (xs ++ ys)) → IsStrictlySortedBy R (map f xs)
  unfolding IsStrictlySortedBy
  sorted_front [] ys s = tt
  sorted_front (x ∷ xs) ys s = (mapped xs ys s.0, sorted_front xs ys s.1)
    where
      mapped : (xs ys : List X) → AllByRecursion (λ y. R (f x) y ≡ Less) (map f (xs ++ ys)) → AllByRecursion (λ y. R (f x) y ≡ Less) (map f xs)
      mapped [] ys h = tt
      mapped (z ∷ xs) ys h = (h.0, mapped xs ys h.1)

  pub sorted_back : (xs ys : List X) → IsStrictlySortedBy R (map f (xs ++ ys)) → IsStrictlySortedBy R (map f ys)
  unfolding IsStrictlySortedBy
  sorted_back [] ys s = s
  sorted_back (x ∷ xs) ys s = sorted_back xs ys s.1

  -- and each of the first part is below each of the second
  pub sorted_across : (xs ys : List X) → IsStrictlySortedBy R (map f (xs ++ ys)) → AllByRecursion (λ x. AllByRecursion (λ y. R (f x) (f y) ≡ Less) ys) xs
  unfolding IsStrictlySortedBy
  sorted_across [] ys s = tt
  sorted_across (x ∷ xs) ys s = (
    all_back (λ y. R (f x) (f y) ≡ Less) xs ys (all_unmapped f (λ y. R (f x) y ≡ Less) (λ y. R (f x) (f y) ≡ Less) (λ y h. h) (xs ++ ys) s.0),
    sorted_across xs ys s.1,
  )

-- a key that is above another has it below
pub turned_greater : (a b : List ℕ) → key_cmp a b ≡ Greater → key_cmp b a ≡ Less
turned_greater a b h = nat_list_cmp_total.antisymm b a ∙ ap ordering_reverse h

pub turned_less : (a b : List ℕ) → key_cmp a b ≡ Less → key_cmp b a ≡ Greater
turned_less a b h = nat_list_cmp_total.antisymm b a ∙ ap ordering_reverse h

module _ (n : ℕ) (key : List ℕ) where
  -- a test of how contents compare that answers the same of all
  tested : (test : Ordering → Bool) (o : Ordering) (xs : List (List ℕ)) → All (λ content. compared n key content ≡ o) xs → All (λ content. test (compared n key content) ≡ test o) xs
  tested test o xs h = All-weaker (λ content. compared n key content ≡ o) (λ content. test (compared n key content) ≡ test o) (λ content e. ap test e) xs h

  module _ (low middle high : List (List ℕ)) (l : All (λ content. compared n key content ≡ Less) low) (h : All (λ content. compared n key content ≡ Greater) high) where
    -- with records below the key before some, and records above it behind them, those matter
    pub round_below : below n (low ++ (middle ++ high)) key ≡ low ++ below n middle key
    round_below =
        let p : List ℕ → Bool = λ content. is_lt (compared n key content) in
        filter-append p low (middle ++ high)
        ∙ ap (λ xs. xs ++ filter p (middle ++ high)) (filter_all p low (tested is_lt Less low l))
        ∙ ap (λ xs. low ++ xs) (filter-append p middle high ∙ ap (λ xs. filter p middle ++ xs) (filter_none p high (tested is_lt Greater high h)) ∙ append-nil (filter p middle))

    pub round_above : above n (low ++ (middle ++ high)) key ≡ above n middle key ++ high
    round_above =
        let p : List ℕ → Bool = λ content. is_gt (compared n key content) in
        filter-append p low (middle ++ high)
        ∙ ap (λ xs. xs ++ filter p (middle ++ high)) (filter_none p low (tested is_gt Less low l))
        ∙ (filter-append p middle high ∙ ap (λ xs. filter p middle ++ xs) (filter_all p high (tested is_gt Greater high h)))

    pub round_at : record_at n (low ++ (middle ++ high)) key ≡ record_at n middle key
    round_at =
        let p : List ℕ → Bool = λ content. is_eq (compared n key content) in
        find-append_none p low (middle ++ high) (tested is_eq Less low l)
        ∙ (find-append p middle high ∙ ap (λ o. option_or (find p middle) o) (find_none p high (tested is_eq Greater high h)) ∙ option_or-None (find p middle))

  -- what is above a content that is not below the key is above the key
  pub above_not_below : (content : List ℕ) → is_lt (compared n key content) ≡ false → (k : List ℕ) → key_cmp (take n content) k ≡ Less → key_cmp k key ≡ Greater
  above_not_below content e k less =
      let a : List ℕ = take n content in
      let at : (o : Ordering) → key_cmp a key ≡ o → is_lt o ≡ false → key_cmp k key ≡ Greater =
      λ o is. elim o as (λ o. key_cmp a key ≡ o → is_lt o ≡ false → key_cmp k key ≡ Greater) [
        | Less ↦ λ is no. cc
        | Equal ↦ λ is no. let same : a ≡ key = exact_bytes a key is in ap (λ b. key_cmp k b) (sym same) ∙ turned_less a k less
        | Greater ↦ λ is no. turned_less key k (nat_list_cmp_total.trans key a k (turned_greater a key is) less)
      ] is in
      at (key_cmp a key) refl e
