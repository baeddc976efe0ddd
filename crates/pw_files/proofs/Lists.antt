-- What a test keeps and finds in a list that is joined of parts, and keys that rise.
use Rattle.std.proofs.Common.{◌≡◌, ℕ, zero, suc, ◌∙◌, ap, refl, Bool, true, false, cond, List, [], ◌∷◌, ◌++◌, map, drop, Some, None}
use Rattle.std.specs.Prelude.{filter, find, slice_get, All}
use Rattle.std.specs.List.{AllByRecursion}
use Rattle.std.specs.List.Sorted.{IsStrictlySortedBy}
use Rattle.std.specs.Cmp.{IsTotalOrder}
use Rattle.std.specs.declared.cmp.Ordering.{Ordering}
use Rattle.std.specs.declared.cmp.Ordering.TheVariants.{Less}
use Rattle.std.proofs.lemmas.List.Elements.{All-head, All-tail}
use Rattle.pw_base.proofs.Plain.{all-weaker, all-append}

-- a test that all pass keeps all
pub filter_all : {X : Type 0} (p : X → Bool) (xs : List X) → All (λ x. p x ≡ true) xs → filter p xs ≡ xs
filter_all p [] h = refl
filter_all p (x ∷ xs) h =
    ap (λ b. cond b (x ∷ filter p xs) (filter p xs)) (All-head (λ y. p y ≡ true) x xs h)
    ∙ ap (λ ys. x ∷ ys) (filter_all p xs (All-tail (λ y. p y ≡ true) x xs h))

-- a test that none passes keeps none
pub filter_none : {X : Type 0} (p : X → Bool) (xs : List X) → All (λ x. p x ≡ false) xs → filter p xs ≡ []
filter_none p [] h = refl
filter_none p (x ∷ xs) h =
    ap (λ b. cond b (x ∷ filter p xs) (filter p xs)) (All-head (λ y. p y ≡ false) x xs h)
    ∙ filter_none p xs (All-tail (λ y. p y ≡ false) x xs h)

-- a test that none passes finds none
pub find_none : {X : Type 0} (p : X → Bool) (xs : List X) → All (λ x. p x ≡ false) xs → find p xs ≡ None
find_none p [] h = refl
find_none p (x ∷ xs) h =
    ap (λ b. cond b (Some x) (find p xs)) (All-head (λ y. p y ≡ false) x xs h)
    ∙ find_none p xs (All-tail (λ y. p y ≡ false) x xs h)

-- a test that none passes in the first part finds what it finds in the second
pub find-append : {X : Type 0} (p : X → Bool) (xs ys : List X) → All (λ x. p x ≡ false) xs → find p (xs ++ ys) ≡ find p ys
find-append p [] ys h = refl
find-append p (x ∷ xs) ys h =
    ap (λ b. cond b (Some x) (find p (xs ++ ys))) (All-head (λ y. p y ≡ false) x xs h)
    ∙ find-append p xs ys (All-tail (λ y. p y ≡ false) x xs h)

-- the first item of the rest is the one at its place
pub slice_get-drop : {X : Type 0} (i : ℕ) (xs : List X) → slice_get (drop i xs) 0 ≡ slice_get xs i
slice_get-drop zero xs = refl
slice_get-drop (suc i) [] = refl
slice_get-drop (suc i) (x ∷ xs) = slice_get-drop i xs

-- a test of what f gives keeps the same before and after f
pub map-filter : {X K : Type 0} (f : X → K) (p : K → Bool) (xs : List X) → map f (filter (λ x. p (f x)) xs) ≡ filter p (map f xs)
map-filter f p [] = refl
map-filter f p (x ∷ xs) =
    elim (p (f x)) as (λ b. map f (cond b (x ∷ filter (λ x. p (f x)) xs) (filter (λ x. p (f x)) xs)) ≡ cond b (f x ∷ filter p (map f xs)) (filter p (map f xs))) [
      | true ↦ ap (λ ks. f x ∷ ks) (map-filter f p xs)
      | false ↦ map-filter f p xs
    ]

module _ {K : Type 0} (R : K → K → Ordering) (o : IsTotalOrder R) (key : K) where
  -- keys below this one, and keys above it, are in order one behind the other
  pub sorted-append : (xs ys : List K) → IsStrictlySortedBy R xs → IsStrictlySortedBy R ys → AllByRecursion (λ x. R x key ≡ Less) xs → AllByRecursion (λ y. R key y ≡ Less) ys → IsStrictlySortedBy R (xs ++ ys)
  unfolding IsStrictlySortedBy
  sorted-append [] ys s t h k = t
  sorted-append (x ∷ xs) ys s t h k = (
    all-append (λ y. R x y ≡ Less) xs ys s.0 (all-weaker (λ y. R key y ≡ Less) (λ y. R x y ≡ Less) (λ y l. o.trans x key y h.0 l) ys k),
    sorted-append xs ys s.1 t h.1 k,
  )

  -- and also with this key between them
  pub sorted-around : (xs ys : List K) → IsStrictlySortedBy R xs → IsStrictlySortedBy R ys → AllByRecursion (λ x. R x key ≡ Less) xs → AllByRecursion (λ y. R key y ≡ Less) ys → IsStrictlySortedBy R (xs ++ key ∷ ys)
  unfolding IsStrictlySortedBy
  sorted-around [] ys s t h k = (k, t)
  sorted-around (x ∷ xs) ys s t h k = (
    all-append (λ y. R x y ≡ Less) xs (key ∷ ys) s.0 (h.0, all-weaker (λ y. R key y ≡ Less) (λ y. R x y ≡ Less) (λ y l. o.trans x key y h.0 l) ys k),
    sorted-around xs ys s.1 t h.1 k,
  )
