-- Tests: of two, and over lists.
use Rattle.std.proofs.Common.{◌≡◌, ⊎_elim, Bool, true, false, ◌&&◌, ◌||◌, cond, List, [], ◌∷◌, ◌++◌, filter, refl, ap, ◌∙◌}
use Rattle.std.specs.List.{list_any, AllByRecursion}
use Rattle.std.proofs.lemmas.List.Folds.{list_any-append}
use Rattle.std.proofs.lemmas.Bool.{cases_Bool, false≢true, or_left, or_right}
use Rattle.pw_base.proofs.Plain.{drop-false}

module _ {X : Type 0} where
  -- a test of some of the elements
  pub any-filter : (p q : X → Bool) (xs : List X) → list_any p (filter q xs) ≡ list_any (λ x. q x && p x) xs
  any-filter p q [] = refl
  any-filter p q (x ∷ xs) = any-filter-step p q x xs (q x) (any-filter p q xs)
    where
      any-filter-step : (p q : X → Bool) (x : X) (xs : List X) (b : Bool) → list_any p (filter q xs) ≡ list_any (λ y. q y && p y) xs
          → list_any p (cond b (x ∷ filter q xs) (filter q xs)) ≡ ((b && p x) || list_any (λ y. q y && p y) xs)
      any-filter-step p q x xs true rest = ap (λ (b : Bool). p x || b) rest
      any-filter-step p q x xs false rest = rest

  -- where a test is passed, an element passes it
  pub any-some : (p : X → Bool) (xs : List X) → list_any p xs ≡ true → (x : X) × (p x ≡ true)
  any-some p [] is = absurd (false≢true is)
  any-some p (x ∷ xs) is = ⊎_elim (λ here. (x, here)) (λ not_here. any-some p xs (drop-false (p x) (list_any p xs) not_here is)) (cases_Bool (p x))

  -- a weaker test is passed too
  pub any-more : (p r : X → Bool) → ((x : X) → p x ≡ true → r x ≡ true) → (xs : List X) → list_any p xs ≡ true → list_any r xs ≡ true
  any-more p r more [] is = absurd (false≢true is)
  any-more p r more (x ∷ xs) is =
      ⊎_elim (λ here. or_left (r x) (list_any r xs) (more x here)) (λ not_here. or_right (r x) (list_any r xs) (any-more p r more xs (drop-false (p x) (list_any p xs) not_here is))) (cases_Bool (p x))

  -- what holds of all holds of some of them
  pub all-filter : (P : X → Type 0) (q : X → Bool) (xs : List X) → AllByRecursion P xs → AllByRecursion P (filter q xs)
  all-filter P q [] all = all
  all-filter P q (x ∷ xs) all = by_test (q x) (all-filter P q xs all.1)
    where
      by_test : (b : Bool) → AllByRecursion P (filter q xs) → AllByRecursion P (cond b (x ∷ filter q xs) (filter q xs))
      by_test true rest = (all.0, rest)
      by_test false rest = rest

-- a test of a longer list
pub any-before : {X : Type 0} (p : X → Bool) (xs ys : List X) → list_any p xs ≡ true → list_any p (xs ++ ys) ≡ true
any-before p xs ys is = list_any-append p xs ys ∙ or_left (list_any p xs) (list_any p ys) is

-- the last element passes the test
pub any-last : {X : Type 0} (p : X → Bool) (xs : List X) (x : X) → p x ≡ true → list_any p (xs ++ x ∷ []) ≡ true
any-last p xs x is = list_any-append p xs (x ∷ []) ∙ or_right (list_any p xs) (p x || false) (or_left (p x) false is)

-- what holds of all and of one element more
pub all-last : {X : Type 0} (P : X → Type 0) (xs : List X) (x : X) → AllByRecursion P xs → P x → AllByRecursion P (xs ++ x ∷ [])
all-last P [] x all is = (is, tt)
all-last P (y ∷ xs) x all is = (all.0, all-last P xs x all.1 is)
