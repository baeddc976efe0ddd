-- A list with the item at one place changed.
use Rattle.std.proofs.Common.{◌≡◌, ◌≢◌, ℕ, zero, suc, List, [], ◌∷◌, length, Option, Some, None, refl, ap, ◌∙◌}
use Rattle.std.specs.Prelude.{slice_get, slice_set}
use Rattle.pw_serial_order.specs.Entries.{changed_at, changed_in}

module _ {A : Type 0} where
  set-same : (xs : List A) (k : ℕ) (x y : A) → slice_get xs k ≡ Some x → slice_get (slice_set xs k y) k ≡ Some y
  set-same [] k x y is = absurd (cc is)
  set-same (a ∷ xs) zero x y is = refl
  set-same (a ∷ xs) (suc k) x y is = set-same xs k x y is

  set-other : (xs : List A) (k j : ℕ) (y : A) → j ≢ k → slice_get (slice_set xs k y) j ≡ slice_get xs j
  set-other [] k j y differ = refl
  set-other (a ∷ xs) zero zero y differ = absurd (differ refl)
  set-other (a ∷ xs) zero (suc j) y differ = refl
  set-other (a ∷ xs) (suc k) zero y differ = refl
  set-other (a ∷ xs) (suc k) (suc j) y differ = set-other xs k j y (λ is. differ (ap suc is))

  set-length : (xs : List A) (k : ℕ) (y : A) → length (slice_set xs k y) ≡ length xs
  set-length [] k y = refl
  set-length (a ∷ xs) zero y = refl
  set-length (a ∷ xs) (suc k) y = ap suc (set-length xs k y)

  -- the item there
  pub changed-same : (xs : List A) (k : ℕ) (change : A → A) (x : A) → slice_get xs k ≡ Some x → slice_get (changed_at k change xs) k ≡ Some (change x)
  changed-same xs k change x is = ap (λ (o : Option A). slice_get (changed_in o k change xs) k) is ∙ set-same xs k x (change x) is

  -- the others
  pub changed-other : (xs : List A) (k j : ℕ) (change : A → A) → j ≢ k → slice_get (changed_at k change xs) j ≡ slice_get xs j
  changed-other xs k j change differ = by (slice_get xs k)
    where
      by : (o : Option A) → slice_get (changed_in o k change xs) j ≡ slice_get xs j
      by None = refl
      by (Some x) = set-other xs k j (change x) differ

  -- as many
  pub changed-length : (xs : List A) (k : ℕ) (change : A → A) → length (changed_at k change xs) ≡ length xs
  changed-length xs k change = by (slice_get xs k)
    where
      by : (o : Option A) → length (changed_in o k change xs) ≡ length xs
      by None = refl
      by (Some x) = set-length xs k (change x)
