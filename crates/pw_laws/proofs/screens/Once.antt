-- Refreshes counted once: what one more refresh changes, and that no number is left twice.
use Rattle.std.proofs.Common.{◌≡◌, ◌⊎◌, inl, inr, ⊎_elim, Bool, true, false, ◌&&◌, ◌||◌, ◌==◌, List, [], ◌∷◌, ◌++◌, if◌then◌else◌, refl, ap, sym, subst, ◌∙◌}
use Rattle.std.specs.List.{list_any}
use Rattle.std.proofs.lemmas.Bool.{and_from, cases_Bool, cond-false, cond-true, eq-eqb, eqb-true, false≢true, or_left, or_parts, or_right, true≢false}
use Rattle.pw_base.proofs.Plain.{and-first, and-second}
use Rattle.pw_onecopy.specs.declared.refresh.Refresh.{Refresh}
use Rattle.pw_onecopy.specs.Refreshes.{once, others, same_number}

-- a refresh of this number is in the list
abbrev pub has_number : Refresh → List Refresh → Bool
has_number r list = list_any (same_number r) list

-- the refresh itself is
abbrev pub IsIn : Refresh → List Refresh → Type 0
IsIn x [] = ⊥
IsIn x (y ∷ list) = (x ≡ y) ⊎ IsIn x list

-- what is in the first part is in both
pub in-left : (x : Refresh) (xs ys : List Refresh) → IsIn x xs → IsIn x (xs ++ ys)
in-left x [] ys there = absurd there
in-left x (y ∷ xs) ys (inl here) = inl here
in-left x (y ∷ xs) ys (inr there) = inr (in-left x xs ys there)

-- and what is in the second
pub in-right : (x : Refresh) (xs ys : List Refresh) → IsIn x ys → IsIn x (xs ++ ys)
in-right x [] ys there = there
in-right x (y ∷ xs) ys there = inr (in-right x xs ys there)

-- what is in both is in one of them
pub in-parts : (x : Refresh) (xs ys : List Refresh) → IsIn x (xs ++ ys) → IsIn x xs ⊎ IsIn x ys
in-parts x [] ys there = inr there
in-parts x (y ∷ xs) ys (inl here) = inl (inl here)
in-parts x (y ∷ xs) ys (inr there) = ⊎_elim (λ left. inl (inr left)) (λ right. inr right) (in-parts x xs ys there)

-- the parts of a number
pub same-parts : (a b : Refresh) → same_number a b ≡ true → (a.phase ≡ b.phase) × (a.attempt ≡ b.attempt) × (a.k ≡ b.k)
same-parts a b is =
    let rest = and-second (a.phase == b.phase) (a.attempt == b.attempt && a.k == b.k) is in (
      eqb-true a.phase b.phase (and-first (a.phase == b.phase) (a.attempt == b.attempt && a.k == b.k) is),
      eqb-true a.attempt b.attempt (and-first (a.attempt == b.attempt) (a.k == b.k) rest),
      eqb-true a.k b.k (and-second (a.attempt == b.attempt) (a.k == b.k) rest),
    )

-- numbers with equal parts are the same
pub parts-same : (a b : Refresh) → a.phase ≡ b.phase → a.attempt ≡ b.attempt → a.k ≡ b.k → same_number a b ≡ true
parts-same a b phase attempt k =
    and_from (a.phase == b.phase) (a.attempt == b.attempt && a.k == b.k) (eq-eqb a.phase b.phase phase)
    (and_from (a.attempt == b.attempt) (a.k == b.k) (eq-eqb a.attempt b.attempt attempt) (eq-eqb a.k b.k k))

-- in either order
pub same-back : (a b : Refresh) → same_number a b ≡ true → same_number b a ≡ true
same-back a b is = let parts = same-parts a b is in parts-same b a (sym parts.0) (sym parts.1) (sym parts.2)

same-through : (a b c : Refresh) → same_number a b ≡ true → same_number b c ≡ true → same_number a c ≡ true
same-through a b c one other = let x = same-parts a b one in let y = same-parts b c other in parts-same a c (x.0 ∙ y.0) (x.1 ∙ y.1) (x.2 ∙ y.2)

-- the refreshes of other numbers, of two lists
others-append : (x : Refresh) (xs ys : List Refresh) → others x (xs ++ ys) ≡ others x xs ++ others x ys
others-append x [] ys = refl
others-append x (r ∷ xs) ys = by (same_number x r) (others-append x xs ys)
  where
    by : (same : Bool) → others x (xs ++ ys) ≡ others x xs ++ others x ys
        → (if same then others x (xs ++ ys) else r ∷ others x (xs ++ ys)) ≡ (if same then others x xs else r ∷ others x xs) ++ others x ys
    by true rest = rest
    by false rest = ap (λ (l : List Refresh). r ∷ l) rest

-- one more refresh, where its number was there and where it was not
module _ (r : Refresh) where
  dropped : (x : Refresh) → same_number r x ≡ true → others x (r ∷ []) ≡ []
  dropped x same = cond-true (same_number x r) [] (r ∷ []) (same-back r x same)

  kept : (x : Refresh) → same_number r x ≡ false → others x (r ∷ []) ≡ r ∷ []
  kept x differs = ⊎_elim (λ same. absurd (true≢false (sym (same-back x r same) ∙ differs))) (λ other. cond-false (same_number x r) [] (r ∷ []) other) (cases_Bool (same_number x r))

  -- a refresh with a new number is counted
  pub once-new : (xs : List Refresh) → has_number r xs ≡ false → once (xs ++ r ∷ []) ≡ once xs ++ r ∷ []
  once-new [] none = refl
  once-new (x ∷ xs) none =
      let parts = or_parts (same_number r x) (has_number r xs) none in
      ap (λ (l : List Refresh). x ∷ l)
      (ap (others x) (once-new xs parts.1) ∙ (others-append x (once xs) (r ∷ []) ∙ ap (λ (l : List Refresh). others x (once xs) ++ l) (kept x parts.0)))

  -- one with a number that is there is not
  pub once-there : (xs : List Refresh) → has_number r xs ≡ true → once (xs ++ r ∷ []) ≡ once xs
  once-there [] there = absurd (false≢true there)
  once-there (x ∷ xs) there =
      ap (λ (l : List Refresh). x ∷ l)
      (⊎_elim (λ later. ap (others x) (once-there xs later))
      (λ none.
      ap (others x) (once-new xs none) ∙ (others-append x (once xs) (r ∷ [])
      ∙ (ap (λ (l : List Refresh). others x (once xs) ++ l) (dropped x (here (same_number r x) none there)) ∙ nothing (others x (once xs)))))
      (cases_Bool (has_number r xs)))
    where
      here : (same : Bool) → has_number r xs ≡ false → (same || has_number r xs) ≡ true → same ≡ true
      here true none is = refl
      here false none is = absurd (true≢false (sym is ∙ none))

      nothing : (l : List Refresh) → l ++ [] ≡ l
      nothing [] = refl
      nothing (y ∷ l) = ap (λ (m : List Refresh). y ∷ m) (nothing l)

-- counting once loses no number
has-others : (r x : Refresh) (ys : List Refresh) → same_number r x ≡ false → has_number r (others x ys) ≡ has_number r ys
has-others r x [] differs = refl
has-others r x (y ∷ ys) differs = by (same_number x y) refl (has-others r x ys differs)
  where
    by : (same : Bool) → same_number x y ≡ same → has_number r (others x ys) ≡ has_number r ys
        → has_number r (if same then others x ys else y ∷ others x ys) ≡ (same_number r y || has_number r ys)
    by true is rest =
        rest
        ∙ sym (ap (λ (b : Bool). b || has_number r ys) (not-same (cases_Bool (same_number r y))))
      where
        not-same : (same_number r y ≡ true) ⊎ (same_number r y ≡ false) → same_number r y ≡ false
        not-same (inl same) = absurd (true≢false (sym (same-through r y x same (same-back x y is)) ∙ differs))
        not-same (inr other) = other
    by false is rest = ap (λ (b : Bool). same_number r y || b) rest

-- the same numbers are there
pub has-once : (r : Refresh) (xs : List Refresh) → has_number r (once xs) ≡ has_number r xs
has-once r [] = refl
has-once r (x ∷ xs) = by (has-once r xs) (cases_Bool (same_number r x))
  where
    by : has_number r (once xs) ≡ has_number r xs → (same_number r x ≡ true) ⊎ (same_number r x ≡ false) → (same_number r x || has_number r (others x (once xs))) ≡ (same_number r x || has_number r xs)
    by rest (inl same) = ap (λ (b : Bool). b || has_number r (others x (once xs))) same ∙ sym (ap (λ (b : Bool). b || has_number r xs) same)
    by rest (inr differs) = ap (λ (b : Bool). same_number r x || b) (has-others r x (once xs) differs ∙ rest)

-- a refresh that is in a list has its number there
pub in-has : (r x : Refresh) (xs : List Refresh) → IsIn x xs → same_number r x ≡ true → has_number r xs ≡ true
in-has r x [] there same = absurd there
in-has r x (y ∷ xs) (inl here) same = or_left (same_number r y) (has_number r xs) (subst (λ (z : Refresh). same_number r z ≡ true) here same)
in-has r x (y ∷ xs) (inr there) same = or_right (same_number r y) (has_number r xs) (in-has r x xs there same)

-- of each number there is one refresh
in-others : (z x : Refresh) (ys : List Refresh) → IsIn z (others x ys) → IsIn z ys × (same_number x z ≡ false)
in-others z x [] there = absurd there
in-others z x (y ∷ ys) there = by (in-others z x ys) (same_number x y) refl there
  where
    by : (IsIn z (others x ys) → IsIn z ys × (same_number x z ≡ false)) → (same : Bool) → same_number x y ≡ same → IsIn z (if same then others x ys else y ∷ others x ys) → IsIn z (y ∷ ys) × (same_number x z ≡ false)
    by rest_of true is there = let rest = rest_of there in (inr rest.0, rest.1)
    by rest_of false is (inl here) = (inl here, ap (same_number x) here ∙ is)
    by rest_of false is (inr there) = let rest = rest_of there in (inr rest.0, rest.1)

-- refreshes with the same number that are counted are one
pub once-one : (xs : List Refresh) (a b : Refresh) → IsIn a (once xs) → IsIn b (once xs) → same_number a b ≡ true → a ≡ b
once-one [] a b one other same = absurd one
once-one (x ∷ xs) a b (inl one) (inl other) same = one ∙ sym other
once-one (x ∷ xs) a b (inl one) (inr other) same =
    absurd (true≢false (sym (subst (λ (y : Refresh). same_number y b ≡ true) one same) ∙ (in-others b x (once xs) other).1))
once-one (x ∷ xs) a b (inr one) (inl other) same =
    absurd (true≢false (sym (same-back a x (subst (λ (y : Refresh). same_number a y ≡ true) other same)) ∙ (in-others a x (once xs) one).1))
once-one (x ∷ xs) a b (inr one) (inr other) same = once-one xs a b (in-others a x (once xs) one).0 (in-others b x (once xs) other).0 same
