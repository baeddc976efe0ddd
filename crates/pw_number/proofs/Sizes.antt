-- How large sums and differences are, of which a part is out of the type's range.
use Rattle.std.proofs.Common.{◌≡◌, ℕ, ◌+◌, ◌-◌, ◌^◌, ◌<◌, ◌≤◌, ◌⊎◌, inl, inr, ⊎_elim, false, Option, Some, None, ℤ, pos, ◌+ℤ◌, ◌-ℤ◌, ◌*ℤ◌, FitsSigned, unsigned_abs, nat_lt, sym, ap, subst, ◌∙◌, arith, IfNone}
use Rattle.std.specs.Int.{w128}
use Rattle.std.specs.Option.{SomeIff, option_zip}
use Rattle.std.proofs.lemmas.Int.{ints, fits_signed_from_abs}
use Rattle.std.proofs.Math.IntN.{*ℤ-one}
use Rattle.std.proofs.lemmas.Bool.{le-ltb, cases_lt}
use Rattle.std.proofs.Math.Nat.{max-eq_left, max-eq_right, le_of_lt}
use Rattle.pw_number.specs.Number.{Number}
use Rattle.pw_number.specs.Arithmetic.{raised, common}

-- a sum and a difference are not much smaller than one of their parts
abs-sum_left : (x y : ℤ) → unsigned_abs x ≤ unsigned_abs (x +ℤ y) + unsigned_abs y
abs-sum_left x y = omega (arith, ints)

abs-sum_right : (x y : ℤ) → unsigned_abs y ≤ unsigned_abs (x +ℤ y) + unsigned_abs x
abs-sum_right x y = omega (arith, ints)

abs-difference_left : (x y : ℤ) → unsigned_abs x ≤ unsigned_abs (x -ℤ y) + unsigned_abs y
abs-difference_left x y = omega (arith, ints)

abs-difference_right : (x y : ℤ) → unsigned_abs y ≤ unsigned_abs (x -ℤ y) + unsigned_abs x
abs-difference_right x y = omega (arith, ints)

-- a number that does not fit is large
large : (z : ℤ) → ¬ FitsSigned w128 z → 2 ^ 127 ≤ unsigned_abs z
large z not = let small : unsigned_abs z < 2 ^ 127 → ⊥ = λ h. not (fits_signed_from_abs w128 z h) in omega (arith, small)

-- at its own places a number keeps its units
raised_own : (n : Number) (p : ℕ) → p ≡ n.places → raised p n ≡ n.units
unfolding lib.IntN.one
raised_own n p is =
    let none : p - n.places ≡ 0 = omega arith in
    ap (λ e. n.units *ℤ pos (10 ^ e)) none ∙ *ℤ-one n.units

pub abs-raised_own : (n : Number) (p : ℕ) → p ≡ n.places → unsigned_abs (raised p n) ≡ unsigned_abs n.units
abs-raised_own n p is = ap unsigned_abs (raised_own n p is)

-- of two short numbers one is short at the larger of their places
pub one_short : (a b : Number) → unsigned_abs a.units < 10 ^ 30 → unsigned_abs b.units < 10 ^ 30
    → (unsigned_abs (raised (common a b) a) < 10 ^ 30) ⊎ (unsigned_abs (raised (common a b) b) < 10 ^ 30)
one_short a b short_a short_b =
    ⊎_elim
    (λ (h : a.places < b.places). inr (omega (arith, abs-raised_own b (common a b) (max-eq_right (le_of_lt h)))))
    (λ (h : b.places ≤ a.places). inl (omega (arith, abs-raised_own a (common a b) (max-eq_left h))))
    (cases_lt a.places b.places)

-- where one of two does not fit and the other is short, sum and difference are long
pub record BothLong (x y : ℤ) : Type 0 where
  pub long_sum : nat_lt (unsigned_abs (x +ℤ y)) (10 ^ 30) ≡ false
  pub long_difference : nat_lt (unsigned_abs (x -ℤ y)) (10 ^ 30) ≡ false

long_left : (x y : ℤ) → ¬ FitsSigned w128 x → unsigned_abs y < 10 ^ 30 → BothLong x y
long_left x y not short = record {
  long_sum = le-ltb _ _ (omega (arith, large x not, abs-sum_left x y));
  long_difference = le-ltb _ _ (omega (arith, large x not, abs-difference_left x y));
}

long_right : (x y : ℤ) → ¬ FitsSigned w128 y → unsigned_abs x < 10 ^ 30 → BothLong x y
long_right x y not short = record {
  long_sum = le-ltb _ _ (omega (arith, large y not, abs-sum_right x y));
  long_difference = le-ltb _ _ (omega (arith, large y not, abs-difference_right x y));
}

-- a short number fits
fits_short : (z : ℤ) → unsigned_abs z < 10 ^ 30 → FitsSigned w128 z
fits_short z h = fits_signed_from_abs w128 z (omega arith)

-- at its own places a short number fits
pub raised_there : (n : Number) (p own : ℕ) (units : ℤ) → units ≡ n.units → own ≡ n.places → p ≡ own → unsigned_abs n.units < 10 ^ 30
    → SomeIff (Some units) (FitsSigned w128 (raised p n)) (raised p n)
raised_there n p own units units_is own_is at short =
    let same : raised p n ≡ n.units = raised_own n p (at ∙ own_is) in
    (subst (FitsSigned w128) (sym same) (fits_short n.units short), units_is ∙ sym same)

long_where_none : (x y : ℤ) (left right : Option ℤ) → (unsigned_abs x < 10 ^ 30) ⊎ (unsigned_abs y < 10 ^ 30)
    → SomeIff left (FitsSigned w128 x) x → SomeIff right (FitsSigned w128 y) y → IfNone (option_zip left right) (BothLong x y)
long_where_none x y None right short not fits = ⊎_elim (λ h. absurd (not (fits_short x h))) (λ h. long_left x y not h) short
long_where_none x y (Some left) None short fits not = ⊎_elim (λ h. long_right x y not h) (λ h. absurd (not (fits_short y h))) short
long_where_none x y (Some left) (Some right) short fits_left fits_right = tt

-- where the units of two numbers are not both there, their sum and their difference are long
pub aligned_none : (a b : Number) (places : ℕ) (left right : Option ℤ) (both : Option (ℤ × ℤ)) → places ≡ common a b
    → unsigned_abs a.units < 10 ^ 30 → unsigned_abs b.units < 10 ^ 30
    → SomeIff left (FitsSigned w128 (raised places a)) (raised places a) → SomeIff right (FitsSigned w128 (raised places b)) (raised places b)
    → both ≡ option_zip left right → IfNone both (BothLong (raised (common a b) a) (raised (common a b) b))
aligned_none a b places left right both at short_a short_b units_a units_b is =
    subst (λ z. IfNone z (BothLong (raised (common a b) a) (raised (common a b) b))) (sym is)
    (long_where_none (raised (common a b) a) (raised (common a b) b) left right (one_short a b short_a short_b)
    (subst (λ p. SomeIff left (FitsSigned w128 (raised p a)) (raised p a)) at units_a)
    (subst (λ p. SomeIff right (FitsSigned w128 (raised p b)) (raised p b)) at units_b))

-- what follows from a fact for none holds for none
pub IfNone-map : {A : Type 0} {P Q : Type 0} (o : Option A) → (P → Q) → IfNone o P → IfNone o Q
IfNone-map None f h = f h
IfNone-map (Some x) f h = tt

-- a number whose units do not fit at the larger places is larger there than the other
larger : (x y : ℤ) → (unsigned_abs x < 10 ^ 30) ⊎ (unsigned_abs y < 10 ^ 30) → ¬ FitsSigned w128 x → unsigned_abs y < unsigned_abs x
larger x y short not = ⊎_elim (λ h. absurd (not (fits_short x h))) (λ (h : unsigned_abs y < 10 ^ 30). omega (arith, large x not)) short

-- of two numbers one is short at the larger of their places
one_short_at : (a b : Number) (places : ℕ) → places ≡ common a b → unsigned_abs a.units < 10 ^ 30 → unsigned_abs b.units < 10 ^ 30
    → (unsigned_abs (raised places a) < 10 ^ 30) ⊎ (unsigned_abs (raised places b) < 10 ^ 30)
one_short_at a b places at short_a short_b = subst (λ p. (unsigned_abs (raised p a) < 10 ^ 30) ⊎ (unsigned_abs (raised p b) < 10 ^ 30)) (sym at) (one_short a b short_a short_b)

pub larger_left : (a b : Number) (places : ℕ) → places ≡ common a b → unsigned_abs a.units < 10 ^ 30 → unsigned_abs b.units < 10 ^ 30
    → ¬ FitsSigned w128 (raised places a) → unsigned_abs (raised places b) < unsigned_abs (raised places a)
larger_left a b places at short_a short_b not = larger (raised places a) (raised places b) (one_short_at a b places at short_a short_b) not

pub larger_right : (a b : Number) (places : ℕ) → places ≡ common a b → unsigned_abs a.units < 10 ^ 30 → unsigned_abs b.units < 10 ^ 30
    → ¬ FitsSigned w128 (raised places b) → unsigned_abs (raised places a) < unsigned_abs (raised places b)
larger_right a b places at short_a short_b not =
    larger (raised places b) (raised places a) (⊎_elim (λ h. inr h) (λ h. inl h) (one_short_at a b places at short_a short_b)) not
