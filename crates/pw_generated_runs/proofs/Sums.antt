-- Sums over the terminals, and how often a digit stands in the front of a list.
use Rattle.std.proofs.Common.{◌≡◌, ◌≢◌, ℕ, zero, suc, ◌+◌, ◌<◌, ◌≤◌, ◌==◌, eqb, min, Bool, true, false, List, [], ◌∷◌, length, Some, if◌then◌else◌, refl, ap, sym, subst, arith, ◌∙◌}
use Rattle.std.specs.Prelude.{slice_get, take}
use Rattle.std.proofs.Math.Seq.{take-length}
use Rattle.std.proofs.lemmas.Bool.{eqb-true, eqb-false, eq-eqb, ne_eqb}
use Rattle.std.proofs.lemmas.List.{length-take}
use Rattle.std.proofs.lemmas.Option.{same_Some, slice_get_within}
use Rattle.pw_onecopy.proofs.Update.{upd_elim, upd-same, upd-other}
use Rattle.pw_onecopy.specs.Update.{upd}
use Rattle.pw_generated_runs.specs.Counts.{sum_below, times_in, asked_for, entry_total}

-- 1 for the digit itself, and 0 for every other one
abbrev pub hit : ℕ → ℕ → ℕ
hit digit d = if digit == d then 1 else 0

-- sums of functions that agree
pub sum-same : (n : ℕ) (f g : ℕ → ℕ) → ((j : ℕ) → j < n → f j ≡ g j) → sum_below n f ≡ sum_below n g
sum-same zero f g same = refl
sum-same (suc n) f g same = omega (arith, sum-same n f g (λ j lt. same j (omega (arith, lt))), same n (omega arith))

-- one of the numbers grows
pub sum-grows : (n : ℕ) (f g : ℕ → ℕ) (t more : ℕ) → t < n → ((j : ℕ) → j ≢ t → g j ≡ f j) → g t ≡ f t + more → sum_below n g ≡ sum_below n f + more
sum-grows zero f g t more lt others grown = absurd (omega (arith, lt))
sum-grows (suc n) f g t more lt others grown = go (eqb n t) refl (λ less. sum-grows n f g t more less others grown)
  where
    go : (b : Bool) → eqb n t ≡ b → (t < n → sum_below n g ≡ sum_below n f + more) → sum_below (suc n) g ≡ sum_below (suc n) f + more
    go true is before =
        let same : n ≡ t = eqb-true n t is in
        let last : g n ≡ f n + more = subst (λ (k : ℕ). g k ≡ f k + more) (sym same) grown in
        omega (arith, last, sum-same n g f (λ j less. others j (λ e. omega (arith, e, same, less))))
    go false is before =
        let other : n ≢ t = eqb-false n t is in
        let less : t < n = omega (arith, lt, other) in
        omega (arith, others n other, before less)

-- numbers that are nowhere larger
pub sum-most : (n : ℕ) (f g : ℕ → ℕ) → ((j : ℕ) → f j ≤ g j) → sum_below n f ≤ sum_below n g
sum-most zero f g most = omega arith
sum-most (suc n) f g most = omega (arith, sum-most n f g most, most n)

-- and smaller in one place
pub sum-less : (n : ℕ) (f g : ℕ → ℕ) (t : ℕ) → t < n → ((j : ℕ) → f j ≤ g j) → f t < g t → sum_below n f < sum_below n g
sum-less zero f g t lt most less = absurd (omega (arith, lt))
sum-less (suc n) f g t lt most less = go (eqb n t) refl (λ before. sum-less n f g t before most less)
  where
    go : (b : Bool) → eqb n t ≡ b → (t < n → sum_below n f < sum_below n g) → sum_below (suc n) f < sum_below (suc n) g
    go true is before =
        let last : f n < g n = subst (λ (k : ℕ). f k < g k) (sym (eqb-true n t is)) less in
        omega (arith, last, sum-most n f g most)
    go false is before =
        let earlier : t < n = omega (arith, lt, eqb-false n t is) in
        omega (arith, most n, before earlier)

hit-few : (digit d : ℕ) → hit digit d ≤ 1
hit-few digit d = go (digit == d)
  where
    go : (b : Bool) → (if b then 1 else 0) ≤ 1
    go true = omega arith
    go false = omega arith

times-few : (d : ℕ) (digits : List ℕ) → times_in d digits ≤ length digits
times-few d [] = omega arith
times-few d (digit ∷ digits) = omega (arith, hit-few digit d, times-few d digits)

-- a digit more
times-more : (d digit : ℕ) (digits : List ℕ) (k : ℕ) → slice_get digits k ≡ Some digit
    → times_in d (take (suc k) digits) ≡ times_in d (take k digits) + hit digit d
times-more d digit [] k is = absurd cc
times-more d digit (first ∷ digits) zero is =
    let same : hit first d ≡ hit digit d = ap (λ (x : ℕ). hit x d) (same_Some first digit is) in
    omega (arith, same)
times-more d digit (first ∷ digits) (suc k) is = omega (arith, times-more d digit digits k is)

-- so many entries of a list have the key of a digit at most as it is long, in a front of it too
front-few : (d k : ℕ) (digits : List ℕ) → times_in d (take k digits) ≤ min k (length digits)
front-few d k digits = omega (arith, times-few d (take k digits), length-take k digits)

module _ (n : ℕ) (digits : ℕ → List ℕ) where
  -- how many of the entries that were counted have the key of a digit; of each terminal as many are counted as this says
  abbrev pub so_far : (ℕ → ℕ) → ℕ → ℕ
  so_far counts d = sum_below n (λ t. times_in d (take (counts t) (digits t)))

  -- one entry more is counted
  pub one-more : (counts : ℕ → ℕ) (t digit : ℕ) → t < n → slice_get (digits t) (counts t) ≡ Some digit
      → (d : ℕ) → upd (so_far counts) digit (so_far counts digit + 1) d ≡ so_far (upd counts t (counts t + 1)) d
  one-more counts t digit lt is d =
      let next : ℕ → ℕ = upd counts t (counts t + 1) in
      let f : ℕ → ℕ = λ j. times_in d (take (counts j) (digits j)) in
      let g : ℕ → ℕ = λ j. times_in d (take (next j) (digits j)) in
      let others : (j : ℕ) → j ≢ t → g j ≡ f j =
      λ j ne. ap (λ (c : ℕ). times_in d (take c (digits j))) (upd-other counts t (counts t + 1) j ne) in
      let suc-is : counts t + 1 ≡ suc (counts t) = omega arith in
      let grown : g t ≡ f t + hit digit d =
      ap (λ (c : ℕ). times_in d (take c (digits t))) (upd-same counts t (counts t + 1) t refl ∙ suc-is)
      ∙ times-more d digit (digits t) (counts t) is in
      let sum : so_far next d ≡ so_far counts d + hit digit d = sum-grows n f g t (hit digit d) lt others grown in
      upd_elim (so_far counts) digit (so_far counts digit + 1) d (λ (v : ℕ). v ≡ so_far next d)
      (λ same.
      let one : hit digit d ≡ 1 = ap (λ (b : Bool). if b then 1 else 0) (eq-eqb digit d (sym same)) in
      let here : so_far counts digit ≡ so_far counts d = ap (so_far counts) (sym same) in
      omega (arith, one, here, sum))
      (λ ne.
      let none : hit digit d ≡ 0 = ap (λ (b : Bool). if b then 1 else 0) (ne_eqb digit d (λ e. ne (sym e))) in
      omega (arith, none, sum))

  -- all entries are counted
  pub all-counted : (counts : ℕ → ℕ) → ((t : ℕ) → t < n → counts t ≡ length (digits t)) → (d : ℕ) → so_far counts d ≡ asked_for n digits d
  all-counted counts all d =
      sum-same n (λ t. times_in d (take (counts t) (digits t))) (λ t. times_in d (digits t))
      (λ t lt. ap (λ (c : ℕ). times_in d (take c (digits t))) (all t lt) ∙ ap (times_in d) (take-length (digits t)))

  -- where one is left the number of a key is below their total
  pub some-left : (counts : ℕ → ℕ) (t digit : ℕ) → t < n → slice_get (digits t) (counts t) ≡ Some digit → (d : ℕ) → so_far counts d < entry_total n digits
  some-left counts t digit lt is d =
      sum-less n (λ j. times_in d (take (counts j) (digits j))) (λ j. length (digits j)) t lt
      (λ j. omega (arith, front-few d (counts j) (digits j)))
      (omega (arith, front-few d (counts t) (digits t), slice_get_within (digits t) (counts t) digit is))

-- nothing is counted at first
pub none-counted : (n : ℕ) (digits : ℕ → List ℕ) (d : ℕ) → so_far n digits (λ t. 0) d ≡ 0
none-counted zero digits d = refl
none-counted (suc n) digits d = omega (arith, none-counted n digits d)
