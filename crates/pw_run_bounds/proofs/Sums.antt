-- Sums of numbers that fall.
use Rattle.std.proofs.Common.{◌≡◌, ◌≢◌, ℕ, zero, suc, ◌+◌, ◌*◌, ◌<◌, ◌≤◌, ⊎_elim, subst, sym, refl, arith}
use Rattle.std.proofs.lemmas.Bool.{cases_eq}
use Rattle.pw_run_bounds.specs.Bound.{sum_below}

-- numbers that are nowhere larger, but for as much more each
pub sum-most : (n more : ℕ) (f g : ℕ → ℕ) → ((j : ℕ) → j < n → f j ≤ g j + more) → sum_below n f ≤ sum_below n g + n * more
sum-most zero more f g most = omega arith
sum-most (suc n) more f g most = omega (arith, sum-most n more f g (λ j low. most j (omega (arith, low))), most n (omega arith))

-- numbers that are nowhere larger, and smaller in one place
pub sum-less : (n : ℕ) (f g : ℕ → ℕ) (t : ℕ) → t < n → ((j : ℕ) → j < n → j ≢ t → f j ≤ g j) → f t < g t → sum_below n f < sum_below n g
sum-less zero f g t low most less = absurd (omega (arith, low))
sum-less (suc n) f g t low most less =
    ⊎_elim
    (λ same.
    let last : f n < g n = subst (λ (k : ℕ). f k < g k) same less in
    omega (arith, last, sum-most n 0 f g (λ j lt. let here = most j (omega (arith, lt)) (λ e. omega (arith, e, same, lt)) in omega (arith, here))))
    (λ other.
    omega (arith, most n (omega arith) (λ e. other (sym e)), sum-less n f g t (omega (arith, low, other)) (λ j lt. most j (omega (arith, lt))) less))
    (cases_eq t n)

-- numbers that are nowhere larger, but for so much more in one place
pub sum-raised : (n more : ℕ) (f g : ℕ → ℕ) (t : ℕ) → ((j : ℕ) → j ≢ t → f j ≤ g j) → f t ≤ g t + more → sum_below n f ≤ sum_below n g + more
sum-raised zero more f g t most raised = omega arith
sum-raised (suc n) more f g t most raised =
    ⊎_elim
    (λ same.
    let last : f n ≤ g n + more = subst (λ (k : ℕ). f k ≤ g k + more) same raised in
    omega (arith, last, sum-most n 0 f g (λ j lt. let here = most j (λ e. omega (arith, e, same, lt)) in omega (arith, here))))
    (λ other. omega (arith, most n (λ e. other (sym e)), sum-raised n more f g t most raised))
    (cases_eq t n)

-- equal numbers
pub sum-same : (n : ℕ) (f g : ℕ → ℕ) → ((j : ℕ) → j < n → f j ≡ g j) → sum_below n f ≡ sum_below n g
sum-same zero f g same = refl
sum-same (suc n) f g same = omega (arith, sum-same n f g (λ j low. same j (omega (arith, low))), same n (omega arith))
