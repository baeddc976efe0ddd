-- How many numbers below a bound have a property.
use Rattle.std.proofs.Common.{◌≡◌, ℕ, zero, suc, ◌+◌, ◌<◌, ◌≤◌, ⊎_elim, Bool, true, false, refl, ap, arith, ◌∙◌}
use Rattle.std.proofs.lemmas.Bool.{cases_eq}

-- 1 where the test passes, else 0
abbrev pub weight : Bool → ℕ
weight true = 1
weight false = 0

-- how many numbers below n pass the test
abbrev pub count_below : ℕ → (ℕ → Bool) → ℕ
count_below zero has = 0
count_below (suc n) has = count_below n has + weight (has n)

-- one of two tests that imply each other in one direction
one-more : (a b : Bool) → (a ≡ true → b ≡ true) → weight a ≤ weight b
one-more false b more = let low : 0 ≤ weight b = omega arith in low
one-more true b more = let is = ap weight (more refl) in omega (arith, is)

-- a wider property has no fewer
pub count-more : (n : ℕ) (p q : ℕ → Bool) → ((j : ℕ) → p j ≡ true → q j ≡ true) → count_below n p ≤ count_below n q
count-more zero p q more = omega arith
count-more (suc n) p q more = let rest = count-more n p q more in let last = one-more (p n) (q n) (more n) in omega (arith, rest, last)

-- and one more, where a number has the wider one alone
pub count-less : (n : ℕ) (p q : ℕ → Bool) → ((j : ℕ) → p j ≡ true → q j ≡ true) → (k : ℕ) → k < n → p k ≡ false → q k ≡ true → count_below n p + 1 ≤ count_below n q
count-less zero p q more k low out here = absurd (omega (arith, low))
count-less (suc n) p q more k low out here =
    ⊎_elim
    (λ same.
    let rest = count-more n p q more in
    let none = ap weight (ap p (let back : n ≡ k = omega (arith, same) in back) ∙ out) in
    let one = ap weight (ap q (let back : n ≡ k = omega (arith, same) in back) ∙ here) in
    omega (arith, rest, none, one))
    (λ differ. let rest = count-less n p q more k (omega (arith, low, differ)) out here in let last = one-more (p n) (q n) (more n) in omega (arith, rest, last))
    (cases_eq k n)

-- all of them have the property that is always true
pub count-all : (n : ℕ) → count_below n (λ j. true) ≡ n
count-all zero = refl
count-all (suc n) = let rest = count-all n in omega (arith, rest)

-- a number below the bound that lacks it leaves room
pub count-room : (n : ℕ) (p : ℕ → Bool) (k : ℕ) → k < n → p k ≡ false → count_below n p + 1 ≤ n
count-room n p k low out = let less = count-less n p (λ j. true) (λ j is. refl) k low out refl in let all = count-all n in omega (arith, less, all)
