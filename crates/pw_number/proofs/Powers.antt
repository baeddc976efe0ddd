-- Tables of the powers of ten.
use Rattle.std.proofs.Common.{◌≡◌, ℕ, zero, suc, ◌+◌, ◌^◌, ◌<◌, Bool, true, ◌&&◌, T, eqb, eqb→eq, List, [], ◌∷◌, length, get_or, ap, ◌∙◌, arith}
use lib.Ieee.Fits.{and_l, and_r}

-- the items are the powers of ten, from this one on
abbrev pub are_tens_from : ℕ → List ℕ → Bool
are_tens_from k [] = true
are_tens_from k (x ∷ xs) = eqb x (10 ^ k) && are_tens_from (suc k) xs

-- each item of such a table is the power of its place
pub ten_at : (xs : List ℕ) (k i j : ℕ) → T (are_tens_from k xs) → i < length xs → j ≡ k + i → get_or xs i 0 ≡ 10 ^ j
ten_at [] k i j t h e = absurd (omega arith)
ten_at (x ∷ xs) k zero j t h e = let s : k ≡ j = omega arith in eqb→eq _ _ (and_l _ _ t) ∙ ap (λ y. 10 ^ y) s
ten_at (x ∷ xs) k (suc i) j t h e = ten_at xs (suc k) i j (and_r (eqb x (10 ^ k)) _ t) (omega arith) (omega arith)
