-- Tables of digits: what each item is.
use Rattle.std.proofs.Common.{◌≡◌, ℕ, zero, suc, ◌+◌, ◌-◌, ◌*◌, ◌/◌, ◌%◌, ◌<◌, Bool, true, ◌&&◌, T, eqb, eqb→eq, ltb, ltb→lt, List, [], ◌∷◌, length, get_or, inl, inr, eq-zero-or-pos, ap, ◌∙◌, arith}
use lib.Ieee.Fits.{and_l, and_r}
use Rattle.pw_picture.specs.Stored.{digit_of}
use Rattle.pw_picture.specs.declared.store.TheConstants.{PAIRS}
use Rattle.pw_picture.specs.declared.read.TheConstants.{DIGITS}

-- the pairs below a number are its two digits each
abbrev are_pairs : ℕ → Bool
are_pairs zero = true
are_pairs (suc p) = (eqb (get_or PAIRS (p * 2) 0) (48 + p / 10) && eqb (get_or PAIRS (p * 2 + 1) 0) (48 + p % 10)) && are_pairs p

pairs_below : (n p : ℕ) → T (are_pairs n) → p < n → (get_or PAIRS (p * 2) 0 ≡ 48 + p / 10) × (get_or PAIRS (p * 2 + 1) 0 ≡ 48 + p % 10)
pairs_below zero p t h = absurd (omega arith)
pairs_below (suc n) p t h =
    elim (eq-zero-or-pos (n - p)) [
      | inl z ↦ let e : p ≡ n = omega arith in let a = and_l _ (are_pairs n) t in rw e (eqb→eq _ _ (and_l _ _ a), eqb→eq _ _ (and_r _ _ a))
      | inr g ↦ pairs_below n p (and_r _ (are_pairs n) t) (omega arith)
    ]

pub pair_at : (p : ℕ) → p < 100 → (get_or PAIRS (p * 2) 0 ≡ 48 + p / 10) × (get_or PAIRS (p * 2 + 1) 0 ≡ 48 + p % 10)
pair_at p h = pairs_below 100 p tt h

-- the items are what the characters are as digits, from this one on
abbrev are_digits_from : ℕ → List ℕ → Bool
are_digits_from k [] = true
are_digits_from k (x ∷ xs) = (eqb x (digit_of k) && ltb x 10) && are_digits_from (suc k) xs

digits_at : (xs : List ℕ) (k i j : ℕ) → T (are_digits_from k xs) → i < length xs → j ≡ k + i → (get_or xs i 0 ≡ digit_of j) × (get_or xs i 0 < 10)
digits_at [] k i j t h e = absurd (omega arith)
digits_at (x ∷ xs) k zero j t h e =
    let same : k ≡ j = omega arith in
    let this = and_l _ (are_digits_from (suc k) xs) t in
    (eqb→eq _ _ (and_l _ _ this) ∙ ap digit_of same, ltb→lt _ _ (and_r (eqb x (digit_of k)) _ this))
digits_at (x ∷ xs) k (suc i) j t h e = digits_at xs (suc k) i j (and_r (eqb x (digit_of k) && ltb x 10) _ t) (omega arith) (omega arith)

pub digit_at : (char : ℕ) → char < 256 → (get_or DIGITS char 0 ≡ digit_of char) × (get_or DIGITS char 0 < 10)
digit_at char h = digits_at DIGITS 0 char char tt h (omega arith)
