-- Blank rows.
use Rattle.std.proofs.Common.{◌≡◌, ℕ, zero, suc, ◌+◌, ◌-◌, List, [], ◌++◌, length, take, refl, sym, ap, ◌∙◌}
use Rattle.std.proofs.lemmas.List.{append-nil, drop-replicate}
use Rattle.std.specs.Prelude.{replicate}
use Rattle.pw_terminal.specs.Screen.{row_line, row_lines, trimmed}
use Rattle.pw_terminal.proofs.Trimmed.{blank-trimmed}

-- and nothing of the first of them
first-trimmed : (m n : ℕ) → trimmed (take m (replicate n 32)) ≡ []
unfolding trimmed
first-trimmed zero n = refl
first-trimmed (suc m) zero = refl
first-trimmed (suc m) (suc n) = rw (first-trimmed m n) refl

-- blank rows have no lines
blank-rows : (rows number n : ℕ) → row_lines rows number (replicate n 32) ≡ []
unfolding row_lines
blank-rows zero number n = refl
blank-rows (suc rows) number n = rw (first-trimmed 80 n, drop-replicate {X = ℕ} 80 n 32) (blank-rows rows (number + 1) (n - 80))

-- a blank row has no line
pub blank-line : (text row : List ℕ) (number : ℕ) → row ≡ replicate (length row) 32 → text ≡ text ++ row_line number (trimmed row)
blank-line text row number blank =
    sym (append-nil text) ∙ ap (λ (l : List ℕ). text ++ row_line number l) (sym (ap trimmed blank ∙ blank-trimmed (length row)))

-- the lines of blank rows add nothing
pub blank-lines : (text cells : List ℕ) (rows number : ℕ) → cells ≡ replicate (length cells) 32 → text ++ row_lines rows number cells ≡ text
blank-lines text cells rows number blank =
    ap (λ (l : List ℕ). text ++ l) (ap (row_lines rows number) blank ∙ blank-rows rows number (length cells)) ∙ append-nil text
