-- A row without the spaces at its end, cell by cell from the end.
use Rattle.std.proofs.Common.{◌≡◌, ◌≢◌, ℕ, zero, suc, ◌+◌, ◌-◌, ◌<◌, ◌≤◌, List, [], ◌∷◌, ◌++◌, length, get_or, take, drop, refl, ap, ◌∙◌, sym, arith}
use Rattle.std.proofs.lemmas.List.{take-append-drop, take_more}
use Rattle.std.specs.Prelude.{replicate}
use Rattle.pw_terminal.specs.Screen.{before_rest, trimmed}

-- a row of no cells stays
pub trimmed-nil : trimmed [] ≡ []
unfolding trimmed
trimmed-nil = refl

-- nothing is left of spaces
pub blank-trimmed : (n : ℕ) → trimmed (replicate n 32) ≡ []
unfolding trimmed
blank-trimmed zero = refl
blank-trimmed (suc n) = rw (blank-trimmed n) refl

-- spaces at the end go
spaces-behind : (n : ℕ) (cells : List ℕ) → trimmed (cells ++ replicate n 32) ≡ trimmed cells
unfolding trimmed
spaces-behind n [] = blank-trimmed n
spaces-behind n (cell ∷ cells) = ap (before_rest cell) (spaces-behind n cells)

-- the part of a row that ends before spaces is trimmed as the row
pub trimmed-front : (row : List ℕ) (end : ℕ) → drop end row ≡ replicate (length (drop end row)) 32 → trimmed (take end row) ≡ trimmed row
trimmed-front row end blank =
    sym (spaces-behind (length (drop end row)) (take end row))
    ∙ (ap (λ (run : List ℕ). trimmed (take end row ++ run)) (sym blank) ∙ ap trimmed (take-append-drop end row))

-- a space at the end goes
pub trimmed-space : (cells : List ℕ) → trimmed (cells ++ 32 ∷ []) ≡ trimmed cells
trimmed-space = spaces-behind 1

-- a row that ends with another cell stays
pub trimmed-cell : (cells : List ℕ) (last : ℕ) → last ≢ 32 → trimmed (cells ++ last ∷ []) ≡ cells ++ last ∷ []
unfolding trimmed
trimmed-cell [] last other = grind arith
trimmed-cell (cell ∷ []) last other = rw (trimmed-cell [] last other)
trimmed-cell (cell ∷ next ∷ cells) last other = ap (before_rest cell) (trimmed-cell (next ∷ cells) last other)

-- the part of a row that ends before a space is trimmed as the part that ends with it
pub trimmed-take_space : (row : List ℕ) (end : ℕ) → 0 < end → end ≤ length row → get_or row (end - 1) 0 ≡ 32
    → trimmed (take (end - 1) row) ≡ trimmed (take end row)
trimmed-take_space row end some within space =
    let is_next : end ≡ (end - 1) + 1 = omega arith in
    let split : take end row ≡ take (end - 1) row ++ 32 ∷ [] = ap (λ n. take n row) is_next ∙ take_more row (end - 1) 0 (omega arith) ∙ ap (λ cell. take (end - 1) row ++ cell ∷ []) space in
    sym (ap trimmed split ∙ trimmed-space (take (end - 1) row))

-- the part of a row that ends with another cell stays
pub trimmed-take_cell : (row : List ℕ) (end : ℕ) → 0 < end → end ≤ length row → get_or row (end - 1) 0 ≢ 32
    → trimmed (take end row) ≡ take end row
trimmed-take_cell row end some within other =
    let is_next : end ≡ (end - 1) + 1 = omega arith in
    let split : take end row ≡ take (end - 1) row ++ get_or row (end - 1) 0 ∷ [] = ap (λ n. take n row) is_next ∙ take_more row (end - 1) 0 (omega arith) in
    rw split (trimmed-cell (take (end - 1) row) (get_or row (end - 1) 0) other)
