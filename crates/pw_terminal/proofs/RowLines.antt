-- The lines of rows, one row after the other.
use Rattle.std.proofs.Common.{◌≡◌, ℕ, suc, zero, ◌+◌, ◌-◌, ◌*◌, ◌<◌, ◌≤◌, List, [], ◌∷◌, ◌++◌, length, take, drop, sym, ap, ◌∙◌, arith, append_assoc, append-nil}
use Rattle.std.proofs.lemmas.List.{drop-append-le, length-drop, length-take, take-append-drop, take-append-le, take_all}
use Rattle.pw_terminal.specs.Screen.{row_line, row_lines, trimmed}

-- no rows have no lines
pub row_lines-none : (text : List ℕ) (number : ℕ) (cells : List ℕ) → text ++ row_lines 0 number cells ≡ text
unfolding row_lines
row_lines-none text number cells = append-nil text

-- the line of the first row stands before those of the other rows
pub row_lines-next : (rows number : ℕ) (text cells : List ℕ) → 0 < rows
    → (text ++ row_line number (trimmed (take 80 cells))) ++ row_lines (rows - 1) (number + 1) (drop 80 cells)
    ≡ text ++ row_lines rows number cells
unfolding row_lines
row_lines-next zero number text cells some = absurd (omega arith)
row_lines-next (suc rows) number text cells some =
    let one_less : suc rows - 1 ≡ rows = omega arith in
    rw one_less (append_assoc text (row_line number (trimmed (take 80 cells))) (row_lines rows (number + 1) (drop 80 cells)))

-- the line of a row behind other rows stands behind theirs
line-behind : (rows number : ℕ) (front last : List ℕ) → length front ≡ rows * 80 → length last ≡ 80
    → row_lines (suc rows) number (front ++ last) ≡ row_lines rows number front ++ row_line (number + rows) (trimmed last)
unfolding row_lines
line-behind zero number [] last whole is =
    let first : number ≡ number + 0 = omega arith in
    append-nil (row_line number (trimmed (take 80 last)))
    ∙ (ap (λ (row : List ℕ). row_line number (trimmed row)) (take_all 80 last (omega arith)) ∙ ap (λ (k : ℕ). row_line k (trimmed last)) first)
line-behind zero number (cell ∷ front) last whole is = absurd (omega arith)
line-behind (suc rows) number front last whole is =
    let some : 80 ≤ length front = omega arith in
    let next : (number + 1) + rows ≡ number + suc rows = omega arith in
    let line = row_line number (trimmed (take 80 front)) in
    let rest = row_lines rows (number + 1) (drop 80 front) in
    ap (λ (row : List ℕ). row_line number (trimmed row) ++ row_lines (suc rows) (number + 1) (drop 80 (front ++ last))) (take-append-le 80 front last some)
    ∙ (ap (λ (cells : List ℕ). line ++ row_lines (suc rows) (number + 1) cells) (drop-append-le 80 front last some)
    ∙ (ap (λ (lines : List ℕ). line ++ lines) (line-behind rows (number + 1) (drop 80 front) last (omega (arith, length-drop 80 front)) is)
    ∙ (sym (append_assoc line rest (row_line ((number + 1) + rows) (trimmed last)))
    ∙ ap (λ (k : ℕ). (line ++ rest) ++ row_line k (trimmed last)) next)))

-- and so does that of a screen's last row
pub row_lines-last : (text cells : List ℕ) → length cells ≡ 1920
    → (text ++ row_lines 23 1 (take 1840 cells)) ++ row_line 24 (trimmed (drop 1840 cells)) ≡ text ++ row_lines 24 1 cells
row_lines-last text cells whole =
    let upper = take 1840 cells in
    let last = drop 1840 cells in
    let lines = line-behind 23 1 upper last (omega (arith, length-take 1840 cells)) (omega (arith, length-drop 1840 cells)) in
    append_assoc text (row_lines 23 1 upper) (row_line 24 (trimmed last))
    ∙ ap (λ (l : List ℕ). text ++ l) (sym lines ∙ ap (row_lines 24 1) (take-append-drop 1840 cells))
