-- Texts that are written over cells.
use Rattle.std.proofs.Common.{◌≡◌, ℕ, ◌+◌, ◌-◌, ◌≤◌, List, ◌++◌, length, take, replicate, ◌∙◌, refl, sym, ap, arith, append-nil, append_assoc}
use Rattle.std.proofs.lemmas.List.{length-append, length-drop, length-take, length-replicate, drop_all, take_all}
use Rattle.std.proofs.Math.Seq.{take-append-add}
use Rattle.pw_picture.specs.Text.{fitted}
use Rattle.pw_terminal.specs.Shown.{written}

-- to write a text over some of the cells keeps their number
pub length-written : (place : ℕ) (text cells : List ℕ) → place + length text ≤ length cells → length (written place text cells) ≡ length cells
length-written place text cells within = simp (length-append, length-take, length-drop) (omega arith)

-- a text that ends with the cells
pub written-end : (place : ℕ) (text cells : List ℕ) → place + length text ≡ length cells → written place text cells ≡ take place cells ++ text
written-end place text cells whole = rw (drop_all (place + length text) cells (omega arith), append-nil) refl

-- a fitted text has its size, and a text of that size stays
pub length-fitted : (size : ℕ) (text : List ℕ) → length (fitted size text) ≡ size
length-fitted size text = simp (length-append, length-take, length-replicate) (omega arith)

pub fitted-same : (size : ℕ) (text : List ℕ) → length text ≡ size → fitted size text ≡ text
fitted-same size text whole =
    let none : size - length text ≡ 0 = omega arith in
    rw (take_all size text (omega arith), none, append-nil) refl

-- a text behind another is fitted to what is left
pub fitted-append : (left : ℕ) (front text : List ℕ) → fitted (length front + left) (front ++ text) ≡ front ++ fitted left text
fitted-append left front text =
    let more : length front + left - length (front ++ text) ≡ left - length text = omega (arith, length-append front text) in
    rw (take-append-add front text left, more, append_assoc front (take left text) (replicate (left - length text) 32)) refl

-- a text and a fitted text, fitted
pub fitted_parts : (front name : List ℕ) → length front ≡ 14 → fitted 80 (front ++ fitted 66 name) ≡ fitted 80 (front ++ name)
fitted_parts front name is =
    let whole : length front + 66 ≡ 80 = omega arith in
    fitted-same 80 (front ++ fitted 66 name) (omega (arith, length-append front (fitted 66 name), length-fitted 66 name))
    ∙ sym (fitted-append 66 front name)
    ∙ ap (λ n. fitted n (front ++ name)) whole
