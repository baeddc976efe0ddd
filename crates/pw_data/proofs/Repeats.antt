-- Pieces that repeat.
use Rattle.std.proofs.Common.{◌≡◌, ℕ, zero, suc, ◌+◌, List, ◌++◌, sym, ap, ◌∙◌, append_assoc, add-one}
use Rattle.std.proofs.lemmas.List.{append-nil}
use Rattle.std.specs.List.{repeat}

-- one piece more may stand in front or behind
repeat-behind : (n : ℕ) (piece : List ℕ) → repeat n piece ++ piece ≡ piece ++ repeat n piece
repeat-behind zero piece = sym (append-nil piece)
repeat-behind (suc n) piece = append_assoc piece (repeat n piece) piece ∙ ap (λ xs. piece ++ xs) (repeat-behind n piece)

-- one piece more
pub repeat-more : (before piece now next : List ℕ) (n : ℕ) → now ≡ before ++ repeat n piece → next ≡ now ++ piece → next ≡ before ++ repeat (n + 1) piece
repeat-more before piece now next n now_is next_is =
    next_is ∙ ap (λ xs. xs ++ piece) now_is ∙ append_assoc before (repeat n piece) piece ∙ ap (λ xs. before ++ xs) (repeat-behind n piece)
    ∙ ap (λ k. before ++ repeat k piece) (sym (add-one n))
