-- Words that are joined, and cut again.
use Rattle.std.proofs.Common.{◌≡◌, ℕ, false, List, [], ◌∷◌, refl, ap, ◌∙◌, All}
use Rattle.std.specs.Prelude.{◌==◌}
use Rattle.std.specs.List.{AllByRecursion, join_with_byte, slice_split}
use Rattle.std.proofs.lemmas.Bool.{eq-eqb}
use Rattle.std.proofs.lemmas.List.Splits.{slice_split_none, slice_split_at}

-- no byte of a word is c
abbrev pub Lacks : ℕ → List ℕ → Type 0
Lacks c word = All (λ b. (b == c) ≡ false) word

-- words without the byte that joins them are what they are cut into
pub split_joined : (c : ℕ) (word : List ℕ) (words : List (List ℕ)) → AllByRecursion (Lacks c) (word ∷ words)
    → slice_split (λ b. b == c) (join_with_byte c (word ∷ words)) ≡ word ∷ words
split_joined c word [] lacks = slice_split_none (λ b. b == c) word lacks.0
split_joined c word (next ∷ words) lacks =
    slice_split_at (λ b. b == c) word c (join_with_byte c (next ∷ words)) lacks.0 (eq-eqb c c refl) ∙ ap (λ rest. word ∷ rest) (split_joined c next words lacks.1)
