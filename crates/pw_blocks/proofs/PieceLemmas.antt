-- The records of a few blocks that are put behind one another.
use Rattle.std.proofs.Common.{◌≡◌, ℕ, ◌≤◌, ◌∙◌, ap, arith, List, [], ◌∷◌, ◌++◌, length, length-append}
use Rattle.std.proofs.lemmas.List.{append_assoc, append-nil}
use Rattle.pw_blocks.specs.Blocks.{records_of}
use Rattle.pw_blocks.specs.Packing.{unpacked}
use Rattle.pw_blocks.proofs.BlockLemmas.{unpacked-none}

module _ (start one two three : List (List (List ℕ))) (x y z : List (List ℕ)) (first : start ≡ []) (second : one ≡ start ++ x ∷ []) (third : two ≡ one ++ y ∷ []) where
  two_blocks : two ≡ x ∷ y ∷ []
  two_blocks = third ∙ ap (λ bs. bs ++ y ∷ []) (second ∙ ap (λ bs. bs ++ x ∷ []) first)

  pub two_are : records_of two ≡ x ++ y
  two_are = ap records_of two_blocks ∙ ap (λ r. x ++ r) (append-nil y)

  pub three_are : three ≡ two ++ z ∷ [] → records_of three ≡ x ++ (y ++ z)
  three_are last = ap records_of (last ∙ ap (λ bs. bs ++ z ∷ []) two_blocks) ∙ ap (λ r. x ++ (y ++ r)) (append-nil z)

module _ (before behind x y : List (List ℕ)) (content : List ℕ) where
  -- the content beside the first part
  pub beside_first : x ≡ before ++ content ∷ unpacked [] → y ≡ behind → x ++ y ≡ before ++ content ∷ behind
  beside_first h k = ap (λ r. r ++ y) (h ∙ ap (λ r. before ++ content ∷ r) unpacked-none) ∙ append_assoc before (content ∷ []) y ∙ ap (λ r. before ++ content ∷ r) k

  -- the content beside the second
  pub beside_second : x ≡ before → y ≡ unpacked [] ++ content ∷ behind → x ++ y ≡ before ++ content ∷ behind
  beside_second h k = ap (λ r. r ++ y) h ∙ ap (λ r. before ++ r) (k ∙ ap (λ r. r ++ content ∷ behind) unpacked-none)

  -- the content beside neither
  pub beside_neither : (z : List (List ℕ)) → x ≡ before → y ≡ unpacked [] ++ content ∷ unpacked [] → z ≡ behind → x ++ (y ++ z) ≡ before ++ content ∷ behind
  beside_neither z h k l =
      ap (λ r. r ++ (y ++ z)) h ∙ ap (λ r. before ++ (r ++ z)) (k ∙ ap (λ r. r ++ content ∷ unpacked []) unpacked-none ∙ ap (λ r. content ∷ r) unpacked-none) ∙ ap (λ r. before ++ content ∷ r) l

-- the only item of a list
pub alone : {X : Type 0} (items fewer : List X) (item : X) → items ≡ fewer ++ item ∷ [] → length items ≤ 1 → items ≡ item ∷ []
alone items [] item is few = is
alone items (other ∷ fewer) item is few = absurd (omega (arith, ap length is, length-append fewer (item ∷ [])))
