-- Into which blocks a content splits its block.
use Rattle.std.proofs.Common.{◌≡◌, ℕ, ◌+◌, ◌<◌, ◌≤◌, ◌∙◌, refl, sym, ap, List, [], ◌∷◌, ◌++◌, length}
use Rattle.pw_base.proofs.Plain.{le-true, le-false}
use Rattle.pw_blocks.specs.Packing.{IsBlock, packed_all, unpacked}
use Rattle.pw_blocks.specs.Splits.{split, split_by}
use Rattle.pw_blocks.proofs.BlockLemmas.{unpacked-none}

-- two and three items that are pushed
pub two-items : {A : Type 0} (s t u : List A) (x y v w : A) → s ≡ [] → t ≡ s ++ x ∷ [] → u ≡ t ++ y ∷ [] → x ≡ v → y ≡ w → u ≡ v ∷ w ∷ []
two-items s t u x y v w a b c d e =
    c ∙ (ap (λ zs. zs ++ y ∷ []) (b ∙ ap (λ zs. zs ++ x ∷ []) a) ∙ (ap (λ z. z ∷ y ∷ []) d ∙ ap (λ z. v ∷ z ∷ []) e))

pub three-items : {A : Type 0} (s t u r : List A) (x y z v w o : A) → s ≡ [] → t ≡ s ++ x ∷ [] → u ≡ t ++ y ∷ [] → r ≡ u ++ z ∷ [] → x ≡ v → y ≡ w → z ≡ o → r ≡ v ∷ w ∷ o ∷ []
three-items s t u r x y z v w o a b c d e f g =
    d ∙ (ap (λ zs. zs ++ z ∷ []) (two-items s t u x y v w a b c e f) ∙ ap (λ q. v ∷ w ∷ q ∷ []) g)

-- a content with no records behind it, or before it
pub last-alone : (before : List (List ℕ)) (content : List ℕ) (block : List (List ℕ)) → block ≡ before ++ content ∷ unpacked [] → block ≡ before ++ content ∷ []
last-alone before content block is = is ∙ ap (λ xs. before ++ content ∷ xs) unpacked-none

pub first-alone : (behind : List (List ℕ)) (content : List ℕ) (block : List (List ℕ)) → block ≡ unpacked [] ++ content ∷ behind → block ≡ content ∷ behind
first-alone behind content block is = is ∙ ap (λ xs. xs ++ content ∷ behind) unpacked-none

module _ (b h content : List ℕ) (block_b : IsBlock b) (block_h : IsBlock h) (full : 4096 < length b + (length content + 2) + length h) where
  sizes : split (unpacked b) content (unpacked h) ≡ split_by (length b) (length content + 2) (length h) (unpacked b) content (unpacked h)
  sizes =
      ap (λ xs. split_by (length xs) (length content + 2) (length (packed_all (unpacked h))) (unpacked b) content (unpacked h)) block_b.whole
      ∙ ap (λ xs. split_by (length b) (length content + 2) (length xs) (unpacked b) content (unpacked h)) block_h.whole

  -- the content fits beside the first part
  pub split-first : length b + (length content + 2) ≤ 4096 → (unpacked b ++ content ∷ []) ∷ unpacked h ∷ [] ≡ split (unpacked b) content (unpacked h)
  split-first fits = sym (sizes ∙ rw (le-false _ _ full, le-true _ _ fits) refl)

  -- or beside the second alone
  pub split-second : 4096 < length b + (length content + 2) → length content + 2 + length h ≤ 4096 → unpacked b ∷ (content ∷ unpacked h) ∷ [] ≡ split (unpacked b) content (unpacked h)
  split-second first fits = sym (sizes ∙ rw (le-false _ _ full, le-false _ _ first, le-true _ _ fits) refl)

  -- or beside neither
  pub split-neither : 4096 < length b + (length content + 2) → 4096 < length content + 2 + length h → unpacked b ∷ (content ∷ []) ∷ unpacked h ∷ [] ≡ split (unpacked b) content (unpacked h)
  split-neither first second = sym (sizes ∙ rw (le-false _ _ full, le-false _ _ first, le-false _ _ second) refl)
