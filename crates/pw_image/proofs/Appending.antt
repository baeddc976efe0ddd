-- One piece is put behind the other.
use Rattle.std.proofs.Common.{◌≡◌, ℕ, ◌+◌, ◌<◌, List, [], ◌∷◌, ◌++◌, All, length, take, get_or, append_assoc, ap, sym, subst, ◌∙◌}
use Rattle.std.proofs.lemmas.List.{flat_map_more, take_more}
use Rattle.std.proofs.lemmas.List.Elements.{All-more}
use Rattle.std.specs.List.{flat_map}

-- a piece, and what is put behind it
before : (old piece between rest new : List ℕ) → between ≡ old ++ piece → new ≡ between ++ rest → new ≡ old ++ (piece ++ rest)
before old piece between rest new e h = h ∙ ap (λ l. l ++ rest) e ∙ append_assoc old piece rest

-- three pieces
pub three : (n0 n1 n2 n3 a b c : List ℕ) → n1 ≡ n0 ++ a → n2 ≡ n1 ++ b → n3 ≡ n2 ++ c → n3 ≡ n0 ++ (a ++ (b ++ c))
three n0 n1 n2 n3 a b c one two last = before n0 a n1 (b ++ c) n3 one (before n1 b n2 c n3 two last)

-- seven pieces
pub seven : (n0 n1 n2 n3 n4 n5 n6 n7 a b c d e f g : List ℕ) → n1 ≡ n0 ++ a → n2 ≡ n1 ++ b → n3 ≡ n2 ++ c → n4 ≡ n3 ++ d → n5 ≡ n4 ++ e
    → n6 ≡ n5 ++ f → n7 ≡ n6 ++ g → n7 ≡ n0 ++ (a ++ (b ++ (c ++ (d ++ (e ++ (f ++ g))))))
seven n0 n1 n2 n3 n4 n5 n6 n7 a b c d e f g h1 h2 h3 h4 h5 h6 h7 =
    before n0 a n1 (b ++ (c ++ (d ++ (e ++ (f ++ g))))) n7 h1
    (before n1 b n2 (c ++ (d ++ (e ++ (f ++ g)))) n7 h2 (three n2 n3 n4 n7 c d (e ++ (f ++ g)) h3 h4 (three n4 n5 n6 n7 e f g h5 h6 h7)))

module _ {A : Type 0} (spell : A → List ℕ) (P : A → Type 0) (old : List ℕ) (xs : List A) (i : ℕ) (x : A) (lt : i < length xs) (is : x ≡ get_or xs i x) where
  -- the next piece stands behind those so far
  pub next-bytes : (image new : List ℕ) → image ≡ old ++ flat_map spell (take i xs) → new ≡ image ++ spell x
      → new ≡ old ++ flat_map spell (take (i + 1) xs)
  next-bytes image new so_far e =
      e ∙ ap (λ l. l ++ spell x) so_far ∙ flat_map_more spell old (take i xs) x
      ∙ ap (λ l. old ++ flat_map spell l) (ap (λ y. take i xs ++ y ∷ []) is ∙ sym (take_more xs i x lt))

  -- the next one has the property too
  pub next-all : All P (take i xs) → P x → All P (take (i + 1) xs)
  next-all so_far h = All-more P xs i x lt so_far (subst P is h)
