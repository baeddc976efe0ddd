-- A run over one answer more goes through the verb at which that answer is taken.
use Rattle.std.proofs.Common.{◌≡◌, ℕ, zero, suc, Bool, true, false, List, [], ◌∷◌, ◌++◌, refl, sym, ap, ◌∙◌, subst}
use Rattle.pw_code_meaning.specs.Runs.{Run, runs, ComesBy}

module _ {C A : Type 0} (at_verb : C → Bool) (step : C → C) (put : A → C → C) where
  abbrev Gets : ℕ → C → List A → C → Type 0
  Gets n c answers d = runs at_verb step put n c answers ≡ record { at = d; left = [] }

  abbrev Reaches : C → List A → C → Type 0
  Reaches c answers d = ComesBy at_verb step put c answers d

  abbrev turn : ℕ → C → List A → Bool → Run C A
  turn n c answers b = elim b as (λ _. Run C A) [
    | true ↦ elim answers as (λ _. Run C A) [ [] ↦ record { at = c; left = [] } | a ∷ rest ↦ runs at_verb step put n (put a c) rest ]
    | false ↦ runs at_verb step put n (step c) answers
  ]

  some-left : (x : A) (xs : List A) → x ∷ xs ≡ [] → ⊥
  some-left x xs e = absurd cc

  more-left : (xs : List A) (x : A) → xs ++ x ∷ [] ≡ [] → ⊥
  more-left [] x e = absurd cc
  more-left (y ∷ ys) x e = absurd cc

  -- at the verb
  at-once : (a : A) (d : C) → at_verb d ≡ true → (m : ℕ) (e : C) → Gets m d (a ∷ []) e → Reaches (put a d) [] e
  at-once a d v zero e h = absurd (some-left a [] (ap (λ (r : Run C A). r.left) h))
  at-once a d v (suc m) e h = (m, ap (turn m d (a ∷ [])) (sym v) ∙ h)

  from-start : (a : A) (c d : C) (answers : List A) → at_verb d ≡ true → c ≡ d → answers ≡ [] → (m : ℕ) (e : C) → Gets m c (answers ++ a ∷ []) e → Reaches (put a d) [] e
  from-start a c d answers v same none m e h =
      at-once a d v m e (subst (λ (x : C). Gets m x (a ∷ []) e) same (subst (λ (xs : List A). Gets m c (xs ++ a ∷ []) e) none h))

  pub splits : (a : A) (d : C) → at_verb d ≡ true → (n : ℕ) (c : C) (answers : List A) → Gets n c answers d → (m : ℕ) (e : C) → Gets m c (answers ++ a ∷ []) e → Reaches (put a d) [] e
  splits a d v zero c answers g m e h = from-start a c d answers v (ap (λ (r : Run C A). r.at) g) (ap (λ (r : Run C A). r.left) g) m e h
  splits a d v (suc n) c answers g m e h =
      both (at_verb c) answers refl m g h (λ b rest k one two. splits a d v n (put b c) rest one k e two) (λ rest k one two. splits a d v n (step c) rest one k e two)
    where
      both : (b : Bool) (q : List A) → at_verb c ≡ b → (k : ℕ) → turn n c q b ≡ record { at = d; left = [] } → Gets k c (q ++ a ∷ []) e
          → ((x : A) (rest : List A) (j : ℕ) → Gets n (put x c) rest d → Gets j (put x c) (rest ++ a ∷ []) e → Reaches (put a d) [] e)
          → ((rest : List A) (j : ℕ) → Gets n (step c) rest d → Gets j (step c) (rest ++ a ∷ []) e → Reaches (put a d) [] e) → Reaches (put a d) [] e
      both true [] is k x y one two = from-start a c d [] v (ap (λ (r : Run C A). r.at) x) refl k e y
      both true (b ∷ rest) is zero x y one two = absurd (some-left b (rest ++ a ∷ []) (ap (λ (r : Run C A). r.left) y))
      both true (b ∷ rest) is (suc j) x y one two = one b rest j x (ap (turn j c (b ∷ (rest ++ a ∷ []))) (sym is) ∙ y)
      both false q is zero x y one two = absurd (more-left q a (ap (λ (r : Run C A). r.left) y))
      both false q is (suc j) x y one two = two q j x (ap (turn j c (q ++ a ∷ [])) (sym is) ∙ y)
