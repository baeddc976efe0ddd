-- Runs that go on, and where they come to.
use Rattle.std.proofs.Common.{◌≡◌, ℕ, zero, suc, ◌+◌, Bool, true, false, List, [], ◌∷◌, ◌++◌, refl, sym, ap, ◌∙◌, subst, arith}
use Rattle.pw_code_meaning.specs.Runs.{Run, runs, ComesBy}

module _ {C A : Type 0} (at_verb : C → Bool) (step : C → C) (put : A → C → C) where
  abbrev Gets : ℕ → C → List A → C → Type 0
  Gets n c answers d = runs at_verb step put n c answers ≡ record { at = d; left = [] }

  abbrev Reaches : C → List A → C → Type 0
  Reaches c answers d = ComesBy at_verb step put c answers d

  -- one turn of a run, by whether it stands at a verb
  abbrev turn : ℕ → C → List A → Bool → Run C A
  turn n c answers b = elim b as (λ _. Run C A) [
    | true ↦ elim answers as (λ _. Run C A) [ [] ↦ record { at = c; left = [] } | a ∷ rest ↦ runs at_verb step put n (put a c) rest ]
    | false ↦ runs at_verb step put n (step c) answers
  ]

  -- ---- a run that was cut short goes on

  on_zero : (c d : C) (answers : List A) → at_verb d ≡ false → Gets 0 c answers d → Reaches c answers (step d)
  on_zero c d answers v h = (1, ap (λ (r : Run C A). runs at_verb step put 1 r.at r.left) h ∙ ap (turn 0 d []) v)

  on_more : (d : C) → at_verb d ≡ false → (n : ℕ) (c : C) (answers : List A) → Gets n c answers d → Reaches c answers (step d)
  on_more d v zero c answers h = on_zero c d answers v h
  on_more d v (suc n) c answers h = both (at_verb c) answers refl h (λ a rest. on_more d v n (put a c) rest) (on_more d v n (step c) answers)
    where
      both : (b : Bool) (q : List A) → at_verb c ≡ b → turn n c q b ≡ record { at = d; left = [] }
          → ((a : A) (rest : List A) → Gets n (put a c) rest d → Reaches (put a c) rest (step d))
          → (Gets n (step c) q d → Reaches (step c) q (step d)) → Reaches c q (step d)
      both true [] e x ih jh = on_zero c d [] v x
      both true (a ∷ rest) e x ih jh = let r = ih a rest x in (suc r.0, ap (turn r.0 c (a ∷ rest)) e ∙ r.1)
      both false q e x ih jh = let r = jh x in (suc r.0, ap (turn r.0 c q) e ∙ r.1)

  pub goes_on : (c d : C) (answers : List A) → Reaches c answers d → at_verb d ≡ false → Reaches c answers (step d)
  goes_on c d answers h v = on_more d v h.0 c answers h.1

  -- ---- a run to the next verb stands for the same answers

  further : (c : C) (answers : List A) (m : ℕ) (d e : C) → Reaches c answers d → Gets m d [] e → Reaches c answers e
  further c answers zero d e h g = subst (λ x. Reaches c answers x) (ap (λ (r : Run C A). r.at) g) h
  further c answers (suc m) d e h g = pick (at_verb d) refl g (λ k. further c answers m (step d) e k)
    where
      pick : (b : Bool) → at_verb d ≡ b → turn m d [] b ≡ record { at = e; left = [] }
          → (Reaches c answers (step d) → Gets m (step d) [] e → Reaches c answers e) → Reaches c answers e
      pick true v x again = subst (λ y. Reaches c answers y) (ap (λ (r : Run C A). r.at) x) h
      pick false v x again = again (goes_on c d answers h v) x

  pub runs_on : (c d e : C) (answers : List A) → Reaches c answers d → Reaches d [] e → Reaches c answers e
  runs_on c d e answers h g = further c answers g.0 d e h g.1

  -- ---- an answer that is put in at a verb stands for one answer more

  one_answer : (a : A) (d : C) → at_verb d ≡ true → (n : ℕ) (c : C) (answers : List A) → Gets n c answers d → Reaches c (answers ++ a ∷ []) (put a d)
  one_answer a d v zero c answers h = at_once c answers h
    where
      at_once : (c : C) (answers : List A) → Gets 0 c answers d → Reaches c (answers ++ a ∷ []) (put a d)
      at_once c answers h = (1, ap (λ (r : Run C A). runs at_verb step put 1 r.at (r.left ++ a ∷ [])) h ∙ ap (turn 0 d (a ∷ [])) v)
  one_answer a d v (suc n) c answers h =
      both (at_verb c) answers refl h (λ b rest. one_answer a d v n (put b c) rest) (one_answer a d v n (step c) answers)
    where
      both : (b : Bool) (q : List A) → at_verb c ≡ b → turn n c q b ≡ record { at = d; left = [] }
          → ((x : A) (rest : List A) → Gets n (put x c) rest d → Reaches (put x c) (rest ++ a ∷ []) (put a d))
          → (Gets n (step c) q d → Reaches (step c) (q ++ a ∷ []) (put a d)) → Reaches c (q ++ a ∷ []) (put a d)
      both true [] e x ih jh = (1, ap (λ (r : Run C A). runs at_verb step put 1 r.at (a ∷ [])) x ∙ ap (turn 0 d (a ∷ [])) v)
      both true (y ∷ q) e x ih jh = let r = ih y q x in (suc r.0, ap (turn r.0 c (y ∷ (q ++ a ∷ []))) e ∙ r.1)
      both false q e x ih jh = let r = jh x in (suc r.0, ap (turn r.0 c (q ++ a ∷ [])) e ∙ r.1)

  pub answers_on : (c d : C) (answers : List A) (a : A) → Reaches c answers d → at_verb d ≡ true → Reaches c (answers ++ a ∷ []) (put a d)
  answers_on c d answers a h v = one_answer a d v h.0 c answers h.1

  -- ---- a run that stands at a verb stays there, so there is one such place alone

  one_more : (d : C) → at_verb d ≡ true → (n : ℕ) (c : C) (answers : List A) → Gets n c answers d → Gets (suc n) c answers d
  one_more d v zero c answers h = stays c answers h
    where
      stays : (c : C) (answers : List A) → Gets 0 c answers d → Gets 1 c answers d
      stays c answers h = ap (λ (r : Run C A). runs at_verb step put 1 r.at r.left) h ∙ ap (turn 0 d []) v
  one_more d v (suc n) c answers h =
      both (at_verb c) answers refl h (λ a rest. one_more d v n (put a c) rest) (one_more d v n (step c) answers)
    where
      both : (b : Bool) (q : List A) → at_verb c ≡ b → turn n c q b ≡ record { at = d; left = [] }
          → ((a : A) (rest : List A) → Gets n (put a c) rest d → Gets (suc n) (put a c) rest d)
          → (Gets n (step c) q d → Gets (suc n) (step c) q d) → Gets (suc (suc n)) c q d
      both true [] e x ih jh = ap (turn (suc n) c []) e ∙ x
      both true (a ∷ rest) e x ih jh = ap (turn (suc n) c (a ∷ rest)) e ∙ ih a rest x
      both false q e x ih jh = ap (turn (suc n) c q) e ∙ jh x

  many_more : (k : ℕ) (d : C) → at_verb d ≡ true → (n : ℕ) (c : C) (answers : List A) → Gets n c answers d → Gets (k + n) c answers d
  many_more zero d v n c answers h = let e : n ≡ 0 + n = omega arith in subst (λ m. Gets m c answers d) e h
  many_more (suc k) d v n c answers h =
      let e : suc (k + n) ≡ suc k + n = omega arith in
      subst (λ m. Gets m c answers d) e (one_more d v (k + n) c answers (many_more k d v n c answers h))

  pub one_place : (c d e : C) (answers : List A) → Reaches c answers d → Reaches c answers e → at_verb d ≡ true → at_verb e ≡ true → d ≡ e
  one_place c d e answers g h v w =
      let swap : h.0 + g.0 ≡ g.0 + h.0 = omega arith in
      let first : Gets (g.0 + h.0) c answers d = subst (λ m. Gets m c answers d) swap (many_more h.0 d v g.0 c answers g.1) in
      let second : Gets (g.0 + h.0) c answers e = many_more g.0 e w h.0 c answers h.1 in
      ap (λ (r : Run C A). r.at) (sym first ∙ second)
