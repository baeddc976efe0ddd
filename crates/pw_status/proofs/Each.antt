-- A list that is changed item by item.
use Rattle.std.proofs.Common.{◌≡◌, ℕ, zero, suc, ◌+◌, ◌-◌, ◌<◌, ◌++◌, Bool, true, false, List, [], ◌∷◌, length, map, take, drop, add-one, refl, sym, ap, ◌∙◌, arith}
use Rattle.std.proofs.Math.ListN.{get_or, set}
use Rattle.std.proofs.lemmas.List.Sums.{count_by_more_no, count_by_more_yes}
use Rattle.std.specs.Prelude.{◌==◌, count_by, if◌then◌else◌}

module _ {A : Type 0} where
  set-step : (g : A → A) (first : List A) (i : ℕ) (x d : A) → i < length first → x ≡ g (get_or (map g (take i first) ++ drop i first) i d)
      → set (map g (take i first) ++ drop i first) i x ≡ map g (take (suc i) first) ++ drop (suc i) first
  set-step g [] i x d within is = absurd (omega arith)
  set-step g (a ∷ first) zero x d within is = ap (λ (y : A). y ∷ first) is
  set-step g (a ∷ first) (suc i) x d within is = ap (λ (l : List A). g a ∷ l) (set-step g first i x d (omega arith) is)

  -- one item more is changed
  pub each-step : (g : A → A) (items first : List A) (i : ℕ) (x d : A) → items ≡ map g (take i first) ++ drop i first → i < length first → x ≡ g (get_or items i d)
      → set items i x ≡ map g (take (i + 1) first) ++ drop (i + 1) first
  each-step g items first i x d so within is =
      rw add-one
      (ap (λ (l : List A). set l i x) so ∙ set-step g first i x d within (is ∙ ap (λ (l : List A). g (get_or l i d)) so))

-- a count of one item
pub one-item : {A : Type 0} (p : A → Bool) (x : A) (c : Bool) → p x ≡ c → count_by p (x ∷ []) ≡ (if c then 1 else 0)
one-item p x c is =
    let one : (if p x then 1 else 0) ≡ (if c then 1 else 0) = ap (λ (b : Bool). if b then 1 else 0) is in
    zero-plus (if p x then 1 else 0) ∙ one
  where
    zero-plus : (n : ℕ) → 0 + n ≡ n
    zero-plus n = omega arith

-- one less where the next item is this one
pub less-more : (items : List ℕ) (i item f before now next : ℕ) → i < length items → item ≡ get_or items i item → now ≡ before - count_by (λ one. one == f) (take i items)
    → next ≡ now - (if item == f then 1 else 0) → next ≡ before - count_by (λ one. one == f) (take (i + 1) items)
less-more items i item f before now next within here so is = by (item == f) refl is
  where
    by : (b : Bool) → (item == f) ≡ b → next ≡ now - (if b then 1 else 0) → next ≡ before - count_by (λ one. one == f) (take (i + 1) items)
    by true test last =
        let more = count_by_more_yes (λ (one : ℕ). one == f) items i item within (ap (λ (one : ℕ). one == f) (sym here) ∙ test) in
        omega (arith, so, last, more)
    by false test last =
        let more = count_by_more_no (λ (one : ℕ). one == f) items i item within (ap (λ (one : ℕ). one == f) (sym here) ∙ test) in
        omega (arith, so, last, more)
