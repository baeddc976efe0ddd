-- Marks of cells.
use Rattle.std.proofs.Common.{◌≡◌, ◌≢◌, ℕ, zero, suc, ◌+◌, ◌-◌, ◌<◌, Bool, true, false, List, ◌∷◌, length, refl, sym, ap, ◌∙◌, subst, arith, get_or-set_other, get_or-set_same, eq-eqb}
use Rattle.std.specs.Prelude.{◌||◌, ◌==◌, replicate, slice_set}
use Rattle.std.specs.List.{list_any}
use Rattle.std.proofs.lemmas.Bool.{eqb-true}
use Rattle.std.proofs.lemmas.Bool.Decides.{nat_tests}
use Rattle.pw_screen.specs.Cells.{places_from, is_place_within, is_marked}

-- one more place
places-more : (from count : ℕ) → 0 < count → places_from from count ≡ from ∷ places_from (from + 1) (count - 1)
places-more from zero some = absurd (omega arith)
places-more from (suc count) some =
    let e : suc count - 1 ≡ count = omega arith in
    ap (λ n. from ∷ places_from (from + 1) n) (sym e)

-- the first place is marked
pub any-marked : (marks : List Bool) (from count : ℕ) → 0 < count → is_marked marks from ≡ true → list_any (is_marked marks) (places_from from count) ≡ true
any-marked marks from count some is =
    ap (list_any (is_marked marks)) (places-more from count some) ∙ ap (λ b. b || list_any (is_marked marks) (places_from (from + 1) (count - 1))) is

-- the first place is not marked
pub any-unmarked : (marks : List Bool) (from count : ℕ) → 0 < count → is_marked marks from ≡ false
    → list_any (is_marked marks) (places_from (from + 1) (count - 1)) ≡ list_any (is_marked marks) (places_from from count)
any-unmarked marks from count some is =
    sym (ap (list_any (is_marked marks)) (places-more from count some) ∙ ap (λ b. b || list_any (is_marked marks) (places_from (from + 1) (count - 1))) is)

-- nothing is marked at first
pub none-marked : (size place : ℕ) → is_marked (replicate size false) place ≡ false
none-marked zero place = refl
none-marked (suc size) zero = refl
none-marked (suc size) (suc place) = none-marked size place

among-same : (from done : ℕ) → is_place_within from (done + 1) (from + done) ≡ true
among-same from done = grind (arith, nat_tests)

among-other : (from done place : ℕ) → place ≢ from + done → is_place_within from (done + 1) place ≡ is_place_within from done place
among-other from done place other = grind (arith, nat_tests)

same-place : (marks : List Bool) (at place : ℕ) → at < length marks → place ≡ at → is_marked (slice_set marks at true) place ≡ true
same-place marks at place lt is =
    let P : ℕ → Type 0 = λ p. is_marked (slice_set marks at true) p ≡ true in
    subst P (sym is) (rw get_or-set_same refl)

other-place : (marks : List Bool) (at place : ℕ) → place ≢ at → is_marked (slice_set marks at true) place ≡ is_marked marks place
other-place marks at place other = rw get_or-set_other refl

module _ (marks before : List Bool) (from done : ℕ) (lt : from + done < length marks)
    (so_far : (place : ℕ) → is_marked marks place ≡ (is_place_within from done place || is_marked before place)) where
  mark-one_by : (place : ℕ) (b : Bool) → (place == (from + done)) ≡ b
      → is_marked (slice_set marks (from + done) true) place ≡ (is_place_within from (done + 1) place || is_marked before place)
  mark-one_by place true is =
      let at : place ≡ from + done = eqb-true place (from + done) is in
      same-place marks (from + done) place lt at
      ∙ sym (ap (λ p. is_place_within from (done + 1) p || is_marked before place) at ∙ ap (λ b. b || is_marked before place) (among-same from done))
  mark-one_by place false is =
      let other : place ≢ from + done = λ at. (let e : (place == (from + done)) ≡ true = eq-eqb place (from + done) at in cc) in
      other-place marks (from + done) place other ∙ so_far place ∙ ap (λ b. b || is_marked before place) (sym (among-other from done place other))

  -- one more cell is marked
  pub mark-one : (place : ℕ) → is_marked (slice_set marks (from + done) true) place ≡ (is_place_within from (done + 1) place || is_marked before place)
  mark-one place = mark-one_by place (place == (from + done)) refl
