-- A line of places, each once, beside whether each place stands in line.
use Rattle.std.proofs.Common.{◌≡◌, ◌≢◌, ℕ, ◌+◌, ◌<◌, ◌≤◌, ◌||◌, ◌++◌, [], ◌∷◌, Bool, true, false, List, length, replicate, ⊎_elim, refl, subst, sym, ap, ap₂, ◌∙◌, length-append, arith}
use Rattle.std.specs.Prelude.{◌==◌, slice_set, slice_index_or}
use Rattle.std.specs.List.{AllByRecursion, IsDistinct, list_any}
use Rattle.std.proofs.Math.Bool.{or-false, or-true}
use Rattle.std.proofs.lemmas.Bool.{cases_Bool, eqb-true, eq-eqb}
use Rattle.std.proofs.lemmas.Cmp.{nat_eq_equiv}
use Rattle.std.proofs.lemmas.List.{get_or-replicate, get_or-set_other, get_or-set_same, length-replicate, length-set}
use Rattle.std.proofs.lemmas.List.Folds.{list_any-append}
use Rattle.std.proofs.lemmas.Map.Keys.{IsDistinct-head, IsDistinct-push, IsDistinct-tail}
use Rattle.std.proofs.lemmas.Map.Steps.{length-le_from_distinct_below}
use Rattle.pw_actor_queue.specs.Line.{IsPlaceLine}

-- a place stands in line
abbrev is_in : ℕ → List ℕ → Bool
is_in place line = list_any (λ other. place == other) line

nobody : IsDistinct (λ (a b : ℕ). a == b) []
unfolding IsDistinct
nobody = tt

-- nobody stands in line at first
pub line-first : (capacity : ℕ) (stands : List Bool) → 408 ≤ capacity → stands ≡ replicate 408 false → IsPlaceLine capacity stands []
line-first capacity stands room is = record {
  room = room;
  size = ap length is ∙ length-replicate 408 false;
  low = λ place e. absurd (cc e);
  once = nobody;
  stands_if = λ place low. ap (λ s. slice_index_or s place false) is ∙ get_or-replicate 408 place false false low;
}

-- ---- one more

module _ (capacity : ℕ) (stands : List Bool) (line : List ℕ) (is : IsPlaceLine capacity stands line) (place : ℕ) (low : place < 408)
    (absent : slice_index_or stands place false ≡ false) where
  -- it does not stand in line yet
  outside : is_in place line ≡ false
  outside = sym (is.stands_if place low) ∙ absent

  once : IsDistinct (λ (a b : ℕ). a == b) (line ++ place ∷ [])
  once = IsDistinct-push nat_eq_equiv line place is.once outside

  one-more : (q : ℕ) → is_in q (line ++ place ∷ []) ≡ (is_in q line || q == place)
  one-more q = list_any-append (λ other. q == other) line (place ∷ []) ∙ ap (λ b. is_in q line || b) (or-false (q == place))

  others : (q : ℕ) → (q == place) ≡ false → is_in q (line ++ place ∷ []) ≡ is_in q line
  others q differ = one-more q ∙ (ap (λ b. is_in q line || b) differ ∙ or-false (is_in q line))

  itself : (q : ℕ) → (q == place) ≡ true → is_in q (line ++ place ∷ []) ≡ true
  itself q same = one-more q ∙ (ap (λ b. is_in q line || b) same ∙ or-true (is_in q line))

  below : (q : ℕ) → is_in q (line ++ place ∷ []) ≡ true → q < 408
  below q e =
      ⊎_elim
      (λ same. subst (λ n. n < 408) (sym (eqb-true q place same)) low)
      (λ differ. is.low q (sym (others q differ) ∙ e))
      (cases_Bool (q == place))

  -- so there is room for it
  pub room-more : length line < 408
  room-more =
      let all : length (line ++ place ∷ []) ≤ 408 = length-le_from_distinct_below (line ++ place ∷ []) 408 once below in
      let long : length (line ++ place ∷ []) ≡ length line + 1 = length-append line (place ∷ []) in
      omega (arith, all, long)

  stands-more : (q : ℕ) → q < 408 → slice_index_or (slice_set stands place true) q false ≡ is_in q (line ++ place ∷ [])
  stands-more q lt =
      ⊎_elim
      (λ same.
      let within : place < length stands = let size = is.size in omega (arith, low, size) in
      ap (λ n. slice_index_or (slice_set stands place true) n false) (eqb-true q place same)
      ∙ (get_or-set_same stands place true false within ∙ sym (itself q same)))
      (λ differ.
      let apart : q ≢ place = λ e. let same : (q == place) ≡ true = eq-eqb q place e in cc (same, differ) in
      get_or-set_other stands place q true false apart ∙ (is.stands_if q lt ∙ sym (others q differ)))
      (cases_Bool (q == place))

  pub line-more : (room : ℕ) → capacity ≤ room → IsPlaceLine room (slice_set stands place true) (line ++ place ∷ [])
  line-more room more = record {
    room = let r = is.room in omega (arith, r, more);
    size = length-set stands place true ∙ is.size;
    low = below;
    once = once;
    stands_if = stands-more;
  }

-- ---- one less

-- nobody behind the first is the first again
none-of : (place : ℕ) (line : List ℕ) → AllByRecursion (λ other. (place == other) ≡ false) line → is_in place line ≡ false
none-of place [] all = refl
none-of place (other ∷ line) all = ap₂ (λ a b. a || b) all.0 (none-of place line all.1)

module _ (capacity : ℕ) (stands : List Bool) (place : ℕ) (line : List ℕ) (is : IsPlaceLine capacity stands (place ∷ line)) where
  pub first-low : place < 408
  first-low =
      let same : (place == place) ≡ true = eq-eqb place place refl in
      is.low place (ap (λ b. b || is_in place line) same)

  left : is_in place line ≡ false
  left = none-of place line (IsDistinct-head (λ (a b : ℕ). a == b) place line is.once)

  stands-less : (q : ℕ) → q < 408 → slice_index_or (slice_set stands place false) q false ≡ is_in q line
  stands-less q lt =
      ⊎_elim
      (λ same.
      let at : q ≡ place = eqb-true q place same in
      let within : place < length stands = let size = is.size in let low = first-low in omega (arith, low, size) in
      ap (λ n. slice_index_or (slice_set stands place false) n false) at
      ∙ (get_or-set_same stands place false false within ∙ (sym left ∙ ap (λ n. is_in n line) (sym at))))
      (λ differ.
      let apart : q ≢ place = λ e. let same : (q == place) ≡ true = eq-eqb q place e in cc (same, differ) in
      get_or-set_other stands place q false false apart
      ∙ (is.stands_if q lt ∙ ap (λ b. b || is_in q line) differ))
      (cases_Bool (q == place))

  pub line-less : (room : ℕ) → room ≡ capacity → IsPlaceLine room (slice_set stands place false) line
  line-less room same = record {
    room = let r = is.room in omega (arith, r, same);
    size = length-set stands place false ∙ is.size;
    low = λ q e. is.low q (ap (λ b. (q == place) || b) e ∙ or-true (q == place));
    once = IsDistinct-tail (λ (a b : ℕ). a == b) place line is.once;
    stands_if = stands-less;
  }
