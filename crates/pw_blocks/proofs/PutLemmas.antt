-- Items put in place of one.
use Rattle.std.proofs.Common.{◌≡◌, ℕ, zero, suc, ◌<◌, ◌∙◌, sym, ap, refl, arith, List, [], ◌∷◌, ◌++◌, map, take, drop, set, length, length-take, length-append}
use Rattle.std.specs.Prelude.{remove}
use Rattle.std.proofs.lemmas.List.{take_at, drop_at, set_split, map-append}
use Rattle.pw_blocks.specs.Blocks.{with_blocks}

-- the last of all items, behind those that are left, stand behind a place of an old list
abbrev pub IsPut : {A : Type 0} → List A → ℕ → List A → List A → List A → Type 0
IsPut {A} old place items left now = (last : List A) × (left ++ last ≡ items) × (now ≡ take (suc place) old ++ (last ++ drop (suc place) old))

module _ {A : Type 0} (old : List A) (place : ℕ) where
  module _ (within : place < length old) (rest : List A) where
    front_long : length (take (suc place) old) ≡ suc place
    front_long = omega (arith, length-take (suc place) old)

    -- what stands before a place, and behind it, with the one there
    pub behind_are : drop (suc place) (take (suc place) old ++ rest) ≡ rest
    behind_are = drop_at (take (suc place) old) rest (suc place) front_long

    pub front_are : take (suc place) (take (suc place) old ++ rest) ≡ take (suc place) old
    front_are = take_at (take (suc place) old) rest (suc place) front_long

    pub before_are : take place (take (suc place) old ++ rest) ≡ take place old
    before_are = before place old within
      where
        before : (place : ℕ) (old : List A) → place < length old → take place (take (suc place) old ++ rest) ≡ take place old
        before place [] h = absurd (omega (arith, h))
        before zero (x ∷ xs) h = refl
        before (suc place) (x ∷ xs) h = ap (λ ys. x ∷ ys) (before place xs (omega (arith, h)))

  -- the first one is written over the one at the place
  pub put_first : place < length old → (items left now : List A) (item : A) → IsPut old place items left now → left ≡ item ∷ [] → set now place item ≡ with_blocks old place items
  put_first within items left now item put one =
      let tail : List A = put.0 ++ drop (suc place) old in
      let here : place < length (take (suc place) old ++ tail) = omega (arith, length-append (take (suc place) old) tail, length-take (suc place) old) in
      let all : items ≡ item ∷ put.0 = sym put.1 ∙ ap (λ xs. xs ++ put.0) one in
      ap (λ xs. set xs place item) put.2 ∙ set_split (take (suc place) old ++ tail) place item here
      ∙ ap (λ xs. xs ++ item ∷ drop (suc place) (take (suc place) old ++ tail)) (before_are within tail)
      ∙ ap (λ xs. take place old ++ item ∷ xs) (behind_are within tail)
      ∙ ap (λ xs. take place old ++ (xs ++ drop (suc place) old)) (sym all)

  -- where there is none, the one at the place goes
  pub put_nothing : place < length old → (items left now : List A) → IsPut old place items left now → left ≡ [] → remove now place ≡ with_blocks old place items
  put_nothing within items left now put none =
      let tail : List A = put.0 ++ drop (suc place) old in
      let all : items ≡ put.0 = sym put.1 ∙ ap (λ xs. xs ++ put.0) none in
      ap (λ xs. remove xs place) put.2
      ∙ ap (λ xs. xs ++ drop (suc place) (take (suc place) old ++ tail)) (before_are within tail)
      ∙ ap (λ xs. take place old ++ xs) (behind_are within tail)
      ∙ ap (λ xs. take place old ++ (xs ++ drop (suc place) old)) (sym all)

module _ {A B : Type 0} (f : A → B) where
  map-take : (place : ℕ) (xs : List A) → map f (take place xs) ≡ take place (map f xs)
  map-take zero xs = refl
  map-take (suc place) [] = refl
  map-take (suc place) (x ∷ xs) = ap (λ ys. f x ∷ ys) (map-take place xs)

  map-drop : (place : ℕ) (xs : List A) → map f (drop place xs) ≡ drop place (map f xs)
  map-drop zero xs = refl
  map-drop (suc place) [] = refl
  map-drop (suc place) (x ∷ xs) = map-drop place xs

  -- what f gives of items in place of one
  pub map-with_blocks : (xs : List A) (place : ℕ) (ys : List A) → with_blocks (map f xs) place (map f ys) ≡ map f (with_blocks xs place ys)
  map-with_blocks xs place ys =
      sym (map-append f (take place xs) (ys ++ drop (suc place) xs)
      ∙ ap (λ zs. zs ++ map f (ys ++ drop (suc place) xs)) (map-take place xs)
      ∙ ap (λ zs. take place (map f xs) ++ zs) (map-append f ys (drop (suc place) xs) ∙ ap (λ zs. map f ys ++ zs) (map-drop (suc place) xs)))
