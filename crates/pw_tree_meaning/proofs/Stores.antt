-- Putting characters into a store.
use Rattle.std.proofs.Common.{◌≡◌, ℕ, ◌+◌, Bool, true, false, List, [], ◌∷◌, length, map, drop, if◌then◌else◌, refl, ap}
use Rattle.pw_terminal.proofs.Written.{length-fitted}
use Rattle.pw_picture.specs.Text.{fitted}
use Rattle.pw_data.specs.Store.{Cell}
use Rattle.pw_tree_meaning.specs.Store.{Store, Spot, lies_in, put_from}

both : {A : Type 0} {x y : A} {xs ys : List A} → x ≡ y → xs ≡ ys → x ∷ xs ≡ y ∷ ys
both p q = cc

module _ {A : Type 0} (of : Cell → A) (same : (cell : Cell) (chars : List ℕ) → of (record cell { chars = fitted (length cell.chars) chars }) ≡ of cell) where
  one-more : (test : Bool) (cell : Cell) (cells put rest : Store) (chars : List ℕ) → map of put ≡ map of cells → map of rest ≡ map of cells
      → map of (if test then record cell { chars = fitted (length cell.chars) chars } ∷ put else cell ∷ rest) ≡ of cell ∷ map of cells
  one-more true cell cells put rest chars put_is rest_is = both (same cell chars) put_is
  one-more false cell cells put rest chars put_is rest_is = ap (λ all. of cell ∷ all) rest_is

  pub put-same : (spot : Spot) (chars : List ℕ) (place : ℕ) (store : Store) → map of (put_from spot chars place store) ≡ map of store
  put-same spot chars place [] = refl
  put-same spot chars place (cell ∷ cells) =
      one-more (lies_in spot place) cell cells _ _ chars
      (put-same spot (drop (length cell.chars) chars) (place + length cell.chars) cells)
      (put-same spot chars (place + length cell.chars) cells)

pub put-sizes : (spot : Spot) (chars : List ℕ) (store : Store) → map (λ cell. length cell.chars) (put_from spot chars 0 store) ≡ map (λ cell. length cell.chars) store
put-sizes spot chars store = put-same (λ cell. length cell.chars) (λ cell chars. length-fitted (length cell.chars) chars) spot chars 0 store

pub put-items : (spot : Spot) (chars : List ℕ) (store : Store) → map (λ cell. cell.item) (put_from spot chars 0 store) ≡ map (λ cell. cell.item) store
put-items spot chars store = put-same (λ cell. cell.item) (λ cell chars. refl) spot chars 0 store
