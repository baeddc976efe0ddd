-- Lists that are read from their end.
use Rattle.std.proofs.Common.{◌≡◌, ◌∙◌, inl, inr, refl, sym, ap, subst, Bool, true, false, ◌||◌, cond, List, [], ◌∷◌, ◌++◌, map, append-nil}
use Rattle.std.specs.Prelude.{reverse, filter, All, Contains}
use Rattle.std.specs.List.{list_any}
use Rattle.std.proofs.Math.Bool.{or_comm}
use Rattle.std.proofs.lemmas.Grind.{reverse_onto}
use Rattle.std.proofs.lemmas.List.{reverse-append, reverse-reverse}
use Rattle.std.proofs.lemmas.List.Elements.{All-append, All-nil, All-cons, All-head, All-tail, filter-append, Contains-append_cases, Contains-append_left, Contains-append_right}
use Rattle.std.proofs.lemmas.List.Folds.{list_any-append}
use Rattle.pw_base.proofs.Plain.{or-false}

-- the first of a list is the last of the reversed one
pub reverse-cons : {X : Type 0} (x : X) (xs : List X) → reverse (x ∷ xs) ≡ reverse xs ++ x ∷ []
reverse-cons x xs = reverse_onto xs x []

-- and the last one is the first
pub reverse-push : {X : Type 0} (xs : List X) (x : X) → reverse (xs ++ x ∷ []) ≡ x ∷ reverse xs
reverse-push xs x = reverse-append xs (x ∷ [])

-- a test of some element
pub list_any-reverse : {X : Type 0} (p : X → Bool) (xs : List X) → list_any p (reverse xs) ≡ list_any p xs
list_any-reverse p [] = refl
list_any-reverse p (x ∷ xs) =
    ap (list_any p) (reverse-cons x xs) ∙ (list_any-append p (reverse xs) (x ∷ [])
    ∙ (ap (λ b. b || (p x || false)) (list_any-reverse p xs) ∙ (ap (λ b. list_any p xs || b) (or-false (p x)) ∙ or_comm (list_any p xs) (p x))))

-- what passes a test
pub filter-reverse : {X : Type 0} (p : X → Bool) (xs : List X) → filter p (reverse xs) ≡ reverse (filter p xs)
filter-reverse p [] = refl
filter-reverse {X} p (x ∷ xs) =
    ap (filter p) (reverse-cons x xs) ∙ (filter-append p (reverse xs) (x ∷ []) ∙ (ap (λ ys. ys ++ filter p (x ∷ [])) (filter-reverse p xs) ∙ one (p x)))
  where
    one : (b : Bool) → reverse (filter p xs) ++ cond b (x ∷ []) [] ≡ reverse (cond b (x ∷ filter p xs) (filter p xs))
    one true = sym (reverse-cons x (filter p xs))
    one false = append-nil (reverse (filter p xs))

-- what a function makes of each
pub map-reverse : {X Y : Type 0} (f : X → Y) (xs : List X) → map f (reverse xs) ≡ reverse (map f xs)
map-reverse f [] = refl
map-reverse f (x ∷ xs) =
    ap (map f) (reverse-cons x xs) ∙ (map-append' f (reverse xs) (x ∷ []) ∙ (ap (λ ys. ys ++ f x ∷ []) (map-reverse f xs) ∙ sym (reverse-cons (f x) (map f xs))))
  where
    map-append' : {X Y : Type 0} (f : X → Y) (xs ys : List X) → map f (xs ++ ys) ≡ map f xs ++ map f ys
    map-append' f [] ys = refl
    map-append' f (x ∷ xs) ys = ap (λ zs. f x ∷ zs) (map-append' f xs ys)

-- a fact of each
pub All-reverse : {X : Type 0} (P : X → Type 0) (xs : List X) → All P xs → All P (reverse xs)
All-reverse P [] h = h
All-reverse P (x ∷ xs) h =
    subst (All P) (sym (reverse-cons x xs)) (All-append P (reverse xs) (x ∷ []) (All-reverse P xs (All-tail P x xs h)) (All-cons P x [] (All-head P x xs h) (All-nil P)))

-- and what is among them
pub Contains-reverse : {X : Type 0} (xs : List X) (y : X) → Contains xs y → Contains (reverse xs) y
Contains-reverse [] y h = h
Contains-reverse (x ∷ xs) y h =
    subst (λ ys. Contains ys y) (sym (reverse-cons x xs)) (elim (Contains-append_cases (x ∷ []) xs y h) as (λ _. Contains (reverse xs ++ x ∷ []) y) [
      | inl at ↦ Contains-append_right (reverse xs) (x ∷ []) y at
      | inr behind ↦ Contains-append_left (reverse xs) (x ∷ []) y (Contains-reverse xs y behind)
    ])

-- only the empty list is empty
pub reverse-nothing : {X : Type 0} (xs : List X) → reverse xs ≡ [] → xs ≡ []
reverse-nothing xs h = sym (reverse-reverse xs) ∙ ap reverse h
