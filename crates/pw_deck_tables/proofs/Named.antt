-- Lists of things whose names are names, no two the same.
use Rattle.std.proofs.Common.{◌≡◌, ℕ, suc, ◌≤◌, Bool, true, false, cond, List, [], ◌∷◌, ◌++◌, map, length, refl, sym, ap, subst, ◌∙◌, arith}
use Rattle.std.specs.Prelude.{◌||◌}
use Rattle.std.specs.List.{filter, list_any, AllByRecursion, IsDistinct}
use Rattle.std.specs.Str.{bytes_eq}
use Rattle.std.proofs.lemmas.List.{map-append}
use Rattle.std.proofs.lemmas.List.Elements.{All-from_recursion}
use Rattle.std.proofs.lemmas.Bool.{or_parts}
use Rattle.pw_base.proofs.Plain.{all-last}
use Rattle.pw_code.specs.Names.{IsName, AreNames}

-- these are the names of one kind
pub record Named (names : List (List ℕ)) : Type 0 where
  pub each : AllByRecursion IsName names
  pub distinct : IsDistinct bytes_eq names

pub are_names : (names : List (List ℕ)) → Named names → AreNames names
are_names names h = record { each = All-from_recursion IsName names h.each; distinct = h.distinct }

pub none_named : Named []
unfolding IsDistinct
none_named = record { each = tt; distinct = tt }

distinct_more : (names : List (List ℕ)) (name : List ℕ) → IsDistinct bytes_eq names → list_any (λ known. bytes_eq known name) names ≡ false
    → IsDistinct bytes_eq (names ++ name ∷ [])
unfolding IsDistinct
distinct_more [] name distinct new = (tt, tt)
distinct_more (x ∷ xs) name distinct new =
    let apart = or_parts (bytes_eq x name) (list_any (λ known. bytes_eq known name) xs) new in
    (all-last (λ y. bytes_eq x y ≡ false) xs name distinct.0 apart.0, distinct_more xs name distinct.1 apart.1)

any_map : {X : Type 0} (f : X → List ℕ) (name : List ℕ) (xs : List X) → list_any (λ known. bytes_eq known name) (map f xs) ≡ list_any (λ x. bytes_eq (f x) name) xs
any_map f name [] = refl
any_map f name (x ∷ xs) = ap (λ b. bytes_eq (f x) name || b) (any_map f name xs)

-- one thing more, of a name that none has
pub named_more : {X : Type 0} (f : X → List ℕ) (xs : List X) (x : X) → Named (map f xs) → IsName (f x) → list_any (λ y. bytes_eq (f y) (f x)) xs ≡ false
    → Named (map f (xs ++ x ∷ []))
named_more f xs x named is new =
    let h : Named (map f xs ++ f x ∷ []) = record {
      each = all-last IsName (map f xs) (f x) named.each is;
      distinct = distinct_more (map f xs) (f x) named.distinct (any_map f (f x) xs ∙ new);
    } in
    subst Named (sym (map-append f xs (x ∷ []))) h

kept_all : {X : Type 0} (P : List ℕ → Type 0) (f : X → List ℕ) (p : X → Bool) (xs : List X) → AllByRecursion P (map f xs) → AllByRecursion P (map f (filter p xs))
kept_all P f p [] h = tt
kept_all {X} P f p (x ∷ xs) h = go (p x) (kept_all P f p xs h.1)
  where
    go : (b : Bool) → AllByRecursion P (map f (filter p xs)) → AllByRecursion P (map f (cond b (x ∷ filter p xs) (filter p xs)))
    go true rest = (h.0, rest)
    go false rest = rest

kept_distinct : {X : Type 0} (f : X → List ℕ) (p : X → Bool) (xs : List X) → IsDistinct bytes_eq (map f xs) → IsDistinct bytes_eq (map f (filter p xs))
unfolding IsDistinct
kept_distinct f p [] h = tt
kept_distinct f p (x ∷ xs) h = go (p x) (kept_distinct f p xs h.1)
  where
    go : (b : Bool) → IsDistinct bytes_eq (map f (filter p xs)) → IsDistinct bytes_eq (map f (cond b (x ∷ filter p xs) (filter p xs)))
    go true rest = (kept_all (λ y. bytes_eq (f x) y ≡ false) f p xs h.0, rest)
    go false rest = rest

-- those that pass a test
pub named_kept : {X : Type 0} (f : X → List ℕ) (p : X → Bool) (xs : List X) → Named (map f xs) → Named (map f (filter p xs))
named_kept f p xs named = record { each = kept_all IsName f p xs named.each; distinct = kept_distinct f p xs named.distinct }

pub filter_le : {X : Type 0} (p : X → Bool) (xs : List X) → length (filter p xs) ≤ length xs
filter_le p [] = omega arith
filter_le p (x ∷ xs) = go (p x) (filter_le p xs)
  where
    go : (b : Bool) → length (filter p xs) ≤ length xs → length (cond b (x ∷ filter p xs) (filter p xs)) ≤ suc (length xs)
    go true le = omega (arith, le)
    go false le = omega (arith, le)
