-- Look-ups among fields.
use Rattle.std.proofs.Common.{◌≡◌, ℕ, suc, ◌+◌, Bool, true, false, cond, List, [], ◌∷◌, length, take, drop, Some, None, refl, sym, ap, ◌∙◌, arith}
use Rattle.std.specs.Prelude.{◌||◌, nat_lt, is_some}
use Rattle.std.specs.List.{list_any, position, position_or_len}
use Rattle.std.proofs.lemmas.List.{take-append-drop}
use Rattle.std.proofs.lemmas.List.Folds.{list_any-append}
use Rattle.std.proofs.lemmas.Bool.Decides.{nat_tests}

-- the first place that passes is one exactly where one passes
lt_suc : (k n : ℕ) → nat_lt (1 + k) (suc n) ≡ nat_lt k n
lt_suc k n = grind (arith, nat_tests)

before_test : {X : Type 0} (p : X → Bool) (x : X) (xs : List X) (test : Bool) → p x ≡ test → nat_lt (position_or_len p xs) (length xs) ≡ list_any p xs
    → nat_lt (position_or_len p (x ∷ xs)) (length (x ∷ xs)) ≡ (p x || list_any p xs)
before_test p x xs true is more = rw is (grind (arith, nat_tests))
before_test p x xs false is more = rw is (lt_suc (position_or_len p xs) (length xs) ∙ more)

any-before : {X : Type 0} (p : X → Bool) (xs : List X) → nat_lt (position_or_len p xs) (length xs) ≡ list_any p xs
any-before p [] = refl
any-before p (x ∷ xs) = before_test p x xs (p x) refl (any-before p xs)

some_of : {X : Type 0} (test : Bool) (x : X) → is_some (cond test (Some x) None) ≡ test
some_of true x = refl
some_of false x = refl

pub is_some-position : {X : Type 0} (p : X → Bool) (xs : List X) → is_some (position p xs) ≡ list_any p xs
is_some-position p xs = some_of (nat_lt (position_or_len p xs) (length xs)) (position_or_len p xs) ∙ any-before p xs

-- two parts may be looked through in either order
or_turned : (a b : Bool) → (a || b) ≡ (b || a)
or_turned true true = refl
or_turned true false = refl
or_turned false true = refl
or_turned false false = refl

pub any_in_parts : {X : Type 0} (p : X → Bool) (n : ℕ) (xs : List X) → (list_any p (drop n xs) || list_any p (take n xs)) ≡ list_any p xs
any_in_parts p n xs =
    or_turned (list_any p (drop n xs)) (list_any p (take n xs)) ∙ sym (list_any-append p (take n xs) (drop n xs)) ∙ ap (list_any p) (take-append-drop n xs)

-- what is found behind, or else in front, is among all
pub found_behind : {X : Type 0} (p : X → Bool) (n : ℕ) (xs : List X) (place : ℕ) → Some place ≡ position p (drop n xs) → true ≡ list_any p xs
found_behind p n xs place is =
    let any : true ≡ list_any p (drop n xs) = ap is_some is ∙ is_some-position p (drop n xs) in
    ap (λ b. b || list_any p (take n xs)) any ∙ any_in_parts p n xs

pub found_in_front : {X : Type 0} (p : X → Bool) (n : ℕ) (xs : List X) → None ≡ position p (drop n xs) → is_some (position p (take n xs)) ≡ list_any p xs
found_in_front p n xs is =
    let none : false ≡ list_any p (drop n xs) = ap is_some is ∙ is_some-position p (drop n xs) in
    is_some-position p (take n xs) ∙ ap (λ b. b || list_any p (take n xs)) none ∙ any_in_parts p n xs
