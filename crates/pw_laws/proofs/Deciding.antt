-- Putting tests together that decide facts.
use Rattle.std.proofs.Common.{◌≡◌, ℕ, zero, suc, ◌<◌, ◌≤◌, ◌⊎◌, ⊎_elim, inl, inr, Bool, true, false, ◌&&◌, ◌||◌, not, List, [], ◌∷◌, Option, Some, None, is_none, is_some, nat_lt, nat_le, ◌==◌, Decides, refl, sym, subst, arith}
use Rattle.std.proofs.lemmas.Bool.{true≢false, false≢true, leb-true, le-leb, ltb-true, lt-ltb, eqb-true, eq-eqb, cases_lt}
use Rattle.std.proofs.lemmas.Bool.Decides.{Decides-and, Decides-or, Decides-not, Decides-like}
use Rattle.pw_base.proofs.Plain.{some_is}
use Rattle.pw_paired.specs.Units.{any_below}
use Rattle.pw_laws.specs.legal.Values.{first_with, is_empty, some_with}

-- a test that is true of a fact
pub yes : {P : Type 0} → P → Decides true P
yes p = (λ _. p, λ _. refl)

-- a test that is false of what is not
pub no : {P : Type 0} → ¬ P → Decides false P
no n = (λ e. absurd (false≢true e), λ p. absurd (n p))

-- two tests
pub both : {x y : Bool} {P Q : Type 0} → Decides x P → Decides y Q → Decides (x && y) (P × Q)
both d k = Decides-and _ _ d k

-- one of two tests
pub either : {x y : Bool} {P Q : Type 0} → Decides x P → Decides y Q → Decides (x || y) (P ⊎ Q)
either d k = Decides-or _ _ d k

-- a test denied
pub denied : {x : Bool} {P : Type 0} → Decides x P → Decides (not x) (¬ P)
denied d = Decides-not _ d

-- a test of a fact that is as much as another
pub like : {x : Bool} {P Q : Type 0} → Decides x P → (P → Q) → (Q → P) → Decides x Q
like d to from = Decides-like _ to from d

-- a test decides that it is true
pub itself : (x : Bool) → Decides x (x ≡ true)
itself x = (λ e. e, λ e. e)

-- and its denial that it is false
pub itself_not : (x : Bool) → Decides (not x) (x ≡ false)
itself_not true = no (λ e. true≢false e)
itself_not false = yes refl

-- Facts on options and lists.

-- there is none
pub none : {A : Type 0} (o : Option A) → Decides (is_none o) (o ≡ None)
none None = yes refl
none (Some x) = no (λ e. cc e)

-- there is one
pub some : {A : Type 0} (o : Option A) → Decides (is_some o) ((x : A) × (o ≡ Some x))
some None = no (λ h. let e = h.1 in cc e)
some (Some x) = yes (x, refl)

-- there is one of which the test holds
pub one_with : {A : Type 0} {test : A → Bool} {P : A → Type 0} → ((x : A) → Decides (test x) (P x)) → (o : Option A)
    → Decides (some_with test o) ((x : A) × (o ≡ Some x) × P x)
one_with each None = no (λ h. let e = h.1 in cc e)
one_with {P = P} each (Some x) = like (each x) (λ p. (x, refl, p)) (λ h. subst P (sym (some_is h.1)) h.2)

-- there is a first one of which the test holds
pub first_one : {A : Type 0} {test : A → Bool} {P : A → Type 0} → ((x : A) → Decides (test x) (P x)) → (xs : List A)
    → Decides (first_with test xs) ((x : A) × (others : List A) × (xs ≡ x ∷ others) × P x)
first_one each [] = no (λ h. let e = h.2 in cc e)
first_one {P = P} each (x ∷ xs) =
    like (each x) (λ p. (x, xs, refl, p)) (λ h. let e = h.2 in let same : h.0 ≡ x = cc in subst P same h.3)

-- the list has none
pub empty : {A : Type 0} (xs : List A) → Decides (is_empty xs) (xs ≡ [])
empty [] = yes refl
empty (x ∷ xs) = no (λ e. cc e)

-- Numbers.

-- two numbers are one
pub number : (a b : ℕ) → Decides (a == b) (a ≡ b)
number a b = (eqb-true a b, eq-eqb a b)

-- a number is below another
pub below : (a b : ℕ) → Decides (nat_lt a b) (a < b)
below a b = (ltb-true a b, lt-ltb a b)

-- a number is at most another
pub at_most : (a b : ℕ) → Decides (nat_le a b) (a ≤ b)
at_most a b = (leb-true a b, le-leb a b)

-- a test holds of a number below another
pub some_below : {has : ℕ → Bool} {P : ℕ → Type 0} → ((k : ℕ) → Decides (has k) (P k)) → (n : ℕ)
    → Decides (any_below n has) ((k : ℕ) × (k < n) × P k)
some_below each zero = no (λ h. let lt = h.1 in absurd (omega arith))
some_below {P = P} each (suc n) =
    like (either (some_below each n) (each n))
    (⊎_elim (λ h. let lt = h.1 in (h.0, omega arith, h.2)) (λ p. (n, omega arith, p)))
    (λ h.
    let lt = h.1 in
    ⊎_elim (λ less. inl (h.0, less, h.2)) (λ more. inr (let same : h.0 ≡ n = omega arith in subst P same h.2)) (cases_lt h.0 n))

-- Tests that miss nothing where H holds.

-- what the test tells is so; where H holds, what is so it tells
abbrev pub DecidesIf : Type 0 → Bool → Type 0 → Type 0
DecidesIf H x P = (x ≡ true → P) × (H → P → x ≡ true)

-- a test that misses nothing anywhere
pub always : {H : Type 0} {x : Bool} {P : Type 0} → Decides x P → DecidesIf H x P
always d = (d.0, λ _. d.1)

-- where H holds, the test decides
pub given : {H : Type 0} {x : Bool} {P : Type 0} → DecidesIf H x P → H → Decides x P
given d h = (d.0, d.1 h)

-- a test that misses nothing where H holds misses nothing where more holds
pub suppose : {G H : Type 0} {x : Bool} {P : Type 0} → (G → H) → DecidesIf H x P → DecidesIf G x P
suppose to d = (d.0, λ g. d.1 (to g))

-- two tests, where H holds
pub both_if : {H : Type 0} {x y : Bool} {P Q : Type 0} → DecidesIf H x P → DecidesIf H y Q → DecidesIf H (x && y) (P × Q)
both_if {x = x} {y = y} d k =
    (λ e. let h = (both (itself x) (itself y)).0 e in (d.0 h.0, k.0 h.1), λ h. (both (given d h) (given k h)).1)

-- one of two tests, where H holds
pub either_if : {H : Type 0} {x y : Bool} {P Q : Type 0} → DecidesIf H x P → DecidesIf H y Q → DecidesIf H (x || y) (P ⊎ Q)
either_if {x = x} {y = y} d k =
    (λ e. ⊎_elim (λ h. inl (d.0 h)) (λ h. inr (k.0 h)) ((either (itself x) (itself y)).0 e), λ h. (either (given d h) (given k h)).1)

-- a test of a fact that is as much as another, where H holds
pub like_if : {H : Type 0} {x : Bool} {P Q : Type 0} → DecidesIf H x P → (P → Q) → (Q → P) → DecidesIf H x Q
like_if d to from = (λ e. to (d.0 e), λ h q. d.1 h (from q))

-- there is one of which the test holds, where H holds
pub one_with_if : {H : Type 0} {A : Type 0} {test : A → Bool} {P : A → Type 0} → ((x : A) → DecidesIf H (test x) (P x)) → (o : Option A)
    → DecidesIf H (some_with test o) ((x : A) × (o ≡ Some x) × P x)
one_with_if {test = test} each o =
    (λ e. let h = (one_with (λ x. itself (test x)) o).0 e in (h.0, h.1, (each h.0).0 h.2), λ h. (one_with (λ x. given (each x) h) o).1)
