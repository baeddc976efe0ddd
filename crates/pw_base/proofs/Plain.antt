-- Plain facts on tests, options, results, orders and lists.
use Rattle.std.proofs.Common.{◌≡◌, ℕ, ◌<◌, ◌≤◌, ◌==◌, Bool, true, false, ◌&&◌, ◌||◌, cond, nat_le, List, [], ◌∷◌, ◌++◌, length, Option, Some, None, Result, Ok, Err, Ordering, Less, Equal, Greater, is_eq, is_lt, refl, sym, ◌∙◌, arith, ⊎_elim}
use Rattle.std.specs.Prelude.{OnOk, is_some, is_none}
use Rattle.std.specs.List.{AllByRecursion}
use Rattle.std.specs.Option.{option_or}
use Rattle.std.specs.Str.{bytes_eq}
use Rattle.std.proofs.lemmas.Bool.{cases_eq, eq-eqb, ne_eqb, true≢false}
use Rattle.std.proofs.lemmas.Bool.Decides.{nat_tests, same_from_decides}
use Rattle.std.proofs.lemmas.Slice.Eq.{bytes_eq-Decides}

-- of two tests
pub or-false : (a : Bool) → (a || false) ≡ a
or-false true = refl
or-false false = refl

pub or-true : (a : Bool) → (a || true) ≡ true
or-true true = refl
or-true false = refl

pub and-false : (a : Bool) → (a && false) ≡ false
and-false true = refl
and-false false = refl

pub and-first : (a b : Bool) → (a && b) ≡ true → a ≡ true
and-first true b is = refl
and-first false b is = is

pub and-second : (a b : Bool) → (a && b) ≡ true → b ≡ true
and-second true b is = is
and-second false b is = absurd cc

pub and-swap : (a b : Bool) → (a && b) ≡ (b && a)
and-swap true true = refl
and-swap true false = refl
and-swap false true = refl
and-swap false false = refl

pub or-first-false : (a b : Bool) → (a || b) ≡ false → a ≡ false
or-first-false true b none = absurd cc
or-first-false false b none = refl

pub or-second-false : (a b : Bool) → (a || b) ≡ false → b ≡ false
or-second-false true b none = absurd cc
or-second-false false b none = none

-- one of two tests passes, and it is not the first
pub drop-false : (a b : Bool) → a ≡ false → (a || b) ≡ true → b ≡ true
drop-false true b not_first is = absurd cc
drop-false false b not_first is = is

pub or-assoc : (a b c : Bool) → ((a || b) || c) ≡ (a || (b || c))
or-assoc true b c = refl
or-assoc false b c = refl

-- two tests that follow from each other are the same
pub same-truth : (a b : Bool) → (a ≡ true → b ≡ true) → (b ≡ true → a ≡ true) → a ≡ b
same-truth true b there back = sym (there refl)
same-truth false true there back = back refl
same-truth false false there back = refl

-- a test does not both pass and fail
pub refutes : {test : Bool} → test ≡ true → test ≡ false → ⊥
refutes passes fails = true≢false (sym passes ∙ fails)

-- of numbers
pub eqb-swap : (a b : ℕ) → (a == b) ≡ (b == a)
eqb-swap a b = ⊎_elim (λ same. eq-eqb a b same ∙ sym (eq-eqb b a (sym same))) (λ differ. ne_eqb a b differ ∙ sym (ne_eqb b a (λ is. differ (sym is)))) (cases_eq a b)

pub le-true : (a b : ℕ) → a ≤ b → nat_le a b ≡ true
le-true a b le = grind (arith, nat_tests)

pub le-false : (a b : ℕ) → b < a → nat_le a b ≡ false
le-false a b less = grind (arith, nat_tests)

-- of orders
pub is_eq-Equal : (order : Ordering) → is_eq order ≡ true → order ≡ Equal
is_eq-Equal Less is = absurd cc
is_eq-Equal Equal is = refl
is_eq-Equal Greater is = absurd cc

pub is_lt-Less : (order : Ordering) → is_lt order ≡ true → order ≡ Less
is_lt-Less Less is = refl
is_lt-Less Equal is = absurd cc
is_lt-Less Greater is = absurd cc

-- of what is there, or not
pub some_is : {A : Type 0} {x y : A} → Some x ≡ Some y → x ≡ y
some_is is = cc

pub is_some-None : {A : Type 0} (o : Option A) → is_some o ≡ false → o ≡ None
is_some-None None none = refl
is_some-None (Some x) none = absurd cc

pub is_none-None : {A : Type 0} (o : Option A) → is_none o ≡ true → o ≡ None
is_none-None None none = refl
is_none-None (Some x) none = absurd cc

pub is_some-Some : {A : Type 0} (o : Option A) → is_some o ≡ true → (x : A) × (o ≡ Some x)
is_some-Some None is = absurd cc
is_some-Some (Some x) is = (x, refl)

pub option_or-None : {A : Type 0} (o : Option A) → option_or o None ≡ o
option_or-None None = refl
option_or-None (Some x) = refl

pub cond_none : (test : Bool) (n : ℕ) → cond test (Some n) None ≡ None → test ≡ false
cond_none true n none = absurd cc
cond_none false n none = refl

pub cond_passed : {A : Type 0} (test : Bool) (o : Option A) (x : A) → cond test o None ≡ Some x → (test ≡ true) × (o ≡ Some x)
cond_passed true o x is = (refl, is)
cond_passed false o x is = absurd cc

-- of results
pub on-ok : {A E P Q : Type 0} (r : Result A E) → OnOk r P → (P → Q) → OnOk r Q
on-ok (Ok x) is more = more is
on-ok (Err e) is more = tt

pub same-ok : {A E : Type 0} (r : Result A E) (x y : A) → r ≡ Ok x → r ≡ Ok y → x ≡ y
same-ok r x y one other = cc

-- of lists
pub bytes_eq-same : (xs : List ℕ) → bytes_eq xs xs ≡ true
bytes_eq-same xs = (bytes_eq-Decides xs xs).1 refl

pub bytes_eq-swap : (xs ys : List ℕ) → bytes_eq xs ys ≡ bytes_eq ys xs
bytes_eq-swap xs ys = same_from_decides (bytes_eq xs ys) (bytes_eq ys xs) (bytes_eq-Decides xs ys) (λ h. sym ((bytes_eq-Decides ys xs).0 h), λ is. (bytes_eq-Decides ys xs).1 (sym is))

pub all-weaker : {A : Type 0} (P Q : A → Type 0) → ((x : A) → P x → Q x) → (xs : List A) → AllByRecursion P xs → AllByRecursion Q xs
all-weaker P Q weaker [] all = tt
all-weaker P Q weaker (x ∷ xs) all = (weaker x all.0, all-weaker P Q weaker xs all.1)

pub all-append : {A : Type 0} (P : A → Type 0) (xs ys : List A) → AllByRecursion P xs → AllByRecursion P ys → AllByRecursion P (xs ++ ys)
all-append P [] ys first second = second
all-append P (x ∷ xs) ys first second = (first.0, all-append P xs ys first.1 second)

pub all-last : {A : Type 0} (P : A → Type 0) (xs : List A) (x : A) → AllByRecursion P xs → P x → AllByRecursion P (xs ++ x ∷ [])
all-last P [] x all is = (is, tt)
all-last P (y ∷ xs) x all is = (all.0, all-last P xs x all.1 is)

pub append-none : {A : Type 0} (xs ys : List A) → xs ++ ys ≡ [] → (xs ≡ []) × (ys ≡ [])
append-none [] ys none = (refl, none)
append-none (x ∷ xs) ys none = absurd cc

pub some_left : {A : Type 0} (xs : List A) → false ≡ (length xs == 0) → 0 < length xs
some_left [] some = absurd cc
some_left (x ∷ xs) some = omega arith
