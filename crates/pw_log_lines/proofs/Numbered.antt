-- Words that are the digits of a number, compared from the last digit on.
use Rattle.std.proofs.Common.{◌≡◌, ℕ, ◌/◌, ◌%◌, ◌+◌, ◌<◌, ◌≤◌, ◌^◌, Bool, true, false, List, [], ◌∷◌, ◌++◌, length, refl, sym, ap, ◌∙◌, arith}
use Rattle.std.specs.Prelude.{◌&&◌, nat_eq}
use Rattle.std.specs.Fmt.{decimal}
use Rattle.std.specs.Str.{bytes_eq}
use Rattle.std.proofs.lemmas.Fmt.{decimal_digit, decimal_nonempty, decimal_step}

and-false : (b : Bool) → (b && false) ≡ false
and-false true = refl
and-false false = refl

and-true : (b : Bool) → (b && true) ≡ b
and-true true = refl
and-true false = refl

and-assoc : (a b c : Bool) → (a && (b && c)) ≡ ((a && b) && c)
and-assoc true b c = refl
and-assoc false b c = refl

nil-differs : (ys : List ℕ) (b : ℕ) → bytes_eq [] (ys ++ b ∷ []) ≡ false
nil-differs [] b = refl
nil-differs (y ∷ ys) b = refl

differs-nil : (xs : List ℕ) (a : ℕ) → bytes_eq (xs ++ a ∷ []) [] ≡ false
differs-nil [] a = refl
differs-nil (x ∷ xs) a = refl

-- texts with one byte more are equal where these bytes and the texts before them are
equal-more : (xs ys : List ℕ) (a b : ℕ) → bytes_eq (xs ++ a ∷ []) (ys ++ b ∷ []) ≡ (bytes_eq xs ys && nat_eq a b)
equal-more [] [] a b = and-true (nat_eq a b)
equal-more [] (y ∷ ys) a b = ap (λ (r : Bool). nat_eq a y && r) (nil-differs ys b) ∙ and-false (nat_eq a y)
equal-more (x ∷ xs) [] a b = ap (λ (r : Bool). nat_eq x b && r) (differs-nil xs a) ∙ and-false (nat_eq x b)
equal-more (x ∷ xs) (y ∷ ys) a b =
    ap (λ (r : Bool). nat_eq x y && r) (equal-more xs ys a b) ∙ and-assoc (nat_eq x y) (bytes_eq xs ys) (nat_eq a b)

some-differ : (ys : List ℕ) → 0 < length ys → bytes_eq [] ys ≡ false
some-differ [] some = absurd (omega arith)
some-differ (y ∷ ys) some = refl

-- no digits are no number
pub no-digits : (word : List ℕ) (n : ℕ) → length word ≡ 0 → n < 2 ^ 32 → false ≡ bytes_eq word (decimal n)
no-digits [] n none fits = sym (some-differ (decimal n) (decimal_nonempty n (omega arith)))
no-digits (b ∷ word) n none fits = absurd (omega arith)

is-nil : (front : List ℕ) → length front ≡ 0 → bytes_eq front [] ≡ true
is-nil [] none = refl
is-nil (b ∷ front) none = absurd (omega arith)

not-nil : (front : List ℕ) → 0 < length front → bytes_eq front [] ≡ false
not-nil [] some = absurd (omega arith)
not-nil (b ∷ front) some = refl

-- a number of one digit
pub one-digit : (word front : List ℕ) (last n : ℕ) → word ≡ front ++ last ∷ [] → n < 10
    → (bytes_eq front [] && nat_eq last (48 + n)) ≡ bytes_eq word (decimal n)
one-digit word front last n is few =
    sym
    (ap (λ (w : List ℕ). bytes_eq w (decimal n)) is
    ∙ (ap (bytes_eq (front ++ last ∷ [])) (decimal_digit n few) ∙ equal-more front [] last (48 + n)))

-- which is the only one
pub lone-digit : (word front : List ℕ) (last n : ℕ) → word ≡ front ++ last ∷ [] → n < 10 → length front ≡ 0
    → nat_eq last (48 + n) ≡ bytes_eq word (decimal n)
lone-digit word front last n is few none =
    ap (λ (r : Bool). r && nat_eq last (48 + n)) (sym (is-nil front none)) ∙ one-digit word front last n is few

-- with others in front
pub no-lone-digit : (word front : List ℕ) (last n : ℕ) → word ≡ front ++ last ∷ [] → n < 10 → 0 < length front
    → false ≡ bytes_eq word (decimal n)
no-lone-digit word front last n is few some =
    ap (λ (r : Bool). r && nat_eq last (48 + n)) (sym (not-nil front some)) ∙ one-digit word front last n is few

more-digits : (word front : List ℕ) (last n : ℕ) → word ≡ front ++ last ∷ [] → 10 ≤ n → n < 2 ^ 32
    → (bytes_eq front (decimal (n / 10)) && nat_eq last (48 + n % 10)) ≡ bytes_eq word (decimal n)
more-digits word front last n is many fits =
    sym
    (ap (λ (w : List ℕ). bytes_eq w (decimal n)) is
    ∙ (ap (bytes_eq (front ++ last ∷ [])) (decimal_step n many (omega arith)) ∙ equal-more front (decimal (n / 10)) last (48 + n % 10)))

-- a number whose last digit this is
pub last-digit : (word front : List ℕ) (last n : ℕ) → word ≡ front ++ last ∷ [] → 10 ≤ n → n < 2 ^ 32 → nat_eq last (48 + n % 10) ≡ true
    → bytes_eq front (decimal (n / 10)) ≡ bytes_eq word (decimal n)
last-digit word front last n is many fits same =
    sym (and-true (bytes_eq front (decimal (n / 10))))
    ∙ (ap (λ (r : Bool). bytes_eq front (decimal (n / 10)) && r) (sym same) ∙ more-digits word front last n is many fits)

-- and one whose last digit it is not
pub other-digit : (word front : List ℕ) (last n : ℕ) → word ≡ front ++ last ∷ [] → 10 ≤ n → n < 2 ^ 32 → nat_eq last (48 + n % 10) ≡ false
    → nat_eq last (48 + n % 10) ≡ bytes_eq word (decimal n)
other-digit word front last n is many fits other =
    other
    ∙ (sym (and-false (bytes_eq front (decimal (n / 10))))
    ∙ (ap (λ (r : Bool). bytes_eq front (decimal (n / 10)) && r) (sym other) ∙ more-digits word front last n is many fits))
