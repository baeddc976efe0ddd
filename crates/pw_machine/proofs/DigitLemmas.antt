-- Digits that are counted up in their last place.
use Rattle.std.proofs.Common.{◌≡◌, ℕ, ◌+◌, ◌-◌, ◌*◌, ◌/◌, ◌%◌, ◌^◌, ◌<◌, ◌≤◌, Bool, true, false, ◌&&◌, List, [], ◌∷◌, ◌++◌, length, refl, sym, ap, ◌∙◌, subst, arith}
use Rattle.std.proofs.Math.Nat.{pow-succ'}
use Rattle.std.proofs.lemmas.Bool.Decides.{nat_tests}
use Rattle.std.proofs.lemmas.List.Folds.{list_all-append}
use Rattle.std.proofs.lemmas.Nat.{div-mul-add}
use Rattle.std.specs.Prelude.{if◌then◌else◌}
use Rattle.std.specs.Bool.{OnFalse}
use Rattle.std.specs.Char.{is_ascii_digit}
use Rattle.std.specs.List.{list_all}
use Rattle.pw_picture.specs.Stored.{digit_of, value_of, digits_of}
use Rattle.pw_picture.proofs.Reading.{digit_joined}
use Rattle.pw_machine.proofs.Shorts.{value_of-below}

-- both parts of a test hold
first_holds : (a b : Bool) → (a && b) ≡ true → a ≡ true
first_holds true b h = refl
first_holds false b h = absurd (cc)

second_holds : (a b : Bool) → (a && b) ≡ true → b ≡ true
second_holds true b h = h
second_holds false b h = absurd (cc)

both_hold : (a b : Bool) → a ≡ true → b ≡ true → (a && b) ≡ true
both_hold true true p q = refl
both_hold true false p q = absurd (cc)
both_hold false b p q = absurd (cc)

-- a digit
digit_is : (char : ℕ) → is_ascii_digit char ≡ true → char ≡ 48 + digit_of char
digit_is char h = grind (arith, nat_tests)

digit_below : (char : ℕ) → digit_of char < 10
digit_below char = grind (arith, nat_tests)

-- characters behind those of a value
pub value_of-behind : (value : ℕ) (chars : List ℕ) → value_of value chars ≡ value * 10 ^ length chars + value_of 0 chars
value_of-behind value [] = omega arith
value_of-behind value (char ∷ chars) =
    let first : 10 * 0 + digit_of char ≡ digit_of char = omega arith in
    let whole : value_of 0 (char ∷ chars) ≡ digit_of char * 10 ^ length chars + value_of 0 chars =
    ap (λ v. value_of v chars) first ∙ value_of-behind (digit_of char) chars in
    value_of-behind (10 * value + digit_of char) chars
    ∙ digit_joined value (digit_of char) (10 ^ length chars) (value_of 0 chars) (value_of 0 (char ∷ chars)) whole
    ∙ ap (λ p. value * p + value_of 0 (char ∷ chars)) (sym (pow-succ' 10 (length chars)))

-- a value has no more digits than characters
value_of-few : (chars : List ℕ) → value_of 0 chars < 10 ^ length chars
value_of-few chars = omega (arith, value_of-below 0 chars)

-- digits are those of their value
pub digits-again : (value : ℕ) (chars : List ℕ) → list_all is_ascii_digit chars ≡ true → digits_of (length chars) (value_of value chars) ≡ chars
digits-again value [] h = refl
digits-again value (char ∷ chars) h =
    let is : is_ascii_digit char ≡ true = first_holds (is_ascii_digit char) (list_all is_ascii_digit chars) h in
    let rest : list_all is_ascii_digit chars ≡ true = second_holds (is_ascii_digit char) (list_all is_ascii_digit chars) h in
    let next : ℕ = 10 * value + digit_of char in
    let high : value_of next chars / 10 ^ length chars ≡ next =
    ap (λ v. v / 10 ^ length chars) (value_of-behind next chars) ∙ div-mul-add next (10 ^ length chars) (value_of 0 chars) (value_of-few chars) in
    let below : digit_of char < 10 = digit_below char in
    let low : next % 10 ≡ digit_of char = omega (arith, below) in
    ap (λ h. (48 + h % 10) ∷ digits_of (length chars) (value_of next chars)) high
    ∙ ap (λ d. (48 + d) ∷ digits_of (length chars) (value_of next chars)) low
    ∙ ap (λ c. c ∷ digits_of (length chars) (value_of next chars)) (sym (digit_is char is))
    ∙ ap (λ l. char ∷ l) (digits-again next chars rest)

-- the last of some characters
pub value_of-last : (value char : ℕ) (front : List ℕ) → value_of value (front ++ char ∷ []) ≡ 10 * value_of value front + digit_of char
value_of-last value char [] = refl
value_of-last value char (first ∷ front) = value_of-last (10 * value + digit_of first) char front

pub are-digits : (front : List ℕ) (char : ℕ) → list_all is_ascii_digit (front ++ char ∷ []) ≡ (list_all is_ascii_digit front && is_ascii_digit char)
are-digits front char = list_all-append is_ascii_digit front (char ∷ []) ∙ ap (λ b. list_all is_ascii_digit front && b) (only (is_ascii_digit char))
  where
    only : (b : Bool) → (b && true) ≡ b
    only true = refl
    only false = refl

-- a digit
pub at_least : (char : ℕ) → is_ascii_digit char ≡ true → (48 ≤ char) × (char ≤ 57)
at_least char h = (grind (arith, nat_tests), grind (arith, nat_tests))

pub last_digit : (front : List ℕ) (char : ℕ) → list_all is_ascii_digit (front ++ char ∷ []) ≡ true → is_ascii_digit char ≡ true
last_digit front char h = second_holds (list_all is_ascii_digit front) (is_ascii_digit char) (sym (are-digits front char) ∙ h)

pub front_digits : (front : List ℕ) (char : ℕ) → list_all is_ascii_digit (front ++ char ∷ []) ≡ true → list_all is_ascii_digit front ≡ true
front_digits front char h = first_holds (list_all is_ascii_digit front) (is_ascii_digit char) (sym (are-digits front char) ∙ h)

pub digits_joined : (front : List ℕ) (char : ℕ) → list_all is_ascii_digit front ≡ true → 48 ≤ char → char ≤ 57 → list_all is_ascii_digit (front ++ char ∷ []) ≡ true
digits_joined front char h low high =
    let is : is_ascii_digit char ≡ true = grind (arith, nat_tests) in
    are-digits front char ∙ both_hold (list_all is_ascii_digit front) (is_ascii_digit char) h is

-- more in the last digit, which has room
pub raised_last : (front : List ℕ) (char more : ℕ) → 48 ≤ char → char + more ≤ 57 → value_of 0 (front ++ (char + more) ∷ []) ≡ value_of 0 (front ++ char ∷ []) + more
raised_last front char more low high =
    let own : digit_of char ≡ char - 48 = grind (arith, nat_tests) in
    let sum : digit_of (char + more) ≡ char + more - 48 = grind (arith, nat_tests) in
    omega (arith, value_of-last 0 char front, value_of-last 0 (char + more) front, own, sum)

-- or which has none, so that those in front of it are one more
pub carried_last : (front raised : List ℕ) (char more : ℕ) → 48 ≤ char → char ≤ 57 → 57 < char + more → more ≤ 9 → value_of 0 raised ≡ value_of 0 front + 1
    → value_of 0 (raised ++ (char + more - 10) ∷ []) ≡ value_of 0 (front ++ char ∷ []) + more
carried_last front raised char more low high over few one =
    let own : digit_of char ≡ char - 48 = grind (arith, nat_tests) in
    let sum : digit_of (char + more - 10) ≡ char + more - 10 - 48 = grind (arith, nat_tests) in
    omega (arith, value_of-last 0 char front, value_of-last 0 (char + more - 10) raised, own, sum, one)

-- characters behind which digits have come to a sum, or all has stayed
pub counted_up : (is : Bool) (chars new : List ℕ) (more : ℕ) → list_all is_ascii_digit new ≡ true → length new ≡ length chars → (is ≡ true → value_of 0 new ≡ value_of 0 chars + more)
    → OnFalse is (new ≡ chars) → new ≡ (if is then digits_of (length chars) (value_of 0 chars + more) else chars)
counted_up true chars new more h long sum same = sym (digits-again 0 new h) ∙ ap (λ n. digits_of n (value_of 0 new)) long ∙ ap (digits_of (length chars)) (sum refl)
counted_up false chars new more h long sum same = same

pub counted_few : (chars new : List ℕ) (more : ℕ) → length new ≡ length chars → value_of 0 new ≡ value_of 0 chars + more → value_of 0 chars + more < 10 ^ length chars
counted_few chars new more long sum =
    let few : value_of 0 new < 10 ^ length new = value_of-few new in
    subst (λ v. v < 10 ^ length chars) sum (subst (λ n. value_of 0 new < 10 ^ n) long few)
