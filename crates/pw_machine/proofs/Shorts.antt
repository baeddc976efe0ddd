-- The numbers that operands say have at most 18 digits.
use Rattle.std.proofs.Common.{◌≡◌, ℕ, ◌+◌, ◌*◌, ◌/◌, ◌^◌, ◌<◌, ◌≤◌, Bool, true, false, List, [], ◌∷◌, length, unsigned_abs, subst, arith}
use Rattle.std.proofs.Math.Nat.{div-le_self, pow-le-pow_right, pow-succ', mul-le-mul_right}
use Rattle.std.specs.Prelude.{if◌then◌else◌, IfSome}
use Rattle.std.proofs.lemmas.Bool.Decides.{nat_tests}
use Rattle.pw_number.specs.Number.{Number as Amount}
use Rattle.pw_number.proofs.Quotients.{abs-signed}
use Rattle.pw_picture.specs.declared.picture.Picture.TheVariants.{Number as NumberPicture}
use Rattle.pw_picture.specs.Grammar.{IsPicture, size_of}
use Rattle.pw_code.specs.Places.{picture_of}
use Rattle.pw_code.specs.declared.place.Kind.{Kind}
use Rattle.pw_code.specs.declared.place.Kind.TheVariants.{Number}
use Rattle.pw_picture.specs.Stored.{digit_of, value_of, is_negative, read_of, number_of_chars}
use Rattle.pw_tree_meaning.specs.Values.{whole_part}

-- a digit is below ten
digit_of-below : (char : ℕ) → digit_of char ≤ 9
digit_of-below char = grind (arith, nat_tests)

step : (v d power : ℕ) → d ≤ 9 → (10 * v + d + 1) * power ≤ (v + 1) * (10 * power)
step v d power le =
    let less : 10 * v + d + 1 ≤ 10 * v + 10 = omega arith in
    omega (arith, mul-le-mul_right power less)

-- a value has as many digits as characters
pub value_of-below : (v : ℕ) (chars : List ℕ) → value_of v chars < (v + 1) * 10 ^ length chars
value_of-below v [] = omega arith
value_of-below v (char ∷ chars) =
    let more = value_of-below (10 * v + digit_of char) chars in
    let le = step v (digit_of char) (10 ^ length chars) (digit_of-below char) in
    rw pow-succ' (omega (arith, more, le))

-- of at most 18 characters
pub value_of-short : (chars : List ℕ) → length chars ≤ 18 → value_of 0 chars < 10 ^ 18
value_of-short chars few = omega (arith, value_of-below 0 chars, pow-le-pow_right {n = 10} (omega arith) few)

-- what is read of an item that is a Number
pub read_of-short : (digits places : ℕ) (sign : Bool) (chars : List ℕ) → length chars ≤ (if sign then digits + 1 else digits) → digits ≤ 18
    → unsigned_abs (read_of (NumberPicture digits places sign) chars).units < 10 ^ 18
read_of-short digits places true [] few le = omega arith
read_of-short digits places true (char ∷ chars) few le = rw abs-signed (value_of-short chars (omega arith))
read_of-short digits places false chars few le = value_of-short chars (omega arith)

-- what is read of an item that is a Number, by its kind
pub kind-short : (kind : Kind) (size digits places : ℕ) (sign : Bool) (chars : List ℕ) → kind ≡ Number digits places sign
    → IfSome (picture_of kind size) (λ p. IsPicture p × (size_of p ≡ size)) → length chars ≡ size
    → unsigned_abs (number_of_chars places sign chars).units < 10 ^ 18
kind-short kind size digits places sign chars is fits long =
    let P : Kind → Type 0 = λ k. IfSome (picture_of k size) (λ p. IsPicture p × (size_of p ≡ size)) in
    let here : P (Number digits places sign) = subst P is fits in
    read_of-short digits places sign chars (omega (arith, here.1, long)) here.0.1

-- the whole part of a number has no more digits than the number
pub whole_short : (n : Amount) → unsigned_abs n.units < 10 ^ 18 → whole_part n < 10 ^ 18
whole_short n few = pick (is_negative n)
  where
    less : unsigned_abs n.units / 10 ^ n.places ≤ unsigned_abs n.units
    less = div-le_self (unsigned_abs n.units) (10 ^ n.places)

    pick : (b : Bool) → (if b then 0 else unsigned_abs n.units / 10 ^ n.places) < 10 ^ 18
    pick true = omega arith
    pick false = omega (arith, less, few)

-- the whole number that at most 5 characters are
pub whole_five : (chars : List ℕ) → length chars ≤ 5 → whole_part (read_of (NumberPicture (length chars) 0 false) chars) < 10 ^ 5
whole_five chars few = pick (is_negative (read_of (NumberPicture (length chars) 0 false) chars))
  where
    less : value_of 0 chars / 10 ^ 0 ≤ value_of 0 chars
    less = div-le_self (value_of 0 chars) (10 ^ 0)

    pick : (b : Bool) → (if b then 0 else value_of 0 chars / 10 ^ 0) < 10 ^ 5
    pick true = omega arith
    pick false = omega (arith, less, value_of-below 0 chars, pow-le-pow_right {n = 10} (omega arith) few)
