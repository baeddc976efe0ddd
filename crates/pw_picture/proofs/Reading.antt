-- Digits that are written are read again.
use Rattle.std.proofs.Common.{◌≡◌, ℕ, zero, suc, ◌+◌, ◌*◌, ◌/◌, ◌%◌, ◌^◌, ◌<◌, Bool, true, false, not, ◌&&◌, ◌||◌, ◌==◌, cond, nat_lt, pos, refl, sym, ap, ◌∙◌, arith, IsTrue}
use Rattle.std.proofs.lemmas.Bool.Decides.{nat_tests}
use Rattle.std.proofs.Math.Arith.{mod-mul}
use Rattle.std.proofs.Math.Nat.{pow-succ', mod-eq_of_lt}
use Rattle.pw_number.specs.Number.{Number, number}
use Rattle.pw_number.specs.Sign.{signed}
use Rattle.pw_picture.specs.declared.picture.Picture.TheVariants.{Number as NumberPicture}
use Rattle.pw_picture.specs.Stored.{digit_of, value_of, digits_of, sign_of, size_at, is_negative, moved, is_kept, read_of}
use Rattle.pw_number.proofs.Scales.{ten-pos}

-- a digit that is written is read again
pub digit_of-written : (digit : ℕ) → digit < 10 → digit_of (48 + digit) ≡ digit
digit_of-written digit below = grind (arith, nat_tests)

-- a digit in front of those of a rest
pub digit_joined : (value digit power rest whole : ℕ) → whole ≡ digit * power + rest → (10 * value + digit) * power + rest ≡ value * (10 * power) + whole
digit_joined value digit power rest whole is = omega arith

-- the digits of a value, behind those of another
pub value_of-digits : (count value size : ℕ) → value_of value (digits_of count size) ≡ value * 10 ^ count + size % 10 ^ count
value_of-digits zero value size = omega arith
value_of-digits (suc count) value size =
    let digit : ℕ = size / 10 ^ count % 10 in
    let shown : digit_of (48 + digit) ≡ digit = digit_of-written digit (omega arith) in
    let parts : size % 10 ^ suc count ≡ digit * 10 ^ count + size % 10 ^ count =
    ap (λ p. size % p) (pow-succ' 10 count) ∙ mod-mul size (omega arith) (ten-pos count) in
    value_of-digits count (10 * value + digit_of (48 + digit)) size
    ∙ ap (λ d. (10 * value + d) * 10 ^ count + size % 10 ^ count) shown
    ∙ digit_joined value digit (10 ^ count) (size % 10 ^ count) (size % 10 ^ suc count) parts
    ∙ ap (λ p. value * p + size % 10 ^ suc count) (sym (pow-succ' 10 count))

-- the digits of a value that has no more are read as the value
value-again : (count size : ℕ) → size < 10 ^ count → value_of 0 (digits_of count (size % 10 ^ count)) ≡ size
value-again count size below =
    let same : size % 10 ^ count ≡ size = mod-eq_of_lt below in
    ap (λ m. value_of 0 (digits_of count m)) same ∙ value_of-digits count 0 size ∙ omega arith

-- a sign that is written is read again: zero has none
sign-again : (negative : Bool) (size : ℕ) → signed (sign_of negative size == 45) size ≡ signed negative size
sign-again false size = refl
sign-again true zero = refl
sign-again true (suc size) =
    let test : (suc size == 0) ≡ false = grind (arith, nat_tests) in
    ap (λ t. signed (cond (true && not t) 45 43 == 45) (suc size)) test

-- what is kept
kept_size : (size end : ℕ) (rest : Bool) → IsTrue (nat_lt size end && rest) → size < end
kept_size size end rest kept = grind (arith, nat_tests)

kept_sign : (test negative : Bool) → IsTrue (test && (false || not negative)) → negative ≡ false
kept_sign test negative kept = grind (arith, nat_tests)

pub read-moved : (digits places : ℕ) (sign : Bool) (n : Number) → IsTrue (is_kept (NumberPicture digits places sign) n)
    → read_of (NumberPicture digits places sign) (moved (NumberPicture digits places sign) n) ≡ number (signed (is_negative n) (size_at places n)) places
read-moved digits places true n kept =
    let below : size_at places n < 10 ^ digits = kept_size (size_at places n) (10 ^ digits) true kept in
    let same : size_at places n % 10 ^ digits ≡ size_at places n = mod-eq_of_lt below in
    ap (λ v. number (signed (sign_of (is_negative n) (size_at places n % 10 ^ digits) == 45) v) places) (value-again digits (size_at places n) below)
    ∙ ap (λ m. number (signed (sign_of (is_negative n) m == 45) (size_at places n)) places) same
    ∙ ap (λ u. number u places) (sign-again (is_negative n) (size_at places n))
read-moved digits places false n kept =
    let below : size_at places n < 10 ^ digits = kept_size (size_at places n) (10 ^ digits) (not (is_negative n)) kept in
    ap (λ v. number (pos v) places) (value-again digits (size_at places n) below)
    ∙ ap (λ b. number (signed b (size_at places n)) places) (sym (kept_sign (nat_lt (size_at places n) (10 ^ digits)) (is_negative n) kept))
