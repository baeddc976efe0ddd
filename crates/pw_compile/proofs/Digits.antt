-- The value of digits, cut on the way.
use Rattle.std.proofs.Common.{◌≡◌, ℕ, ◌+◌, ◌-◌, ◌*◌, ◌<◌, min, Bool, true, false, List, [], ◌∷◌, length, drop, filter, if◌then◌else◌, refl, sym, ap, ◌∙◌, arith, get_or, add-one, drop-cons}
use Rattle.std.specs.Char.{is_ascii_digit}
use Rattle.pw_picture.specs.Stored.{value_of, digit_of}

cut_before : (x most : ℕ) (digits : List ℕ) → min (value_of (min x most) digits) most ≡ min (value_of x digits) most
cut_before x most [] = omega arith
cut_before x most (digit ∷ digits) =
    let once : min (10 * min x most + digit_of digit) most ≡ min (10 * x + digit_of digit) most = omega arith in
    sym (cut_before (10 * min x most + digit_of digit) most digits) ∙ ap (λ m. min (value_of m digits) most) once ∙ cut_before (10 * x + digit_of digit) most digits

by_test : (b : Bool) (value most char : ℕ) (rest : List ℕ)
    → min (value_of (min (if b then 10 * value + digit_of char else value) most) (filter is_ascii_digit rest)) most
    ≡ min (value_of value (if b then char ∷ filter is_ascii_digit rest else filter is_ascii_digit rest)) most
by_test true value most char rest = cut_before (10 * value + digit_of char) most (filter is_ascii_digit rest)
by_test false value most char rest = cut_before value most (filter is_ascii_digit rest)

-- one character more
pub further : (value i next most : ℕ) (chars : List ℕ) → i < length chars
    → next ≡ min (if is_ascii_digit (get_or chars i 0) then 10 * value + digit_of (get_or chars i 0) else value) most
    → min (value_of next (filter is_ascii_digit (drop (i + 1) chars))) most ≡ min (value_of value (filter is_ascii_digit (drop i chars))) most
further value i next most chars within is =
    ap (λ n. min (value_of n (filter is_ascii_digit (drop (i + 1) chars))) most) is
    ∙ by_test (is_ascii_digit (get_or chars i 0)) value most (get_or chars i 0) (drop (i + 1) chars)
    ∙ rw (add-one, drop-cons chars i 0) refl
