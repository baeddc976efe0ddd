-- Digits of numbers at places.
use Rattle.std.proofs.Common.{◌≡◌, ℕ, suc, ◌+◌, ◌-◌, ◌*◌, ◌/◌, ◌%◌, ◌^◌, ◌<◌, ◌≤◌, List, ◌∷◌, length, drop, unsigned_abs, refl, sym, ap, ◌∙◌, arith}
use Rattle.std.proofs.Math.Nat.{mul-div-mul_right, mul_assoc, mul-div_cancel, div-div-eq-div-mul, div-one, pow-suc}
use Rattle.pw_number.specs.Number.{Number}
use Rattle.pw_number.proofs.Scales.{ten-pos}
use Rattle.pw_number.proofs.Quotients.{pow-parts}
use Rattle.pw_picture.specs.Stored.{size_at, digits_of}
use Rattle.std.proofs.lemmas.Grind.{drop-set_at}
use Rattle.std.proofs.Math.ListN.{set, length-set}

-- fewer places than the number has: digits are cut
pub size_at-fewer : (n : Number) (places : ℕ) → places ≤ n.places → size_at places n ≡ unsigned_abs n.units / 10 ^ (n.places - places)
size_at-fewer n places h =
    ap (λ m. unsigned_abs n.units * 10 ^ places / m) (pow-parts n.places places h) ∙ mul-div-mul_right (unsigned_abs n.units) (10 ^ (n.places - places)) (ten-pos places)

-- more places than the number has: zeros follow
pub size_at-more : (n : Number) (places : ℕ) → n.places ≤ places → size_at places n ≡ unsigned_abs n.units * 10 ^ (places - n.places)
size_at-more n places h =
    ap (λ m. unsigned_abs n.units * m / 10 ^ n.places) (pow-parts places n.places h)
    ∙ ap (λ m. m / 10 ^ n.places) (sym (mul_assoc (unsigned_abs n.units) (10 ^ (places - n.places)) (10 ^ n.places)))
    ∙ mul-div_cancel (unsigned_abs n.units * 10 ^ (places - n.places)) (ten-pos n.places)

-- what was computed of a number's parts: digits are cut
pub size_at-cut : (n : Number) (places size own power : ℕ) → size ≡ unsigned_abs n.units → own ≡ n.places → places ≤ own → power ≡ 10 ^ (own - places)
    → size / power ≡ size_at places n
size_at-cut n places size own power size_is own_is h power_is =
    ap (λ p. size / p) power_is ∙ ap (λ m. m / 10 ^ (own - places)) size_is ∙ ap (λ o. unsigned_abs n.units / 10 ^ (o - places)) own_is ∙ sym (size_at-fewer n places (omega arith))

-- or zeros follow
pub size_at-raised : (n : Number) (places size own power : ℕ) → size ≡ unsigned_abs n.units → own ≡ n.places → own ≤ places → power ≡ 10 ^ (places - own)
    → size * power ≡ size_at places n
size_at-raised n places size own power size_is own_is h power_is =
    ap (λ p. size * p) power_is ∙ ap (λ m. m * 10 ^ (places - own)) size_is ∙ ap (λ o. unsigned_abs n.units * 10 ^ (places - o)) own_is ∙ sym (size_at-more n places (omega arith))

-- at its own places a number's digits are those of its units
pub size_at-own : (n : Number) (places size own : ℕ) → size ≡ unsigned_abs n.units → own ≡ n.places → own ≡ places → size ≡ size_at places n
size_at-own n places size own size_is own_is at =
    let none : own - places ≡ 0 = omega arith in
    let one : 1 ≡ 10 ^ (own - places) = sym (ap (λ e. 10 ^ e) none) in
    sym (div-one size) ∙ size_at-cut n places size own 1 size_is own_is (omega arith) one

-- one digit more in front of those that are written
pub digit_written : (into : List ℕ) (at rest size total : ℕ) → 0 < at → at ≤ total → total ≡ length into
    → drop at into ≡ digits_of (total - at) size → rest ≡ size / 10 ^ (total - at)
    → drop (at - 1) (set into (at - 1) (48 + rest % 10)) ≡ digits_of (total - (at - 1)) size
digit_written into at rest size total some within long written left =
    let next : at - 1 + 1 ≡ at = omega arith in
    let more : total - (at - 1) ≡ suc (total - at) = omega arith in
    drop-set_at into (at - 1) (at - 1) (48 + rest % 10) refl (omega arith)
    ∙ ap (λ xs. (48 + rest % 10) ∷ xs) (ap (λ i. drop i into) next ∙ written)
    ∙ ap (λ r. (48 + r % 10) ∷ digits_of (total - at) size) left
    ∙ sym (ap (λ k. digits_of k size) more)

pub digit_left : (at rest size total : ℕ) → 0 < at → at ≤ total → rest ≡ size / 10 ^ (total - at) → rest / 10 ≡ size / 10 ^ (total - (at - 1))
digit_left at rest size total some within left =
    let more : total - (at - 1) ≡ suc (total - at) = omega arith in
    ap (λ r. r / 10) left ∙ div-div-eq-div-mul size (10 ^ (total - at)) 10 ∙ ap (λ p. size / p) (sym (pow-suc 10 (total - at)) ∙ ap (λ k. 10 ^ k) (sym more))

-- two digits more
pub pair_written : (into : List ℕ) (at rest size total tens ones : ℕ) → 1 < at → at ≤ total → total ≡ length into
    → tens ≡ 48 + rest % 100 / 10 → ones ≡ 48 + rest % 100 % 10 → drop at into ≡ digits_of (total - at) size → rest ≡ size / 10 ^ (total - at)
    → drop (at - 2) (set (set into (at - 2 + 1) ones) (at - 2) tens) ≡ digits_of (total - (at - 2)) size
pair_written into at rest size total tens ones some within long tens_are ones_are written left =
    let low : drop (at - 1) (set into (at - 1) (48 + rest % 10)) ≡ digits_of (total - (at - 1)) size =
    digit_written into at rest size total (omega arith) within long written left in
    let same : total ≡ length (set into (at - 1) (48 + rest % 10)) = long ∙ sym (length-set into (at - 1) (48 + rest % 10)) in
    let both : drop (at - 1 - 1) (set (set into (at - 1) (48 + rest % 10)) (at - 1 - 1) (48 + rest / 10 % 10)) ≡ digits_of (total - (at - 1 - 1)) size =
    digit_written (set into (at - 1) (48 + rest % 10)) (at - 1) (rest / 10) size total (omega arith) (omega arith) same low
    (digit_left at rest size total (omega arith) within left) in
    let place : at - 2 ≡ at - 1 - 1 = omega arith in
    let next : at - 2 + 1 ≡ at - 1 = omega arith in
    let tens_is : tens ≡ 48 + rest / 10 % 10 = omega arith in
    let ones_is : ones ≡ 48 + rest % 10 = omega arith in
    rw (next, place, tens_is, ones_is) both

pub pair_left : (at rest size total : ℕ) → 1 < at → at ≤ total → rest ≡ size / 10 ^ (total - at) → rest / 100 ≡ size / 10 ^ (total - (at - 2))
pair_left at rest size total some within left =
    let both : rest / 10 / 10 ≡ size / 10 ^ (total - (at - 1 - 1)) =
    digit_left (at - 1) (rest / 10) size total (omega arith) (omega arith) (digit_left at rest size total (omega arith) within left) in
    let place : at - 2 ≡ at - 1 - 1 = omega arith in
    let parts : rest / 100 ≡ rest / 10 / 10 = omega arith in
    rw (place, parts) both
