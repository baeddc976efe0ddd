-- Quotients of numbers with zeros behind them.
use Rattle.std.proofs.Common.{◌≡◌, ℕ, zero, suc, ◌+◌, ◌-◌, ◌*◌, ◌/◌, ◌%◌, ◌^◌, ◌<◌, ◌≤◌, Bool, true, false, cond, Err, ℤ, pos, negsuc, neg_ℤ, ◌*ℤ◌, unsigned_abs, int_div, ◌==◌, refl, sym, ap, ◌∙◌, arith}
use Rattle.std.proofs.lemmas.Nat.{pow-add}
use Rattle.std.proofs.Math.Nat.{mul-div-mul_right, mul-add-div, mul_assoc, div-add-mod}
use Rattle.std.proofs.lemmas.Int.{unsigned_abs-mul}
use Rattle.std.proofs.lemmas.Bool.Decides.{nat_tests}
use Rattle.pw_number.specs.Number.{Number, number}
use Rattle.pw_number.specs.Arithmetic.{sized, quotient, divided}
use Rattle.pw_number.specs.Sign.{signed, signs_differ}
use Rattle.pw_number.proofs.Scales.{ten-pos, times_below}

-- long division in two steps
pub long_division : (n s d : ℕ) → 0 < d → n * s / d ≡ n / d * s + n % d * s / d
long_division n s d h =
    let parts : n * s ≡ d * (n / d * s) + n % d * s = ap (λ m. m * s) (sym (div-add-mod n d)) ∙ omega arith in
    ap (λ m. m / d) parts ∙ mul-add-div h (n / d * s) (n % d * s)

-- the same with zeros behind the number, of which some are written first
pub in_two_steps : (size all first d p q : ℕ) → first ≤ all → 0 < d → p ≡ 10 ^ first → q ≡ 10 ^ (all - first)
    → size * p / d * q + size * p % d * q / d ≡ size * 10 ^ all / d
in_two_steps size all first d p q h d_pos p_is q_is =
    let whole : p * q ≡ 10 ^ all = ap (λ m. m * q) p_is ∙ ap (λ m. 10 ^ first * m) q_is ∙ sym (pow-add 10 first (all - first)) ∙ ap (λ e. 10 ^ e) (omega arith) in
    sym (long_division (size * p) q d d_pos) ∙ ap (λ m. m / d) (mul_assoc size p q ∙ ap (λ m. size * m) whole)

-- a power in two parts
pub pow-parts : (e k : ℕ) → k ≤ e → 10 ^ e ≡ 10 ^ (e - k) * 10 ^ k
pow-parts e k h = let whole : e ≡ (e - k) + k = omega arith in ap (λ x. 10 ^ x) whole ∙ pow-add 10 (e - k) k

-- zeros behind both are left out
pub fewer_zeros : (n d e k : ℕ) → k ≤ e → n * 10 ^ e / (d * 10 ^ k) ≡ n * 10 ^ (e - k) / d
fewer_zeros n d e k h = ap (λ m. n * m / (d * 10 ^ k)) (pow-parts e k h) ∙ ap (λ m. m / (d * 10 ^ k)) (sym (mul_assoc n (10 ^ (e - k)) (10 ^ k))) ∙ mul-div-mul_right (n * 10 ^ (e - k)) d (ten-pos k)

pub fewer_zeros-divisor : (n d e k : ℕ) → e ≤ k → n * 10 ^ e / (d * 10 ^ k) ≡ n / (d * 10 ^ (k - e))
fewer_zeros-divisor n d e k h = ap (λ m. n * 10 ^ e / (d * m)) (pow-parts k e h) ∙ ap (λ m. n * 10 ^ e / m) (sym (mul_assoc d (10 ^ (k - e)) (10 ^ e))) ∙ mul-div-mul_right n (d * 10 ^ (k - e)) (ten-pos e)

-- the quotient toward zero by signs and sizes
pub int_div-signed : (x y : ℤ) → int_div x y ≡ signed (signs_differ x y) (unsigned_abs x / unsigned_abs y)
int_div-signed (pos a) (pos b) = refl
int_div-signed (pos a) (negsuc b) = refl
int_div-signed (negsuc a) (pos b) = refl
int_div-signed (negsuc a) (negsuc b) = refl

-- the signs of numbers below zero
differ-right : (a m : ℕ) → 0 < m → signs_differ (pos a) (neg_ℤ (pos m)) ≡ true
differ-right a zero h = absurd (omega arith)
differ-right a (suc m) h = refl

differ-left : (m b : ℕ) → 0 < m → signs_differ (neg_ℤ (pos m)) (pos b) ≡ true
differ-left zero b h = absurd (omega arith)
differ-left (suc m) b h = refl

differ-neither : (m n : ℕ) → 0 < m → 0 < n → signs_differ (neg_ℤ (pos m)) (neg_ℤ (pos n)) ≡ false
differ-neither zero n h k = absurd (omega arith)
differ-neither (suc m) zero h k = absurd (omega arith)
differ-neither (suc m) (suc n) h k = refl

times_above : (a k : ℕ) → 0 < k → 0 < suc a * k
times_above a k h = omega (arith, times_below 0 (suc a) k h (omega arith))

-- factors above zero change no sign
pub signs-times : (x y : ℤ) (k l : ℕ) → 0 < k → 0 < l → signs_differ (x *ℤ pos k) (y *ℤ pos l) ≡ signs_differ x y
signs-times (pos a) (pos b) k l k_pos l_pos = refl
signs-times (pos a) (negsuc b) k l k_pos l_pos = differ-right (a * k) (suc b * l) (times_above b l l_pos)
signs-times (negsuc a) (pos b) k l k_pos l_pos = differ-left (suc a * k) (b * l) (times_above a k k_pos)
signs-times (negsuc a) (negsuc b) k l k_pos l_pos = differ-neither (suc a * k) (suc b * l) (times_above a k k_pos) (times_above b l l_pos)

-- the size of a signed number
pub abs-signed : (negative : Bool) (size : ℕ) → unsigned_abs (signed negative size) ≡ size
abs-signed false size = refl
abs-signed true zero = refl
abs-signed true (suc size) = refl

-- the quotient of numbers with zeros behind both, by their signs and sizes
pub quotient_units : (x y : ℤ) (d e : ℕ)
    → int_div (x *ℤ pos (10 ^ e)) (y *ℤ pos (10 ^ d)) ≡ signed (signs_differ x y) (unsigned_abs x * 10 ^ e / (unsigned_abs y * 10 ^ d))
quotient_units x y d e =
    int_div-signed (x *ℤ pos (10 ^ e)) (y *ℤ pos (10 ^ d))
    ∙ ap (λ b. signed b (unsigned_abs (x *ℤ pos (10 ^ e)) / unsigned_abs (y *ℤ pos (10 ^ d)))) (signs-times x y (10 ^ e) (10 ^ d) (ten-pos e) (ten-pos d))
    ∙ ap (λ n. signed (signs_differ x y) (n / unsigned_abs (y *ℤ pos (10 ^ d)))) (unsigned_abs-mul x (pos (10 ^ e)))
    ∙ ap (λ n. signed (signs_differ x y) (unsigned_abs x * 10 ^ e / n)) (unsigned_abs-mul y (pos (10 ^ d)))

-- the quotient by its sign and size is the quotient of the values
sized_quotient : (a b : Number) (places all size : ℕ) → all ≡ b.places + places
    → size ≡ unsigned_abs a.units * 10 ^ all / (unsigned_abs b.units * 10 ^ a.places)
    → sized (number (signed (signs_differ a.units b.units) size) places) ≡ sized (quotient places a b)
sized_quotient a b places all size all_is size_is =
    ap (λ u. sized (number u places))
    (ap (λ n. signed (signs_differ a.units b.units) n) (size_is ∙ ap (λ e. unsigned_abs a.units * 10 ^ e / (unsigned_abs b.units * 10 ^ a.places)) all_is)
    ∙ sym (quotient_units a.units b.units a.places (b.places + places)))

-- where the divisor is not zero there is a quotient
divided_by : (a b : Number) (places divisor : ℕ) → divisor ≡ unsigned_abs b.units → (divisor ≡ 0 → ⊥) → divided places a b ≡ sized (quotient places a b)
divided_by a b places divisor divisor_is not =
    let test : (unsigned_abs b.units == 0) ≡ false = grind (arith, nat_tests) in
    ap (λ t. cond t (Err (record {})) (sized (quotient places a b))) test

-- what was computed of the parts of two numbers is their quotient
pub divided_parts : (a b : Number) (places : ℕ) (units divisor : ℤ) (units_size divisor_size units_places divisor_places size : ℕ)
    → units ≡ a.units → divisor ≡ b.units → units_size ≡ unsigned_abs units → divisor_size ≡ unsigned_abs divisor
    → units_places ≡ a.places → divisor_places ≡ b.places → (divisor_size ≡ 0 → ⊥)
    → size ≡ units_size * 10 ^ (divisor_places + places) / (divisor_size * 10 ^ units_places)
    → sized (number (signed (signs_differ units divisor) size) places) ≡ divided places a b
divided_parts a b places units divisor units_size divisor_size units_places divisor_places size e1 e2 e3 e4 e5 e6 not size_is =
    let whole = sized_quotient a b places (divisor_places + places) size (ap (λ p. p + places) e6) (cc) in
    let there = divided_by a b places divisor_size (cc) not in
    cc
