-- Digits of numbers as they are keyed in.
use Rattle.std.proofs.Common.{◌≡◌, inl, inr, ℕ, zero, suc, ◌+◌, ◌-◌, ◌*◌, ◌/◌, ◌%◌, ◌^◌, ◌<◌, ◌≤◌, Bool, true, false, not, ◌&&◌, ◌==◌, cond, nat_lt, List, [], ◌∷◌, length, length-drop, get_or, filter, Some, None, pos, refl, sym, ap, ◌∙◌, arith}
use Rattle.std.specs.Prelude.{int_lt, take_while, position}
use Rattle.std.specs.Char.{is_ascii_digit}
use Rattle.std.specs.List.{list_all, position_or_len, prefix_len}
use Rattle.std.proofs.lemmas.List.{length-take-le}
use Rattle.std.proofs.lemmas.List.Recursion.{is_position_or_len}
use Rattle.std.proofs.Math.Arith.{mod-mul}
use Rattle.std.proofs.Math.Nat.{pow-suc, pow-succ', pow-le-pow_right, div-eq_of_lt, div-div-eq-div-mul, mul-div-mul_right, mul-mod_left, mod-lt, mul_assoc, mul-div_cancel, mod-mod, mod-eq_of_lt, mul-add-div_right, add-mul, add-mul-mod_self_right, mul_comm}
use Rattle.std.proofs.lemmas.Bool.{cases_lt, ltb-false, and_parts}
use Rattle.std.proofs.lemmas.Bool.Decides.{nat_tests}
use Rattle.std.proofs.lemmas.Nat.{pow-add}
use Rattle.pw_number.proofs.Scales.{ten-pos}
use Rattle.pw_number.proofs.Quotients.{pow-parts, abs-signed}
use Rattle.pw_number.specs.Number.{Number, number}
use Rattle.pw_number.specs.Sign.{signed}
use Rattle.pw_picture.specs.Stored.{chars_of, digit_of, digits_of, is_negative, moved, sign_of, size_at, value_of}
use Rattle.pw_picture.specs.declared.picture.Picture.TheVariants as picture
use Rattle.pw_code.specs.Spelling.{decimals_in, number_in}
use Rattle.pw_picture.specs.Symbols.{begins_with}
use Rattle.pw_machine.proofs.Shorts.{value_of-below}

-- ---- the digit at a weight

parts : (v d p r : ℕ) → (10 * v + d) * p + r ≡ v * (10 * p) + ((10 * 0 + d) * p + r)
parts v d p r =
    let front : (10 * v + d) * p ≡ 10 * v * p + d * p = add-mul (10 * v) d p in
    let ten : 10 * v * p ≡ v * (10 * p) = ap (λ m. m * p) (mul_comm 10 v) ∙ mul_assoc v 10 p in
    let none : (10 * 0 + d) * p ≡ d * p = ap (λ m. m * p) (omega arith) in
    omega (arith, front, ten, none)

value_split : (v : ℕ) (chars : List ℕ) → value_of v chars ≡ v * 10 ^ length chars + value_of 0 chars
value_split v [] = omega arith
value_split v (char ∷ chars) =
    let n : ℕ = length chars in
    let d : ℕ = digit_of char in
    let own : value_of (10 * 0 + d) chars ≡ (10 * 0 + d) * 10 ^ n + value_of 0 chars = value_split (10 * 0 + d) chars in
    value_split (10 * v + d) chars ∙ parts v d (10 ^ n) (value_of 0 chars) ∙ ap (λ p. v * p + ((10 * 0 + d) * 10 ^ n + value_of 0 chars)) (sym (pow-succ' 10 n))
    ∙ ap (λ r. v * 10 ^ suc n + r) (sym own)

below_power : (chars : List ℕ) → value_of 0 chars < 10 ^ length chars
below_power chars = omega (arith, value_of-below 0 chars)

digit_char : (char : ℕ) → is_ascii_digit char ≡ true → 48 + digit_of char ≡ char
digit_char char is = grind (arith, nat_tests)

digit_of-below : (char : ℕ) → digit_of char < 10
digit_of-below char = grind (arith, nat_tests)

-- a digit behind one in front
behind_front : (d r n w : ℕ) → w < n → (d * 10 ^ n + r) / 10 ^ w % 10 ≡ r / 10 ^ w % 10
behind_front d r n w lt =
    let parts : 10 ^ n ≡ 10 ^ (n - w) * 10 ^ w = pow-parts n w (omega arith) in
    let more : 10 ^ (n - w) ≡ 10 * 10 ^ (n - w - 1) =
    let e : n - w ≡ suc (n - w - 1) = omega arith in
    ap (λ k. 10 ^ k) e ∙ pow-succ' 10 (n - w - 1) in
    ap (λ p. (d * p + r) / 10 ^ w % 10) parts
    ∙ ap (λ m. (m + r) / 10 ^ w % 10) (sym (mul_assoc d (10 ^ (n - w)) (10 ^ w)))
    ∙ ap (λ m. m % 10) (mul-add-div_right (ten-pos w) (d * 10 ^ (n - w)) r)
    ∙ ap (λ p. (d * p + r / 10 ^ w) % 10) more
    ∙ ap (λ m. m % 10) (omega arith)
    ∙ add-mul-mod_self_right (r / 10 ^ w) (d * 10 ^ (n - w - 1)) 10

front : (d r n : ℕ) → d < 10 → r < 10 ^ n → (d * 10 ^ n + r) / 10 ^ n % 10 ≡ d
front d r n small below =
    let zero_rest : r / 10 ^ n ≡ 0 = div-eq_of_lt below in
    ap (λ m. m % 10) (mul-add-div_right (ten-pos n) d r) ∙ ap (λ m. (d + m) % 10) zero_rest ∙ ap (λ m. m % 10) (omega arith) ∙ mod-eq_of_lt small

pub digit_weight : (chars : List ℕ) (w : ℕ) → list_all is_ascii_digit chars ≡ true → w < length chars
    → 48 + value_of 0 chars / 10 ^ w % 10 ≡ get_or chars (length chars - 1 - w) 32
digit_weight [] w all lt = absurd (omega arith)
digit_weight (char ∷ chars) w all lt =
    let digits = and_parts (is_ascii_digit char) (list_all is_ascii_digit chars) all in
    let d : ℕ = digit_of char in
    let n : ℕ = length chars in
    let r : ℕ = value_of 0 chars in
    let parts : value_of 0 (char ∷ chars) ≡ d * 10 ^ n + r = value_split (10 * 0 + d) chars ∙ ap (λ v. v * 10 ^ n + r) (omega arith) in
    ap (λ v. 48 + v / 10 ^ w % 10) parts
    ∙ elim (cases_lt w n) as (λ _. 48 + (d * 10 ^ n + r) / 10 ^ w % 10 ≡ get_or (char ∷ chars) (length (char ∷ chars) - 1 - w) 32) [
      | inl less ↦
          let e : suc (n - 1 - w) ≡ length (char ∷ chars) - 1 - w = omega (arith, less) in
          ap (λ m. 48 + m) (behind_front d r n w less) ∙ digit_weight chars w digits.1 less ∙ ap (λ k. get_or (char ∷ chars) k 32) e
      | inr le ↦
          let e : w ≡ n = omega (arith, lt, le) in
          let z : 0 ≡ length (char ∷ chars) - 1 - w = omega (arith, e) in
          ap (λ k. 48 + (d * 10 ^ n + r) / 10 ^ k % 10) e ∙ ap (λ m. 48 + m) (front d r n (digit_of-below char) (below_power chars))
          ∙ digit_char char digits.0 ∙ ap (λ k. get_or (char ∷ chars) k 32) z
    ]

-- no digit stands in front of the first
pub no_digit : (chars : List ℕ) (w : ℕ) → length chars ≤ w → value_of 0 chars / 10 ^ w % 10 ≡ 0
no_digit chars w le =
    let small : value_of 0 chars < 10 ^ w = omega (arith, below_power chars, pow-le-pow_right {n = 10} (omega arith) le) in
    ap (λ m. m % 10) (div-eq_of_lt small)

-- ---- with zeros behind it and places cut

pub cut_digit : (v p d w : ℕ) → p ≤ w + d → v / 10 ^ (w + d - p) % 10 ≡ v * 10 ^ p / 10 ^ d / 10 ^ w % 10
cut_digit v p d w le =
    let power : 10 ^ d * 10 ^ w ≡ 10 ^ (w + d - p) * 10 ^ p =
    sym (pow-add 10 d w) ∙ ap (λ e. 10 ^ e) (omega arith) ∙ pow-parts (w + d) p le in
    sym (ap (λ m. m % 10) (div-div-eq-div-mul (v * 10 ^ p) (10 ^ d) (10 ^ w) ∙ ap (λ q. v * 10 ^ p / q) power
    ∙ mul-div-mul_right v (10 ^ (w + d - p)) (ten-pos p)))

pub raised_digit : (v p d w : ℕ) → w + d < p → 0 ≡ v * 10 ^ p / 10 ^ d / 10 ^ w % 10
raised_digit v p d w lt =
    let e : p - (w + d) ≡ suc (p - (w + d) - 1) = omega arith in
    let more : 10 ^ (p - (w + d)) ≡ 10 * 10 ^ (p - (w + d) - 1) = ap (λ k. 10 ^ k) e ∙ pow-succ' 10 (p - (w + d) - 1) in
    let power : 10 ^ d * 10 ^ w ≡ 10 ^ (w + d) = sym (pow-add 10 d w) ∙ ap (λ e. 10 ^ e) (omega arith) in
    let whole : v * 10 ^ p ≡ v * 10 ^ (p - (w + d)) * 10 ^ (w + d) =
    ap (λ m. v * m) (pow-parts p (w + d) (omega arith)) ∙ sym (mul_assoc v (10 ^ (p - (w + d))) (10 ^ (w + d))) in
    sym (ap (λ m. m % 10) (div-div-eq-div-mul (v * 10 ^ p) (10 ^ d) (10 ^ w) ∙ ap (λ q. v * 10 ^ p / q) power ∙ ap (λ m. m / 10 ^ (w + d)) whole
    ∙ mul-div_cancel (v * 10 ^ (p - (w + d))) (ten-pos (w + d)) ∙ ap (λ m. v * m) more)
    ∙ ap (λ m. m % 10) (omega arith) ∙ mul-mod_left (v * 10 ^ (p - (w + d) - 1)) 10)

-- ---- digits from that of the highest weight on

pub digit_more : (s size digits place digit : ℕ) → place < digits → size ≡ s / 10 ^ (digits - place) % 10 ^ place
    → digit ≡ s / 10 ^ (digits - 1 - place) % 10 → size * 10 + digit ≡ s / 10 ^ (digits - (place + 1)) % 10 ^ (place + 1)
digit_more s size digits place digit lt size_is digit_is =
    let rest : ℕ = s / 10 ^ (digits - (place + 1)) in
    let less : digits - 1 - place ≡ digits - (place + 1) = omega arith in
    let more : digits - place ≡ suc (digits - (place + 1)) = omega arith in
    let front : s / 10 ^ (digits - place) ≡ rest / 10 =
    ap (λ k. s / 10 ^ k) more ∙ ap (λ q. s / q) (pow-suc 10 (digits - (place + 1))) ∙ sym (div-div-eq-div-mul s (10 ^ (digits - (place + 1))) 10) in
    let parts : rest % 10 ^ (place + 1) ≡ rest / 10 % 10 ^ place * 10 + rest % 10 =
    ap (λ k. rest % 10 ^ k) (omega arith) ∙ ap (λ q. rest % q) (pow-suc 10 place) ∙ mod-mul rest (ten-pos place) (omega arith) in
    ap (λ m. m * 10 + digit) size_is ∙ ap (λ q. q % 10 ^ place * 10 + digit) front ∙ ap (λ m. rest / 10 % 10 ^ place * 10 + m) (digit_is ∙ ap (λ k. s / 10 ^ k % 10) less)
    ∙ sym parts

-- ---- a number of some low digits is moved as the whole one

not_below : (n : ℕ) → int_lt (pos n) (pos 0) ≡ false
not_below n = grind (arith, nat_tests)

sign_zero : (negative : Bool) → sign_of negative 0 ≡ 43
sign_zero true = refl
sign_zero false = refl

sign_same : (negative : Bool) (size v : ℕ) → (v ≡ 0 → size ≡ 0)
    → sign_of (int_lt (signed negative size) (pos 0)) size ≡ sign_of (int_lt (signed negative v) (pos 0)) size
sign_same false size v h = ap (λ b. sign_of b size) (not_below size ∙ sym (not_below v))
sign_same true zero v h = sign_zero (int_lt (signed true zero) (pos 0)) ∙ sym (sign_zero (int_lt (signed true v) (pos 0)))
sign_same true (suc size) zero h = absurd (omega (arith, h refl))
sign_same true (suc size) (suc v) h = refl

abbrev low : ℕ → ℕ → ℕ → ℕ → ℕ
low digits places v n = v * 10 ^ places / 10 ^ n % 10 ^ digits

-- its size at its own places, and none of it without any
size_same : (digits places v n : ℕ) → low digits places v n * 10 ^ places / 10 ^ places % 10 ^ digits ≡ low digits places v n
size_same digits places v n =
    ap (λ m. m % 10 ^ digits) (mul-div_cancel (low digits places v n) (ten-pos places)) ∙ mod-mod (v * 10 ^ places / 10 ^ n) (10 ^ digits)

none_of : (digits places v n : ℕ) → v ≡ 0 → low digits places v n ≡ 0
none_of digits places v n none =
    let whole : v * 10 ^ places ≡ 0 = ap (λ m. m * 10 ^ places) none ∙ omega arith in
    let first : v * 10 ^ places / 10 ^ n ≡ 0 = ap (λ m. m / 10 ^ n) whole ∙ div-eq_of_lt (ten-pos n) in
    ap (λ m. m % 10 ^ digits) first ∙ mod-eq_of_lt (ten-pos digits)

chars_same : (digits : ℕ) (sign a b : Bool) (size other : ℕ) → size ≡ other → sign_of a other ≡ sign_of b other → chars_of digits sign a size ≡ chars_of digits sign b other
chars_same digits true a b size other same signs =
    ap (λ m. sign_of a m ∷ digits_of digits m) same ∙ ap (λ m. m ∷ digits_of digits other) signs
chars_same digits false a b size other same signs = ap (digits_of digits) same

pub moved_same : (digits places n v : ℕ) (sign negative : Bool)
    → moved (picture.Number digits places sign) (number (signed negative (low digits places v n)) places) ≡ moved (picture.Number digits places sign) (number (signed negative v) n)
moved_same digits places n v sign negative =
    let size : ℕ = low digits places v n in
    let own : size_at places (number (signed negative size) places) % 10 ^ digits ≡ size =
    ap (λ m. m * 10 ^ places / 10 ^ places % 10 ^ digits) (abs-signed negative size) ∙ size_same digits places v n in
    let all : size_at places (number (signed negative v) n) % 10 ^ digits ≡ size = ap (λ m. m * 10 ^ places / 10 ^ n % 10 ^ digits) (abs-signed negative v) in
    let first = chars_same digits sign (is_negative (number (signed negative size) places)) (is_negative (number (signed negative v) n)) _ size own
    (sign_same negative size v (none_of digits places v n)) in
    first ∙ ap (λ m. chars_of digits sign (is_negative (number (signed negative v) n)) m) (sym all)

-- ---- digits of what is keyed in

all_digits : (s : List ℕ) → list_all is_ascii_digit (filter is_ascii_digit s) ≡ true
all_digits [] = refl
all_digits (x ∷ xs) = pick (is_ascii_digit x) refl (all_digits xs)
  where
    pick : (b : Bool) → is_ascii_digit x ≡ b → list_all is_ascii_digit (filter is_ascii_digit xs) ≡ true
        → list_all is_ascii_digit (cond b (x ∷ filter is_ascii_digit xs) (filter is_ascii_digit xs)) ≡ true
    pick true e more = ap (λ b. b && list_all is_ascii_digit (filter is_ascii_digit xs)) e ∙ more
    pick false e more = more

pub digit_there : (s : List ℕ) (count w digit : ℕ) → count ≡ length (filter is_ascii_digit s) → w < count → digit ≡ get_or (filter is_ascii_digit s) (count - 1 - w) 32
    → digit ≡ 48 + value_of 0 (filter is_ascii_digit s) / 10 ^ w % 10
digit_there s count w digit all lt is =
    is ∙ ap (λ n. get_or (filter is_ascii_digit s) (n - 1 - w) 32) all ∙ sym (digit_weight (filter is_ascii_digit s) w (all_digits s) (omega (arith, all, lt)))

-- ---- the point

abbrev is_point : ℕ → Bool
is_point char = char == 46

prefix_fits : (s : List ℕ) → prefix_len (λ char. not (char == 46)) s ≤ length s
prefix_fits [] = omega arith
prefix_fits (x ∷ xs) = pick (x == 46) (prefix_fits xs)
  where
    pick : (b : Bool) → prefix_len (λ char. not (char == 46)) xs ≤ length xs → cond (not b) (1 + prefix_len (λ char. not (char == 46)) xs) 0 ≤ length (x ∷ xs)
    pick true le = omega arith
    pick false le = omega (arith, le)

prefix_is : (s : List ℕ) → prefix_len (λ char. not (char == 46)) s ≡ position_or_len is_point s
prefix_is s = is_position_or_len (λ (l : List ℕ). prefix_len (λ char. not (char == 46)) l) is_point refl step s
  where
    step : (x : ℕ) (xs : List ℕ) → prefix_len (λ char. not (char == 46)) (x ∷ xs) ≡ cond (is_point x) 0 (1 + prefix_len (λ char. not (char == 46)) xs)
    step x xs = pick (x == 46)
      where
        pick : (b : Bool) → cond (not b) (1 + prefix_len (λ char. not (char == 46)) xs) 0 ≡ cond b 0 (1 + prefix_len (λ char. not (char == 46)) xs)
        pick true = refl
        pick false = refl

front_length : (s : List ℕ) → length (take_while (λ char. not (char == 46)) s) ≡ position_or_len is_point s
front_length s = length-take-le (prefix_len (λ char. not (char == 46)) s) s (prefix_fits s) ∙ prefix_is s

decimals_length : (s : List ℕ) → length (decimals_in s) ≡ length s - (position_or_len is_point s + 1)
decimals_length s = length-drop (length (take_while (λ char. not (char == 46)) s) + 1) s ∙ ap (λ n. length s - (n + 1)) (front_length s)

pub decimals_behind : (s : List ℕ) (point : ℕ) → position is_point s ≡ Some point → length s - point - 1 ≡ length (decimals_in s)
decimals_behind s point e = pick (nat_lt (position_or_len is_point s) (length s)) e (decimals_length s)
  where
    pick : (b : Bool) → cond b (Some (position_or_len is_point s)) None ≡ Some point → length (decimals_in s) ≡ length s - (position_or_len is_point s + 1)
        → length s - point - 1 ≡ length (decimals_in s)
    pick true e long = let is : position_or_len is_point s ≡ point = cc in omega (arith, is, long)
    pick false e long = absurd (cc)

pub no_decimals : (s : List ℕ) → position is_point s ≡ None → 0 ≡ length (decimals_in s)
no_decimals s e = pick (nat_lt (position_or_len is_point s) (length s)) refl e (decimals_length s)
  where
    pick : (b : Bool) → nat_lt (position_or_len is_point s) (length s) ≡ b → cond b (Some (position_or_len is_point s)) None ≡ None
        → length (decimals_in s) ≡ length s - (position_or_len is_point s + 1) → 0 ≡ length (decimals_in s)
    pick true past e long = absurd (cc)
    pick false past e long = let le : length s ≤ position_or_len is_point s = ltb-false (position_or_len is_point s) (length s) past in omega (arith, le, long)

-- ---- how much the digits so far are

pub some_digits : (s k place size : ℕ) → size ≡ s / 10 ^ k % 10 ^ place → place ≤ 17 → size < 10 ^ 17
some_digits s k place size is few =
    let less : s / 10 ^ k % 10 ^ place < 10 ^ place = mod-lt (s / 10 ^ k) (ten-pos place) in
    omega (arith, is, less, pow-le-pow_right {n = 10} (omega arith) few)

pub few_digits : (s digits : ℕ) → digits ≤ 18 → s % 10 ^ digits < 10 ^ 18
few_digits s digits few =
    let less : s % 10 ^ digits < 10 ^ digits = mod-lt s (ten-pos digits) in
    omega (arith, less, pow-le-pow_right {n = 10} (omega arith) few)

pub keyed_size : (s : List ℕ) (places : ℕ) → size_at places (number_in s) ≡ value_of 0 (filter is_ascii_digit s) * 10 ^ places / 10 ^ length (decimals_in s)
keyed_size s places = ap (λ m. m * 10 ^ places / 10 ^ length (decimals_in s)) (abs-signed (begins_with 45 s) (value_of 0 (filter is_ascii_digit s)))

pub number_moved : (s : List ℕ) (digits places size : ℕ) (sign negative : Bool) (n : Number) → n ≡ number (signed negative size) places → negative ≡ begins_with 45 s
    → size ≡ size_at places (number_in s) % 10 ^ digits → moved (picture.Number digits places sign) n ≡ moved (picture.Number digits places sign) (number_in s)
number_moved s digits places size sign negative n is flag all =
    let v : ℕ = value_of 0 (filter is_ascii_digit s) in
    let k : ℕ = length (decimals_in s) in
    let own : size ≡ low digits places v k = all ∙ ap (λ m. m % 10 ^ digits) (keyed_size s places) in
    let whole : n ≡ number (signed (begins_with 45 s) (low digits places v k)) places =
    is ∙ ap (λ b. number (signed b size) places) flag ∙ ap (λ m. number (signed (begins_with 45 s) m) places) own in
    ap (λ (m : Number). moved (picture.Number digits places sign) m) whole ∙ moved_same digits places k v sign (begins_with 45 s)
