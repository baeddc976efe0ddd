-- The number that digits write.
use Rattle.std.proofs.Common.{◌≡◌, ℕ, zero, suc, ◌+◌, ◌-◌, ◌*◌, ◌^◌, ◌<◌, ◌≤◌, Bool, true, false, ◌&&◌, nat_le, List, [], ◌∷◌, length, get_or, take, refl, arith}
use Rattle.std.specs.Char.{is_ascii_digit, digit_value}
use Rattle.std.specs.List.{list_all}
use Rattle.std.specs.Str.{all_ascii_digits}
use Rattle.std.specs.Str.Parse.{digits_value}
use Rattle.std.proofs.lemmas.Bool.{and_parts}
use Rattle.std.proofs.lemmas.Bool.Decides.{nat_tests}
use Rattle.std.proofs.lemmas.Int.Digits.{digits_value_more}
use Rattle.pw_sections.specs.Words.{is_number}
use Rattle.std.proofs.lemmas.Str.Parse.{IsNumeralModel, numerals_by_value, tells_all_ascii_digits, digits_value_short, digits_value-take-le}

own : IsNumeralModel (λ ds. all_ascii_digits ds ≡ true) (digits_value 10)
own = numerals_by_value _ tells_all_ascii_digits

all_digits : (word : List ℕ) → list_all is_ascii_digit word ≡ true → all_ascii_digits word ≡ true
all_digits [] h = refl
all_digits (b ∷ rest) h = go (is_ascii_digit b) refl h (all_digits rest)
  where
    go : (t : Bool) → is_ascii_digit b ≡ t → list_all is_ascii_digit (b ∷ rest) ≡ true → (list_all is_ascii_digit rest ≡ true → all_ascii_digits rest ≡ true)
        → all_ascii_digits (b ∷ rest) ≡ true
    go true e h more = rw e (more (rw e at h))
    go false e h more = let no : false ≡ true = rw e at h in absurd cc

digit_here : (word : List ℕ) (i : ℕ) → list_all is_ascii_digit word ≡ true → i < length word → is_ascii_digit (get_or word i 0) ≡ true
digit_here [] i h lt = absurd (omega arith)
digit_here (b ∷ rest) zero h lt = go (is_ascii_digit b) refl
  where
    go : (t : Bool) → is_ascii_digit b ≡ t → is_ascii_digit b ≡ true
    go true e = e
    go false e = let no : false ≡ true = rw e at h in absurd cc
digit_here (b ∷ rest) (suc i) h lt = go (is_ascii_digit b) refl (λ more. digit_here rest i more (omega arith))
  where
    go : (t : Bool) → is_ascii_digit b ≡ t → (list_all is_ascii_digit rest ≡ true → is_ascii_digit (get_or rest i 0) ≡ true) → is_ascii_digit (get_or rest i 0) ≡ true
    go true e next = next (rw e at h)
    go false e next = let no : false ≡ true = rw e at h in absurd cc

digit_is : (b : ℕ) → is_ascii_digit b ≡ true → (48 ≤ b) × (b ≤ 57) × (digit_value b ≡ b - 48)
digit_is b h = (grind (arith, nat_tests), grind (arith, nat_tests), grind (arith, nat_tests))

-- what one more digit makes of the number before it
pub record Turn (word : List ℕ) (i b value : ℕ) : Type 0 where
  pub low : 48 ≤ b
  pub high : b ≤ 57
  pub is : value * 10 + (b - 48) ≡ digits_value 10 (take (i + 1) word)
  pub small : value * 10 + (b - 48) < 10000000000

pub turn : (word : List ℕ) (i b value : ℕ) → list_all is_ascii_digit word ≡ true → length word ≤ 10 → i < length word
    → b ≡ get_or word i 0 → value ≡ digits_value 10 (take i word) → Turn word i b value
turn word i b value digits few lt byte so_far =
    let d = digit_is (get_or word i 0) (digit_here word i digits lt) in
    let short : digits_value 10 word < 10 ^ 10 = digits_value_short own word 10 (all_digits word digits) few in
    let part : digits_value 10 (take (i + 1) word) ≤ digits_value 10 word = digits_value-take-le 10 word (i + 1) (omega arith) in
    let more = digits_value_more 10 word i lt in
    let low : 48 ≤ b = omega (arith, d, byte) in
    let high : b ≤ 57 = omega (arith, d, byte) in
    let is : value * 10 + (b - 48) ≡ digits_value 10 (take (i + 1) word) = omega (arith, d, byte, so_far, more) in
    record { low = low; high = high; is = is; small = omega (arith, is, part, short) }

-- what 1 to 9 digits write
pub nine : (word : List ℕ) → is_number word ≡ true → digits_value 10 word < 1000000000
nine word h =
    let length_and_rest = and_parts (nat_le 1 (length word)) (nat_le (length word) 9 && list_all is_ascii_digit word) h in
    let few_and_digits = and_parts (nat_le (length word) 9) (list_all is_ascii_digit word) length_and_rest.1 in
    digits_value_short own word 9 (all_digits word few_and_digits.1) (at-most (length word) 9 few_and_digits.0)
  where
    at-most : (a b : ℕ) → nat_le a b ≡ true → a ≤ b
    at-most a b h = grind (arith, nat_tests)
