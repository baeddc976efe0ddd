-- Numbers, and the words that are their digits.
use Rattle.std.proofs.Common.{◌≡◌, ◌≢◌, ℕ, ◌<◌, ◌≤◌, ◌^◌, Bool, true, false, cond, List, refl, arith, Result, Ok, Err}
use Rattle.std.specs.Prelude.{◌&&◌, nat_le, ◌==◌}
use Rattle.std.specs.Fmt.{decimal}
use Rattle.std.specs.Str.{bytes_eq}
use Rattle.std.specs.Str.Parse.{digits_value}
use Rattle.std.proofs.lemmas.Bool.{and_parts, leb-true, le-leb, lt-leb, eqb-false, ne_eqb}
use Rattle.std.proofs.lemmas.Fmt.{decimal_is_IsNumeral}
use Rattle.std.proofs.lemmas.Slice.Eq.{bytes_eq-Decides}
use Rattle.pw_base.proofs.Plain.{bytes_eq-same}
use Rattle.pw_event.specs.declared.fault.EventFault.{EventFault}
use Rattle.pw_event.specs.declared.fault.EventFault.TheVariants.{Bad}
use Rattle.pw_event.specs.Parsing.{number, positive_count_read}
use Rattle.pw_event.proofs.Steps.{Outcome, and_then}

-- a number is read from its digits
pub number-decimal : (limit n : ℕ) → n ≤ limit → n < 2 ^ 64 → number limit (decimal n) ≡ Ok n
unfolding number
number-decimal limit n within fits =
    let value : digits_value 10 (decimal n) ≡ n = (decimal_is_IsNumeral n fits).1 in
    rw (value, bytes_eq-same (decimal n), le-leb n limit within) refl

number_by : (limit n : ℕ) (word : List ℕ) (U : Type 0) (b : Bool) → (bytes_eq word (decimal n) && nat_le n limit) ≡ b
    → Outcome (λ n. (word ≡ decimal n) × (n ≤ limit)) U (cond b (Ok n) (Err Bad))
number_by limit n word U true is =
    let both = and_parts (bytes_eq word (decimal n)) (nat_le n limit) is in
    ((bytes_eq-Decides word (decimal n)).0 both.0, leb-true n limit both.1)
number_by limit n word U false is = tt

-- what is read is the number whose digits the word is
pub number_out : (limit : ℕ) (word : List ℕ) (U : Type 0) → Outcome (λ n. (word ≡ decimal n) × (n ≤ limit)) U (number limit word)
unfolding number
number_out limit word U = number_by limit (digits_value 10 word) word U _ refl

pub counted-decimal : (n : ℕ) → (1 ≤ n) × (n < 2 ^ 32) → positive_count_read (decimal n) ≡ Ok n
unfolding positive_count_read
counted-decimal n within =
    rw (number-decimal 4294967295 n (omega (arith, within.1)) (omega (arith, within.1)), ne_eqb n 0 (λ e. omega (arith, within.0))) refl

counted_by : (n : ℕ) (word : List ℕ) (U : Type 0) (b : Bool) → (n == 0) ≡ b → (word ≡ decimal n) × (n ≤ 4294967295)
    → Outcome (λ n. (word ≡ decimal n) × ((1 ≤ n) × (n < 2 ^ 32))) U (cond b (Err Bad) (Ok n))
counted_by n word U true zero is = tt
counted_by n word U false some is = (is.0, (omega (arith, eqb-false n 0 some), omega arith))

pub counted_out : (word : List ℕ) (U : Type 0) → Outcome (λ n. (word ≡ decimal n) × ((1 ≤ n) × (n < 2 ^ 32))) U (positive_count_read word)
unfolding positive_count_read
counted_out word U = and_then (λ n. (word ≡ decimal n) × (n ≤ 4294967295)) _ U (number 4294967295 word) _ (number_out 4294967295 word U) (λ n is. counted_by n word U _ refl is)

-- a number above the limit is none
pub number_large : (limit n : ℕ) → limit < n → n < 2 ^ 64 → number limit (decimal n) ≡ Err Bad
unfolding number
number_large limit n above fits =
    let value : digits_value 10 (decimal n) ≡ n = (decimal_is_IsNumeral n fits).1 in
    rw (value, bytes_eq-same (decimal n), lt-leb n limit above) refl

number_none_by : (limit n : ℕ) (word : List ℕ) (b : Bool) → (bytes_eq word (decimal n) && nat_le n limit) ≡ b → limit < 2 ^ 32 → ((n : ℕ) → n < 2 ^ 32 → word ≢ decimal n)
    → cond {A = Result ℕ EventFault} b (Ok n) (Err Bad) ≡ Err Bad
number_none_by limit n word true is low none = absurd (let both = and_parts (bytes_eq word (decimal n)) (nat_le n limit) is in none n (omega (arith, leb-true n limit both.1)) ((bytes_eq-Decides word (decimal n)).0 both.0))
number_none_by limit n word false is low none = refl

-- a word that is no number is none
pub number_none : (limit : ℕ) (word : List ℕ) → limit < 2 ^ 32 → ((n : ℕ) → n < 2 ^ 32 → word ≢ decimal n) → number limit word ≡ Err Bad
unfolding number
number_none limit word low none = number_none_by limit (digits_value 10 word) word _ refl low none
