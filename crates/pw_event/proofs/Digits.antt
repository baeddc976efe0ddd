-- Words that are the digits of a number.
use Rattle.std.proofs.Common.{◌≡◌, ◌≢◌, ℕ, zero, suc, ◌+◌, ◌<◌, ◌≤◌, ◌^◌, true, false, List, [], ◌∷◌, length, get_or, refl, sym, ap, ◌∙◌, arith, subst, inl, inr, Result, Ok, Err}
use Rattle.std.specs.Prelude.{◌==◌, ◌-◌}
use Rattle.std.specs.Char.{is_ascii_digit}
use Rattle.std.proofs.lemmas.Bool.Decides.{nat_tests}
use Rattle.std.specs.Fmt.{decimal}
use Rattle.std.specs.Str.{IsUtf8}
use Rattle.std.specs.Str.Parse.{ParsesUnsigned, AllDigits, digits_value}
use Rattle.std.proofs.lemmas.Bool.{or_cases, or_parts, eqb-true, eqb-false}
use Rattle.std.proofs.lemmas.Fmt.{decimal_is_IsNumeral, decimal-digits_value, first_decimal, decimal_digit, IsAscii-decimal}
use Rattle.std.proofs.lemmas.Str.{IsUtf8-from_ascii}
use Rattle.std.proofs.lemmas.Str.Parse.{digit_at, numerals_by_value, tells_digits, parse_plain}
use Rattle.pw_event.specs.Parsing.{is_odd}

-- the first of the digits
first_digit : (n b : ℕ) (bs : List ℕ) → n < 2 ^ 64 → b ∷ bs ≡ decimal n → (48 ≤ b) × (b ≤ 57)
first_digit n b bs fits is =
    let numeral = decimal_is_IsNumeral n fits in
    let same : get_or (decimal n) 0 0 ≡ b = ap (λ ds. get_or ds 0 0) (sym is) in
    let digit = digit_at (decimal n) 0 numeral.0.1 numeral.0.0 in
    (omega (arith, digit.0), omega (arith, digit.1))

-- a zero is the only digit
one_zero : (n b c : ℕ) (bs : List ℕ) → n < 2 ^ 64 → b ∷ c ∷ bs ≡ decimal n → b ≡ 48 → ⊥
one_zero zero b c bs fits is at_zero = let one : length (b ∷ c ∷ bs) ≡ 1 = ap length (is ∙ decimal_digit 0 (omega arith)) in omega arith
one_zero (suc n) b c bs fits is at_zero =
    let same : get_or (decimal (suc n)) 0 0 ≡ b = ap (λ ds. get_or ds 0 0) (sym is) in
    let more = first_decimal (suc n) (omega arith) fits in
    omega arith

-- the digits of a number have no sign and no further zero in front
pub odd_none : (word : List ℕ) → is_odd word ≡ true → (n : ℕ) → n < 2 ^ 32 → word ≡ decimal n → ⊥
odd_none [] odd n fits is = absurd cc
odd_none (b ∷ []) odd n fits is = let digit = first_digit n b [] (omega arith) is in omega (arith, eqb-true b 43 odd, digit.0)
odd_none (b ∷ c ∷ bs) odd n fits is =
    let digit = first_digit n b (c ∷ bs) (omega arith) is in
    elim (or_cases (b == 43) (b == 48) odd) [
      | inl plus ↦ omega (arith, eqb-true b 43 plus, digit.0)
      | inr naught ↦ one_zero n b c bs (omega arith) is (eqb-true b 48 naught)
    ]

-- what is no text is no number
pub no_text_none : (word : List ℕ) → ¬ (IsUtf8 word) → (n : ℕ) → n < 2 ^ 32 → word ≡ decimal n → ⊥
no_text_none word bare n fits is = let P : List ℕ → Type 0 = λ w. IsUtf8 w in bare (subst P (sym is) (IsUtf8-from_ascii (decimal n) (IsAscii-decimal n (omega arith))))

-- a word that is not odd begins with no sign
no_plus : (word : List ℕ) → is_odd word ≡ false → get_or word 0 0 ≢ 43
no_plus [] plain plus = omega arith
no_plus (b ∷ []) plain plus = eqb-false b 43 plain plus
no_plus (b ∷ c ∷ bs) plain plus = eqb-false b 43 (or_parts (b == 43) (b == 48) plain).0 plus

-- a word that is not odd begins with a zero where it is one alone
lone_zero : (word : List ℕ) → is_odd word ≡ false → get_or word 0 0 ≡ 48 → length word ≡ 1
lone_zero [] plain naught = absurd (omega arith)
lone_zero (b ∷ []) plain naught = refl
lone_zero (b ∷ c ∷ bs) plain naught = absurd (eqb-false b 48 (or_parts (b == 43) (b == 48) plain).1 naught)

-- what is parsed is the number
pub parsed_is : (E : Type 0) (word text : List ℕ) (n : ℕ) → text ≡ word → is_odd word ≡ false → ParsesUnsigned {E = E} 32 10 text (Ok n) → (word ≡ decimal n) × (n < 2 ^ 32)
parsed_is E word text n same plain parses =
    let own = numerals_by_value (AllDigits 10) tells_digits in
    let r : Result ℕ E = Ok n in
    let P : List ℕ → Type 0 = λ w. ParsesUnsigned {E = E} 32 10 w r in
    let read = parse_plain own 32 word r (subst P same parses) (no_plus word plain) in
    let digits = decimal-digits_value own word read.0.0 read.0.1 (lone_zero word plain) (omega (arith, read.0.2)) in
    (sym digits ∙ sym (ap decimal read.1), omega (arith, read.0.2, read.1))

-- what is not parsed is no number
pub parsed_none : (E : Type 0) (word text : List ℕ) (e : E) → text ≡ word → is_odd word ≡ false → ParsesUnsigned {E = E} 32 10 text (Err e) → (n : ℕ) → n < 2 ^ 32 → word ≡ decimal n → ⊥
parsed_none E word text e same plain parses n fits is =
    let own = numerals_by_value (AllDigits 10) tells_digits in
    let r : Result ℕ E = Err e in
    let P : List ℕ → Type 0 = λ w. ParsesUnsigned {E = E} 32 10 w r in
    let read = parse_plain own 32 word r (subst P same parses) (no_plus word plain) in
    let numeral = decimal_is_IsNumeral n (omega arith) in
    let Q : List ℕ → Type 0 = λ w. AllDigits 10 w × (0 < length w) × (digits_value 10 w < 2 ^ 32) in
    read (subst Q (sym is) (numeral.0.1, numeral.0.0, omega (arith, numeral.1)))

-- a byte that is no digit is none of a number
pub no_digit_none : (byte : ℕ) → is_ascii_digit byte ≡ false → (n : ℕ) → n < 2 ^ 32 → byte ∷ [] ≡ decimal n → ⊥
no_digit_none byte other n fits is =
    let digit = first_digit n byte [] (omega arith) is in
    grind (arith, nat_tests)

-- a digit is that of a number
pub digit_is : (byte : ℕ) → is_ascii_digit byte ≡ true → (byte ∷ [] ≡ decimal (byte - 48)) × (byte - 48 < 2 ^ 32)
digit_is byte is =
    let low : 48 ≤ byte = grind (arith, nat_tests) in
    let high : byte ≤ 57 = grind (arith, nat_tests) in
    let same : 48 + (byte - 48) ≡ byte = omega arith in
    (sym (decimal_digit (byte - 48) (omega arith) ∙ ap (λ d. d ∷ []) same), omega arith)
