-- A number by its last digits.
use Rattle.std.proofs.Common.{◌≡◌, ℕ, ◌/◌, ◌%◌, ◌+◌, ◌<◌, ◌≤◌, ◌^◌, List, [], ◌∷◌, ◌++◌, Result, Ok, Err, sym, ap, ◌∙◌, append_assoc, arith}
use Rattle.std.specs.Prelude.{OnOk}
use Rattle.std.specs.Fmt.{decimal}
use Rattle.std.proofs.lemmas.Fmt.{decimal_digit, decimal_step}

-- what is put behind a text is all of the number
pub put-alone : {E : Type 0} (put : Result (Unit {0}) E) (text new piece : List ℕ) (n : ℕ) → decimal n ≡ piece
    → OnOk put (new ≡ text ++ piece) → OnOk put (new ≡ text ++ decimal n)
put-alone (Ok _) text new piece n all is = is ∙ ap (λ (digits : List ℕ). text ++ digits) (sym all)
put-alone (Err _) text new piece n all is = is

-- what is put behind a text and the first digits of the number is the rest of them
pub put-last : {E : Type 0} (put : Result (Unit {0}) E) (text front new piece : List ℕ) (n first : ℕ) → decimal n ≡ decimal first ++ piece
    → front ≡ text ++ decimal first → OnOk put (new ≡ front ++ piece) → OnOk put (new ≡ text ++ decimal n)
put-last (Ok _) text front new piece n first splits so is =
    is
    ∙ (ap (λ (t : List ℕ). t ++ piece) so
    ∙ (append_assoc text (decimal first) piece
    ∙ ap (λ (digits : List ℕ). text ++ digits) (sym splits)))
put-last (Err _) text front new piece n first splits so is = is

-- a number of one digit
pub one-digit : (n : ℕ) → n < 10 → decimal n ≡ (48 + n % 10) ∷ []
one-digit n few = decimal_digit n few ∙ ap (λ (k : ℕ). (48 + k) ∷ []) {x = n} {y = n % 10} (omega arith)

-- a number of two digits
pub two-digits : (n : ℕ) → 10 ≤ n → n < 100 → decimal n ≡ (48 + n / 10 % 10) ∷ (48 + n % 10) ∷ []
two-digits n many few =
    decimal_step n many (omega arith) ∙ ap (λ (digits : List ℕ). digits ++ (48 + n % 10) ∷ []) (one-digit (n / 10) (omega arith))

-- a number of more digits ends with two
pub last-two : (n : ℕ) → 100 ≤ n → n < 2 ^ 64 → decimal n ≡ decimal (n / 100) ++ (48 + n / 10 % 10) ∷ (48 + n % 10) ∷ []
last-two n many fits =
    decimal_step n (omega arith) fits
    ∙ (ap (λ (digits : List ℕ). digits ++ (48 + n % 10) ∷ []) (decimal_step (n / 10) (omega arith) (omega arith))
    ∙ (append_assoc (decimal (n / 10 / 10)) ((48 + n / 10 % 10) ∷ []) ((48 + n % 10) ∷ [])
    ∙ ap (λ (k : ℕ). decimal k ++ (48 + n / 10 % 10) ∷ (48 + n % 10) ∷ []) {x = n / 10 / 10} {y = n / 100} (omega arith)))

-- a number of more than four digits ends with four
pub last-four : (n : ℕ) → 10000 ≤ n → n < 2 ^ 64
    → decimal n ≡ decimal (n / 10000) ++ (48 + n / 1000 % 10) ∷ (48 + n / 100 % 10) ∷ (48 + n / 10 % 10) ∷ (48 + n % 10) ∷ []
last-four n many fits =
    last-two n (omega arith) fits
    ∙ (ap (λ (digits : List ℕ). digits ++ (48 + n / 10 % 10) ∷ (48 + n % 10) ∷ []) (last-two (n / 100) (omega arith) (omega arith))
    ∙ (append_assoc (decimal (n / 100 / 100)) ((48 + n / 100 / 10 % 10) ∷ (48 + n / 100 % 10) ∷ []) ((48 + n / 10 % 10) ∷ (48 + n % 10) ∷ [])
    ∙ (ap (λ (k : ℕ). decimal k ++ (48 + n / 100 / 10 % 10) ∷ (48 + n / 100 % 10) ∷ (48 + n / 10 % 10) ∷ (48 + n % 10) ∷ [])
    {x = n / 100 / 100} {y = n / 10000} (omega arith)
    ∙ ap (λ (k : ℕ). decimal (n / 10000) ++ (48 + k % 10) ∷ (48 + n / 100 % 10) ∷ (48 + n / 10 % 10) ∷ (48 + n % 10) ∷ [])
    {x = n / 100 / 10} {y = n / 1000} (omega arith))))
