-- Amounts that TELLER sends, and that a debit and its credit balance.
use Rattle.std.proofs.Common.{◌≡◌, ℕ, zero, suc, ◌^◌, ◌<◌, Bool, true, false, List, [], ◌∷◌, ◌++◌, length, take, drop, if◌then◌else◌, Some, ℤ, pos, neg_ℤ, ◌+ℤ◌, unsigned_abs, refl, sym, ap, ◌∙◌, arith}
use Rattle.std.specs.Prelude.{bytes_eq, codes}
use Rattle.std.proofs.lemmas.Int.{ints}
use Rattle.std.proofs.lemmas.List.{length-append, take_all}
use Rattle.pw_bank_laws.proofs.Numbers.{seven}
use Rattle.pw_bank_laws.specs.Balances.{amount_in, posted}
use Rattle.pw_invariants.specs.Invariants.{stepped}
use Rattle.pw_invariants.specs.Requests.{RepliedRequest}
use Rattle.pw_number.specs.Arithmetic.{difference, sized}
use Rattle.pw_number.specs.Number.{Number, number}
use Rattle.pw_picture.specs.Stored.{moved, value_of}
use Rattle.pw_picture.specs.Text.{fitted}
use Rattle.pw_program_laws.proofs.Amounts.{amount-long, amount-received, amount-units, units_in, value-below}
use Rattle.pw_program_laws.proofs.Parts.{drop-first, fitted-whole}
use Rattle.pw_program_laws.specs.Meets.{received}

-- seven digits are below ten millions
pub seven-digits : (chars : List ℕ) → length chars ≡ 7 → value_of 0 chars < 10 ^ 7
seven-digits chars long =
    let power : 10 ^ length chars ≡ 10 ^ 7 = ap (λ k. 10 ^ k) long in
    omega (arith, value-below 0 chars, power)

-- what is stored of a number of two places and of seven digits
module _ (n : Number) (two : n.places ≡ 2) (small : unsigned_abs n.units < 10 ^ 7) where
  pub seven-units : units_in (moved seven n) ≡ n.units
  seven-units = amount-units 7 2 n two small

  pub seven-long : length (moved seven n) ≡ 8
  seven-long = amount-long 7 2 n two small

-- the amount, and what is taken from zero
abbrev pub amount_of : List ℕ → Number
amount_of chars = number (pos (value_of 0 chars)) 2

abbrev pub debit_of : List ℕ → Number
debit_of chars = difference (number (pos 0) 0) (amount_of chars)

debit-units : (chars : List ℕ) → (debit_of chars).units ≡ neg_ℤ (pos (value_of 0 chars))
debit-units chars = omega (arith, ints)

abs-neg : (m : ℕ) → unsigned_abs (neg_ℤ (pos m)) ≡ m
abs-neg zero = refl
abs-neg (suc m) = refl

debit-small : (chars : List ℕ) → length chars ≡ 7 → unsigned_abs (debit_of chars).units < 10 ^ 7
debit-small chars long =
    let own : unsigned_abs (debit_of chars).units ≡ value_of 0 chars = ap unsigned_abs (debit-units chars) ∙ abs-neg (value_of 0 chars) in
    omega (arith, own, seven-digits chars long)

-- SUBTRACT AMOUNT FROM 0 is never a size error
pub debit-received : (chars : List ℕ) → length chars ≡ 7 → received (Some seven) (sized (debit_of chars)) ≡ Some (moved seven (debit_of chars))
debit-received chars long = amount-received 7 2 (debit_of chars) refl (debit-small chars long) _ (omega (arith, debit-small chars long))

pub debit-value : (chars got : List ℕ) → length chars ≡ 7 → received (Some seven) (sized (debit_of chars)) ≡ Some got
    → units_in (fitted 8 got) ≡ neg_ℤ (pos (value_of 0 chars))
debit-value chars got long e =
    let n : Number = debit_of chars in
    let small : unsigned_abs n.units < 10 ^ 7 = debit-small chars long in
    let both : Some (moved seven n) ≡ Some got = sym (debit-received chars long) ∙ e in
    let same : moved seven n ≡ got = cc in
    ap units_in (fitted-whole 8 got (ap length (sym same) ∙ seven-long n refl small))
    ∙ ap units_in (sym same) ∙ seven-units n refl small ∙ debit-units chars

pub credit-value : (chars : List ℕ) → length chars ≡ 7 → units_in (fitted 8 (moved seven (amount_of chars))) ≡ pos (value_of 0 chars)
credit-value chars long =
    let n : Number = amount_of chars in
    let small : unsigned_abs n.units < 10 ^ 7 = seven-digits chars long in
    ap units_in (fitted-whole 8 (moved seven n) (seven-long n refl small)) ∙ seven-units n refl small

-- ---- messages

-- a posting of TELLER
abbrev pub posting_of : List ℕ → List ℕ → List ℕ → List ℕ
posting_of account other amount = codes "P" ++ (account ++ (other ++ amount))

pub posting-amount : (account other amount : List ℕ) → length account ≡ 4 → length other ≡ 4 → length amount ≡ 8 → amount_in (posting_of account other amount) ≡ units_in amount
posting-amount account other amount one two three =
    let whole : List ℕ = posting_of account other amount in
    let long : length whole ≡ 17 = omega (arith, length-append account (other ++ amount), length-append other amount, one, two, three) in
    let parts : drop 8 (account ++ (other ++ amount)) ≡ amount = drop-both account (other ++ amount) one ∙ drop-first 4 other amount two in
    ap (λ xs. units_in (take 8 (drop 9 xs))) (fitted-whole 17 whole long)
    ∙ ap (λ xs. units_in (take 8 xs)) parts
    ∙ ap units_in (take_all 8 amount (omega (arith, three)))
  where
    drop-both : (xs ys : List ℕ) → length xs ≡ 4 → drop 8 (xs ++ ys) ≡ drop 4 ys
    drop-both (a ∷ b ∷ c ∷ d ∷ []) ys long = refl
    drop-both [] ys long = absurd (omega (arith, long))
    drop-both (a ∷ []) ys long = absurd (omega (arith, long))
    drop-both (a ∷ b ∷ []) ys long = absurd (omega (arith, long))
    drop-both (a ∷ b ∷ c ∷ []) ys long = absurd (omega (arith, long))
    drop-both (a ∷ b ∷ c ∷ d ∷ e ∷ rest) ys long = absurd (omega (arith, long))

-- a request to ACCOUNT-P
abbrev pub asked_of : List ℕ → List ℕ → RepliedRequest
asked_of message reply = record { class = 0; message = message; reply = reply }

posted-by : (b : Bool) → b ≡ true → (sum amount : ℤ) → (if b then sum +ℤ amount else sum) ≡ sum +ℤ amount
posted-by true e sum amount = refl
posted-by false e sum amount = absurd cc

-- one with code 0 posts its amount
pub posting-posts : (account other amount reply : List ℕ) → length account ≡ 4 → length other ≡ 4 → length amount ≡ 8 → bytes_eq (take 4 reply) (codes "0000") ≡ true
    → (value : ℤ) → posted value (asked_of (posting_of account other amount) reply) ≡ value +ℤ units_in amount
posting-posts account other amount reply one two three zero_code value =
    posted-by (bytes_eq (take 4 reply) (codes "0000")) zero_code value (amount_in (posting_of account other amount))
    ∙ ap (λ z. value +ℤ z) (posting-amount account other amount one two three)

back-again : (value : ℤ) (m : ℕ) → value +ℤ neg_ℤ (pos m) +ℤ pos m ≡ value
back-again value m = omega (arith, ints)

there-again : (value : ℤ) (m : ℕ) → value +ℤ pos m +ℤ neg_ℤ (pos m) ≡ value
there-again value m = omega (arith, ints)

-- the requests of a unit bring each value back to itself
abbrev pub Balance : List RepliedRequest → Type 0
Balance requests = (value : ℤ) → stepped posted value requests ≡ value

-- a posting with these units, and a reply of code 0
pub record Posted (units : ℤ) (request : RepliedRequest) : Type 0 where
  pub posts : (value : ℤ) → posted value request ≡ value +ℤ units

pub debit-first : (m : ℕ) (one other : RepliedRequest) → Posted (neg_ℤ (pos m)) one → Posted (pos m) other → Balance (one ∷ other ∷ [])
debit-first m one other p q value =
    ap (λ z. posted z other) (p.posts value) ∙ q.posts (value +ℤ neg_ℤ (pos m)) ∙ back-again value m

pub credit-first : (m : ℕ) (one other : RepliedRequest) → Posted (pos m) one → Posted (neg_ℤ (pos m)) other → Balance (one ∷ other ∷ [])
credit-first m one other p q value =
    ap (λ z. posted z other) (p.posts value) ∙ q.posts (value +ℤ pos m) ∙ there-again value m
