-- A number as a token writes it: a sign or none, digits, and behind a point more digits or none.
use Rattle.std.proofs.Common.{◌≡◌, ℕ, ◌+◌, ◌-◌, ◌*◌, ◌^◌, ◌<◌, ◌≤◌, Bool, true, false, not, ◌&&◌, ◌||◌, List, [], ◌∷◌, ◌++◌, length, drop, filter, Option, Some, None, if◌then◌else◌, unsigned_abs, refl, sym, ap, ◌∙◌, subst, arith}
use Rattle.std.specs.Prelude.{◌==◌, nat_le, unwrap_or, pos}
use Rattle.std.specs.Char.{is_ascii_digit}
use Rattle.std.proofs.lemmas.Bool.{le-leb}
use Rattle.std.proofs.lemmas.Bool.Decides.{nat_tests}
use Rattle.std.proofs.lemmas.List.{drop-drop, length-append}
use Rattle.std.proofs.lemmas.List.Sums.{take_while-cons}
use Rattle.std.proofs.Math.Nat.{pow-le-pow_right, pow-succ', mul-le-mul_right}
use Rattle.std.proofs.Math.Seq.{drop-append_seam}
use Rattle.pw_number.specs.Number.{Number, number}
use Rattle.pw_number.specs.Sign.{signed}
use Rattle.pw_number.proofs.Quotients.{abs-signed}
use Rattle.pw_picture.specs.declared.picture.Picture.TheVariants as picture
use Rattle.pw_picture.specs.Stored.{digit_of, value_of, read_of}
use Rattle.pw_picture.specs.Symbols.{begins_with}
use Rattle.pw_code.specs.Spelling.{decimals_in, number_in}
use Rattle.pw_data.specs.Literals.{before_point, behind_point, has_sign, sign_size, number_with, number_of_literal}
use Rattle.pw_forms.specs.declared.operand.Operand.TheVariants as operands
use Rattle.pw_operands.specs.Resolved.{Each}
use Rattle.pw_text.specs.Bytes.{is_digit, is_sign}
use Rattle.pw_compiler_laws.specs.Premises.{IsLiteral}

-- a point and digits behind it, or nothing
abbrev pub point_and : List ℕ → List ℕ
point_and [] = []
point_and (digit ∷ digits) = 46 ∷ (digit ∷ digits)

abbrev pub AreDigits : List ℕ → Type 0
AreDigits bytes = Each (λ byte. is_digit byte ≡ true) bytes

-- a sign, where there is one
abbrev pub signs : Option ℕ → List ℕ
signs None = []
signs (Some sign) = sign ∷ []

abbrev pub AreSigns : Option ℕ → Type 0
AreSigns None = Unit {0}
AreSigns (Some sign) = is_sign sign ≡ true

-- a number of at most 18 digits, of which one or more stand before the point
pub record IsNumeral (bytes : List ℕ) : Type 0 where
  pub sign : Option ℕ
  pub whole : List ℕ
  pub places : List ℕ
  pub is : bytes ≡ signs sign ++ (whole ++ point_and places)
  pub signed : AreSigns sign
  pub digits : AreDigits whole
  pub decimals : AreDigits places
  pub some : 1 ≤ length whole
  pub few : length whole + length places ≤ 18

-- ---- digits

no-point : (byte : ℕ) → is_digit byte ≡ true → not (byte == 46) ≡ true
no-point byte is = grind (arith, nat_tests, is)

is-ascii : (byte : ℕ) → is_digit byte ≡ true → is_ascii_digit byte ≡ true
is-ascii byte is = grind (arith, nat_tests, is)

no-plus : (byte : ℕ) → is_digit byte ≡ true → (byte == 43) ≡ false
no-plus byte is = grind (arith, nat_tests, is)

no-minus : (byte : ℕ) → is_digit byte ≡ true → (byte == 45) ≡ false
no-minus byte is = grind (arith, nat_tests, is)

-- ---- before and behind the point

before-digits : (whole places : List ℕ) → AreDigits whole → before_point (whole ++ point_and places) ≡ whole
before-digits [] [] all = refl
before-digits [] (p ∷ ps) all = refl
before-digits (d ∷ ds) places all =
    take_while-cons (λ byte. not (byte == 46)) d (ds ++ point_and places)
    ∙ ap (λ b. if b then d ∷ before_point (ds ++ point_and places) else []) (no-point d all.0) ∙ ap (λ (rest : List ℕ). d ∷ rest) (before-digits ds places all.1)

one-off : (places : List ℕ) → drop 1 (point_and places) ≡ places
one-off [] = refl
one-off (p ∷ ps) = refl

behind-front : (front places : List ℕ) (bytes : List ℕ) → bytes ≡ front ++ point_and places → before_point bytes ≡ front → behind_point bytes ≡ places
behind-front front places bytes is before =
    ap (λ (xs : List ℕ). drop 1 (drop (length xs) bytes)) before ∙ ap (λ (xs : List ℕ). drop 1 (drop (length front) xs)) is
    ∙ ap (drop 1) (drop-append_seam front (point_and places)) ∙ one-off places

-- ---- the digits alone

filter-digits : (ds rest : List ℕ) → AreDigits ds → filter is_ascii_digit (ds ++ rest) ≡ ds ++ filter is_ascii_digit rest
filter-digits [] rest all = refl
filter-digits (d ∷ ds) rest all =
    ap (λ b. if b then d ∷ filter is_ascii_digit (ds ++ rest) else filter is_ascii_digit (ds ++ rest)) (is-ascii d all.0) ∙ ap (λ (xs : List ℕ). d ∷ xs) (filter-digits ds rest all.1)

no-more : (ds : List ℕ) → ds ++ [] ≡ ds
no-more [] = refl
no-more (d ∷ ds) = ap (λ (xs : List ℕ). d ∷ xs) (no-more ds)

filter-point : (places : List ℕ) → AreDigits places → filter is_ascii_digit (point_and places) ≡ places
filter-point [] all = refl
filter-point (p ∷ ps) all = ap (filter is_ascii_digit) (sym (no-more (p ∷ ps))) ∙ filter-digits (p ∷ ps) [] all ∙ no-more (p ∷ ps)

-- ---- values

digit_of-below : (char : ℕ) → digit_of char ≤ 9
digit_of-below char = grind (arith, nat_tests)

value-step : (v d power : ℕ) → d ≤ 9 → (10 * v + d + 1) * power ≤ (v + 1) * (10 * power)
value-step v d power le = let less : 10 * v + d + 1 ≤ 10 * v + 10 = omega arith in omega (arith, mul-le-mul_right power less)

value-below : (v : ℕ) (chars : List ℕ) → value_of v chars < (v + 1) * 10 ^ length chars
value-below v [] = omega arith
value-below v (char ∷ chars) =
    let more = value-below (10 * v + digit_of char) chars in
    let le = value-step v (digit_of char) (10 ^ length chars) (digit_of-below char) in
    rw pow-succ' (omega (arith, more, le))

value-short : (chars : List ℕ) → length chars ≤ 18 → value_of 0 chars < 10 ^ 18
value-short chars few = omega (arith, value-below 0 chars, pow-le-pow_right {n = 10} (omega arith) few)

-- ---- the number

with-digits : (s : Bool) (front places : List ℕ) (n : ℕ) → length front + length places - sign_size s ≡ n → 1 ≤ n → n ≤ 18
    → number_with s front places ≡ Some (read_of (picture.Number n (length places) s) (front ++ places))
with-digits s front places n is some few =
    let Read : ℕ → Option Number = λ k. if nat_le 1 k && nat_le k 18 then Some (read_of (picture.Number k (length places) s) (front ++ places)) else None in
    let Tested : Bool → Bool → Option Number = λ a b. if a && b then Some (read_of (picture.Number n (length places) s) (front ++ places)) else None in
    ap Read is ∙ ap (λ a. Tested a (nat_le n 18)) (le-leb 1 n some) ∙ ap (Tested true) (le-leb n 18 few)

of-parts : (bytes front places : List ℕ) (s : Bool) (n : ℕ) → has_sign bytes ≡ s → bytes ≡ front ++ point_and places → before_point bytes ≡ front
    → length front + length places - sign_size s ≡ n → 1 ≤ n → n ≤ 18 → number_of_literal bytes ≡ Some (read_of (picture.Number n (length places) s) (front ++ places))
of-parts bytes front places s n sign is before long some few =
    ap (λ b. number_with b (before_point bytes) (behind_point bytes)) sign ∙ ap (λ (xs : List ℕ). number_with s xs (behind_point bytes)) before
    ∙ ap (number_with s front) (behind-front front places bytes is before) ∙ with-digits s front places n long some few

in-parts : (bytes front places digits : List ℕ) (b : Bool) → begins_with 45 bytes ≡ b → bytes ≡ front ++ point_and places → before_point bytes ≡ front
    → filter is_ascii_digit bytes ≡ digits → number_in bytes ≡ number (signed b (value_of 0 digits)) (length places)
in-parts bytes front places digits b begins is before filtered =
    let decimals : decimals_in bytes ≡ places = sym (drop-drop 1 (length (before_point bytes)) bytes) ∙ behind-front front places bytes is before in
    ap (λ c. number (signed c (value_of 0 (filter is_ascii_digit bytes))) (length (decimals_in bytes))) begins
    ∙ ap (λ (xs : List ℕ). number (signed b (value_of 0 xs)) (length (decimals_in bytes))) filtered
    ∙ ap (λ (xs : List ℕ). number (signed b (value_of 0 digits)) (length xs)) decimals

is-literal : (bytes digits : List ℕ) (b : Bool) (places : ℕ) → number_of_literal bytes ≡ Some (number (signed b (value_of 0 digits)) places)
    → number_in bytes ≡ number (signed b (value_of 0 digits)) places → length digits ≤ 18 → IsLiteral (operands.Number bytes)
is-literal bytes digits b places of is few =
    let value : unwrap_or (number_of_literal bytes) (number (pos 0) 0) ≡ number (signed b (value_of 0 digits)) places = ap (λ o. unwrap_or o (number (pos 0) 0)) of in
    let short : unsigned_abs (signed b (value_of 0 digits)) < 10 ^ 18 = subst (λ n. n < 10 ^ 18) (sym (abs-signed b (value_of 0 digits))) (value-short digits few) in
    (value ∙ sym is, subst (λ (v : Number). unsigned_abs v.units < 10 ^ 18) (sym value) short)

-- ---- the three signs

few-all : (whole places : List ℕ) → length whole + length places ≤ 18 → length (whole ++ places) ≤ 18
few-all whole places few = subst (λ n. n ≤ 18) (sym (length-append whole places)) few

no-sign : (whole places : List ℕ) → AreDigits whole → AreDigits places → 1 ≤ length whole → length whole + length places ≤ 18 → IsLiteral (operands.Number (whole ++ point_and places))
no-sign [] places all more some few = absurd (omega (arith, some))
no-sign (d ∷ ds) places all more some few =
    let bytes = (d ∷ ds) ++ point_and places in
    let before = before-digits (d ∷ ds) places all in
    let sign : has_sign bytes ≡ false = ap (λ b. b || (d == 45)) (no-plus d all.0) ∙ no-minus d all.0 in
    let filtered : filter is_ascii_digit bytes ≡ (d ∷ ds) ++ places = filter-digits (d ∷ ds) (point_and places) all ∙ ap (λ (xs : List ℕ). (d ∷ ds) ++ xs) (filter-point places more) in
    is-literal bytes ((d ∷ ds) ++ places) false (length places)
    (of-parts bytes (d ∷ ds) places false (length (d ∷ ds) + length places) sign refl before (omega arith) (omega (arith, some)) few)
    (in-parts bytes (d ∷ ds) places ((d ∷ ds) ++ places) false (no-minus d all.0) refl before filtered)
    (few-all (d ∷ ds) places few)

with-sign : (sign : ℕ) (b : Bool) → (sign == 45) ≡ b → not (sign == 46) ≡ true → is_ascii_digit sign ≡ false → (sign == 43) || (sign == 45) ≡ true
    → (whole places : List ℕ) → AreDigits whole → AreDigits places → 1 ≤ length whole → length whole + length places ≤ 18 → IsLiteral (operands.Number (sign ∷ (whole ++ point_and places)))
with-sign sign b minus point digit signs whole places all more some few =
    let bytes = sign ∷ (whole ++ point_and places) in
    let before : before_point bytes ≡ sign ∷ whole =
    take_while-cons (λ byte. not (byte == 46)) sign (whole ++ point_and places)
    ∙ ap (λ c. if c then sign ∷ before_point (whole ++ point_and places) else []) point ∙ ap (λ (xs : List ℕ). sign ∷ xs) (before-digits whole places all) in
    let filtered : filter is_ascii_digit bytes ≡ whole ++ places =
    ap (λ c. if c then sign ∷ filter is_ascii_digit (whole ++ point_and places) else filter is_ascii_digit (whole ++ point_and places)) digit
    ∙ filter-digits whole (point_and places) all ∙ ap (λ (xs : List ℕ). whole ++ xs) (filter-point places more) in
    let of : number_of_literal bytes ≡ Some (number (signed (sign == 45) (value_of 0 (whole ++ places))) (length places)) =
    of-parts bytes (sign ∷ whole) places true (length whole + length places) signs refl before (omega arith) (omega (arith, some)) few in
    is-literal bytes (whole ++ places) b (length places)
    (of ∙ ap (λ c. Some (number (signed c (value_of 0 (whole ++ places))) (length places))) minus)
    (in-parts bytes (sign ∷ whole) places (whole ++ places) b minus refl before filtered)
    (few-all whole places few)

-- a number that is written so is the number that it is written as
pub numeral-literal : (bytes : List ℕ) → IsNumeral bytes → IsLiteral (operands.Number bytes)
numeral-literal bytes is = subst (λ (xs : List ℕ). IsLiteral (operands.Number xs)) (sym is.is) (by is.sign is.signed)
  where
    by : (sign : Option ℕ) → AreSigns sign → IsLiteral (operands.Number (signs sign ++ (is.whole ++ point_and is.places)))
    by None signed = no-sign is.whole is.places is.digits is.decimals is.some is.few
    by (Some sign) signed =
        with-sign sign (sign == 45) refl (grind (arith, nat_tests, signed)) (grind (arith, nat_tests, signed)) signed is.whole is.places is.digits is.decimals is.some is.few
