-- Amounts that are stored behind a sign, and numbers beside zero.
use Rattle.std.proofs.Common.{◌≡◌, ℕ, zero, suc, ◌+◌, ◌*◌, ◌%◌, ◌^◌, ◌<◌, ◌≤◌, Bool, true, false, not, ◌&&◌, ◌||◌, List, [], ◌∷◌, length, drop, if◌then◌else◌, nat_lt, Some, None, Ok, Err, ℤ, pos, negsuc, neg_ℤ, ◌*ℤ◌, unsigned_abs, refl, sym, ap, ◌∙◌, subst, arith, IsTrue}
use Rattle.std.specs.Prelude.{int_lt}
use Rattle.std.specs.Ordering.{int_cmp, is_gt}
use Rattle.std.specs.declared.cmp.Ordering.TheVariants.{Less, Equal, Greater}
use Rattle.std.proofs.Math.Nat.{mul-le-mul_right, pow-succ'}
use Rattle.std.proofs.lemmas.Bool.Decides.{nat_tests}
use Rattle.std.proofs.lemmas.Bool.{lt-ltb, true≢false}
use Rattle.std.proofs.lemmas.Int.{ints}
use Rattle.pw_number.specs.Arithmetic.{sized}
use Rattle.pw_number.specs.Number.{Number, is_short, number}
use Rattle.pw_number.specs.Sign.{signed}
use Rattle.pw_number.specs.declared.size_error.SizeError.{SizeError}
use Rattle.pw_picture.proofs.Digits.{size_at-own}
use Rattle.pw_picture.proofs.Reading.{read-moved}
use Rattle.pw_picture.specs.declared.picture.Picture.{Picture}
use Rattle.pw_picture.specs.declared.picture.Picture.TheVariants.{Number as NumberPicture}
use Rattle.pw_picture.specs.Stored.{digit_of, is_kept, is_negative, moved, read_of, size_at, value_of}
use Rattle.pw_picture.specs.Symbols.{begins_with}
use Rattle.pw_program_laws.proofs.Parts.{length-digits}
use Rattle.pw_program_laws.specs.Meets.{received}

-- the units of an amount behind its sign
abbrev pub units_in : List ℕ → ℤ
units_in chars = signed (begins_with 45 chars) (value_of 0 (drop 1 chars))

-- ---- values

digit-below : (char : ℕ) → digit_of char ≤ 9
digit-below char = grind (arith, nat_tests)

more-below : (v d power : ℕ) → d ≤ 9 → (10 * v + d + 1) * power ≤ (v + 1) * (10 * power)
more-below v d power le =
    let less : 10 * v + d + 1 ≤ 10 * v + 10 = omega arith in
    omega (arith, mul-le-mul_right power less)

-- a value has at most as many digits as characters
pub value-below : (v : ℕ) (chars : List ℕ) → value_of v chars < (v + 1) * 10 ^ length chars
value-below v [] = omega arith
value-below v (char ∷ chars) =
    let more = value-below (10 * v + digit_of char) chars in
    let le = more-below v (digit_of char) (10 ^ length chars) (digit-below char) in
    rw pow-succ' (omega (arith, more, le))

-- ---- amounts

not-below : (m : ℕ) → int_lt (pos m) (pos 0) ≡ false
not-below m = grind (arith, nat_tests)

signed-again : (u : ℤ) → signed (int_lt u (pos 0)) (unsigned_abs u) ≡ u
signed-again (pos m) = ap (λ (b : Bool). signed b m) (not-below m)
signed-again (negsuc m) = refl

-- what is stored of a number of these places with so many digits
module _ (digits places : ℕ) (n : Number) (own : n.places ≡ places) (small : unsigned_abs n.units < 10 ^ digits) where
  abbrev picture : Picture
  picture = NumberPicture digits places true

  size-own : unsigned_abs n.units ≡ size_at places n
  size-own = size_at-own n places (unsigned_abs n.units) n.places refl refl own

  room-test : (b : Bool) → b ≡ true → (b && true) ≡ true
  room-test true e = refl
  room-test false e = absurd cc

  pub amount-kept : is_kept picture n ≡ true
  amount-kept = room-test (nat_lt (size_at places n) (10 ^ digits)) (lt-ltb (size_at places n) (10 ^ digits) (subst (λ m. m < 10 ^ digits) size-own small))

  pub amount-units : units_in (moved picture n) ≡ n.units
  amount-units =
      let kept : IsTrue (is_kept picture n) = amount-kept in
      let read : read_of picture (moved picture n) ≡ number (signed (is_negative n) (size_at places n)) places = read-moved digits places true n kept in
      ap (λ (m : Number). m.units) read ∙ ap (λ (k : ℕ). signed (is_negative n) k) (sym size-own) ∙ signed-again n.units

  pub amount-long : length (moved picture n) ≡ suc digits
  amount-long = ap suc (length-digits digits (size_at places n % 10 ^ digits))

  short-by : (b : Bool) (error : _) → b ≡ true → received (Some picture) (if b then Ok n else Err error) ≡ received (Some picture) (Ok n)
  short-by true error e = refl
  short-by false error e = absurd cc

  kept-by : (b : Bool) → b ≡ true → (if b then Some (moved picture n) else None) ≡ Some (moved picture n)
  kept-by true e = refl
  kept-by false e = absurd cc

  -- no size error
  pub amount-received : (error : _) → unsigned_abs n.units < 10 ^ 30 → received (Some picture) (if is_short n then Ok n else Err error) ≡ Some (moved picture n)
  amount-received error short = short-by (is_short n) error (lt-ltb (unsigned_abs n.units) (10 ^ 30) short) ∙ kept-by (is_kept picture n) amount-kept

-- ---- numbers without a sign

not-negative : (test negative : Bool) → (test && (false || not negative)) ≡ true → negative ≡ false
not-negative true false e = refl
not-negative true true e = absurd cc
not-negative false negative e = absurd cc

whole-of : (u : ℤ) → int_lt u (pos 0) ≡ false → pos (unsigned_abs u) ≡ u
whole-of (pos m) e = refl
whole-of (negsuc m) e = absurd cc

-- what is kept of a number of these places that is stored with so many digits
module _ (digits places : ℕ) (n : Number) (own : n.places ≡ places) where
  abbrev unsigned : Picture
  unsigned = NumberPicture digits places false

  kept-value : (b : Bool) → is_kept unsigned n ≡ b → (chars : List ℕ) → (if b then Some (moved unsigned n) else None) ≡ Some chars
      → (length chars ≡ digits) × (pos (value_of 0 chars) ≡ n.units)
  kept-value false is chars e = absurd cc
  kept-value true is chars e =
      let same : moved unsigned n ≡ chars = cc in
      let kept : IsTrue (is_kept unsigned n) = is in
      let negative : is_negative n ≡ false = not-negative (nat_lt (size_at places n) (10 ^ digits)) (is_negative n) is in
      let size : unsigned_abs n.units ≡ size_at places n = size_at-own n places (unsigned_abs n.units) n.places refl refl own in
      let read : read_of unsigned (moved unsigned n) ≡ number (signed (is_negative n) (size_at places n)) places = read-moved digits places false n kept in
      let units : pos (value_of 0 (moved unsigned n)) ≡ signed (is_negative n) (size_at places n) = ap (λ (m : Number). m.units) read in (
        ap length (sym same) ∙ length-digits digits (size_at places n % 10 ^ digits),
        ap (λ cs. pos (value_of 0 cs)) (sym same) ∙ units ∙ ap (λ b. signed b (size_at places n)) negative ∙ ap pos (sym size) ∙ whole-of n.units negative,
      )

  sized-value : (b : Bool) (error : SizeError) (chars : List ℕ) → received (Some unsigned) (if b then Ok n else Err error) ≡ Some chars
      → (length chars ≡ digits) × (pos (value_of 0 chars) ≡ n.units)
  sized-value true error chars e = kept-value (is_kept unsigned n) refl chars e
  sized-value false error chars e = absurd cc

  -- its digits have its value
  pub stored-value : (chars : List ℕ) → received (Some unsigned) (sized n) ≡ Some chars → (length chars ≡ digits) × (pos (value_of 0 chars) ≡ n.units)
  stored-value chars e = sized-value (is_short n) _ chars e

-- ---- beside zero

pub times-one : (z : ℤ) → z *ℤ pos 1 ≡ z
times-one z = omega (arith, ints)

-- a number that is not above zero is none
pub not-above : (m : ℕ) → is_gt (int_cmp (pos m) (pos 0)) ≡ false → m ≡ 0
not-above zero e = refl
not-above (suc m) e =
    let above : int_lt (pos 0) (pos (suc m)) ≡ true = grind (arith, nat_tests) in
    absurd (true≢false (sym (by (int_lt (pos (suc m)) (pos 0)) (int_lt (pos 0) (pos (suc m))) (not-below (suc m)) above) ∙ e))
  where
    by : (a b : Bool) → a ≡ false → b ≡ true → is_gt (if a then Less else (if b then Greater else Equal)) ≡ true
    by true b e f = absurd cc
    by false true e f = refl
    by false false e f = absurd cc

-- an amount that is not above zero is one below zero, and none where it has no `-`
pub taken-units : (minus : Bool) (m : ℕ) → is_gt (int_cmp (signed minus m) (pos 0)) ≡ false → signed minus m ≡ neg_ℤ (pos (if minus then m else 0))
taken-units true m e = refl
taken-units false m e = ap pos (not-above m e)

-- one above zero has none
pub given-units : (minus : Bool) (m : ℕ) → is_gt (int_cmp (signed minus m) (pos 0)) ≡ true → (if minus then m else 0) ≡ 0
given-units true zero e = refl
given-units true (suc m) e = absurd cc
given-units false m e = refl
