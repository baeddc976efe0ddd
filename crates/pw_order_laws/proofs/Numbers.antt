-- The number of an order, and the number in CONTROL.
use Rattle.std.proofs.Common.{◌≡◌, ℕ, ◌+◌, ◌%◌, ◌^◌, ◌<◌, Bool, true, false, not, ◌||◌, List, [], ◌∷◌, ◌++◌, length, take, drop, if◌then◌else◌, nat_lt, Some, None, Ok, Err, pos, unsigned_abs, refl, sym, ap, ◌∙◌, arith}
use Rattle.std.proofs.Math.Nat.{mod-eq_of_lt}
use Rattle.std.proofs.lemmas.Bool.{and_parts, ltb-true}
use Rattle.std.proofs.lemmas.Int.{ints}
use Rattle.std.proofs.lemmas.List.{length-append, take_all}
use Rattle.pw_files.proofs.Lookups.{record_at-found}
use Rattle.pw_files.specs.Records.{record_at}
use Rattle.pw_number.specs.Arithmetic.{sized, sum}
use Rattle.pw_number.specs.Number.{Number, is_short, number}
use Rattle.pw_number.specs.declared.size_error.SizeError.{SizeError}
use Rattle.pw_order_laws.specs.Numbered.{number_in_control}
use Rattle.pw_picture.proofs.Digits.{size_at-own}
use Rattle.pw_picture.proofs.Reading.{value_of-digits}
use Rattle.pw_picture.specs.declared.picture.Picture.{Picture}
use Rattle.pw_picture.specs.declared.picture.Picture.TheVariants.{Number as NumberPicture}
use Rattle.pw_picture.specs.Stored.{digits_of, is_kept, is_negative, moved, read_of, size_at, value_of}
use Rattle.pw_picture.specs.Text.{fitted}
use Rattle.pw_program_laws.proofs.Parts.{fitted-whole, key-fitted, length-digits, take-first}
use Rattle.pw_program_laws.proofs.Texts.{length-fitted}
use Rattle.pw_program_laws.specs.Meets.{kept_by, received}

-- four digits
abbrev pub four : Picture
four = NumberPicture 4 0 false

-- ---- one more

-- the number behind a number
abbrev pub next_of : List ℕ → Number
next_of chars = sum (read_of four chars) (number (pos 1) 0)

next-units : (chars : List ℕ) → unsigned_abs (next_of chars).units ≡ value_of 0 chars + 1
next-units chars = let units : (next_of chars).units ≡ pos (value_of 0 chars + 1) = omega (arith, ints) in ap unsigned_abs units

kept-next : (chars got : List ℕ) (b : Bool) → is_kept four (next_of chars) ≡ b → (if b then Some (moved four (next_of chars)) else None) ≡ Some got
    → (value_of 0 chars + 1 < 10 ^ 4) × (got ≡ digits_of 4 (value_of 0 chars + 1))
kept-next chars got false is e = absurd cc
kept-next chars got true is e =
    let n : Number = next_of chars in
    let m : ℕ = value_of 0 chars + 1 in
    let size : m ≡ size_at 0 n = sym (next-units chars) ∙ size_at-own n 0 (unsigned_abs n.units) n.places refl refl refl in
    let below : size_at 0 n < 10 ^ 4 = ltb-true (size_at 0 n) (10 ^ 4) (and_parts (nat_lt (size_at 0 n) (10 ^ 4)) (false || not (is_negative n)) is).0 in
    let same : moved four n ≡ got = cc in
    (omega (arith, size, below), sym same ∙ ap (digits_of 4) (mod-eq_of_lt below ∙ sym size))

sized-next : (b : Bool) (n : Number) (error : SizeError) (got : List ℕ) → received (Some four) (if b then Ok n else Err error) ≡ Some got → kept_by (Some four) n ≡ Some got
sized-next true n error got e = e
sized-next false n error got e = absurd cc

-- ADD 1 to a number of four digits
pub next-kept : (chars got : List ℕ) → received (Some four) (sized (next_of chars)) ≡ Some got → (value_of 0 chars + 1 < 10 ^ 4) × (got ≡ digits_of 4 (value_of 0 chars + 1))
next-kept chars got e = kept-next chars got (is_kept four (next_of chars)) refl (sized-next (is_short (next_of chars)) (next_of chars) _ got e)

-- digits are read as their number, and moved again
digits-value : (m : ℕ) → m < 10 ^ 4 → value_of 0 (digits_of 4 m) ≡ m
digits-value m below = value_of-digits 4 0 m ∙ omega (arith, mod-eq_of_lt below)

pub moved-again : (m : ℕ) → m < 10 ^ 4 → fitted 4 (moved four (read_of four (fitted 4 (digits_of 4 m)))) ≡ digits_of 4 m
moved-again m below =
    let own : fitted 4 (digits_of 4 m) ≡ digits_of 4 m = fitted-whole 4 (digits_of 4 m) (length-digits 4 m) in
    let n : Number = read_of four (digits_of 4 m) in
    let value : value_of 0 (digits_of 4 m) ≡ m = digits-value m below in
    let size : value_of 0 (digits_of 4 m) ≡ size_at 0 n = size_at-own n 0 (value_of 0 (digits_of 4 m)) n.places refl refl refl in
    ap (λ xs. fitted 4 (moved four (read_of four xs))) own
    ∙ ap (λ k. fitted 4 (digits_of 4 (k % 10 ^ 4))) (sym size ∙ value)
    ∙ ap (λ k. fitted 4 (digits_of 4 k)) (mod-eq_of_lt below) ∙ own

-- ---- CONTROL

-- the record with another number
abbrev pub control_with : List ℕ → List ℕ → List ℕ
control_with content number = fitted 4 (fitted 8 content) ++ fitted 4 number

pub control-number : (content : List ℕ) (m : ℕ) → m < 10 ^ 4 → number_in_control (control_with content (digits_of 4 m)) ≡ m
control-number content m below =
    let key : List ℕ = fitted 4 (fitted 8 content) in
    let digits : List ℕ = digits_of 4 m in
    let own : fitted 4 digits ≡ digits = fitted-whole 4 digits (length-digits 4 m) in
    let long : length (control_with content digits) ≡ 8 = omega (arith, length-append key (fitted 4 digits), length-fitted 4 (fitted 8 content), length-fitted 4 digits) in
    ap (λ xs. value_of 0 (take 4 (drop 4 xs))) (fitted-whole 8 (control_with content digits) long)
    ∙ ap (λ xs. value_of 0 (take 4 xs)) (drop-key key (fitted 4 digits) (length-fitted 4 (fitted 8 content)))
    ∙ ap (λ xs. value_of 0 (take 4 xs)) own
    ∙ ap (value_of 0) (take_all 4 digits (omega (arith, length-digits 4 m)))
    ∙ digits-value m below
  where
    drop-key : (xs ys : List ℕ) → length xs ≡ 4 → drop 4 (xs ++ ys) ≡ ys
    drop-key (a ∷ b ∷ c ∷ d ∷ []) ys e = refl
    drop-key [] ys e = absurd (omega (arith, e))
    drop-key (a ∷ []) ys e = absurd (omega (arith, e))
    drop-key (a ∷ b ∷ []) ys e = absurd (omega (arith, e))
    drop-key (a ∷ b ∷ c ∷ []) ys e = absurd (omega (arith, e))
    drop-key (a ∷ b ∷ c ∷ d ∷ e' ∷ rest) ys e = absurd (omega (arith, e))

-- the number that is read of a record is the one in it
pub read-number : (content : List ℕ) → value_of 0 (fitted 4 (drop 4 (fitted 8 content))) ≡ number_in_control content
read-number content = by-parts (fitted 8 content) (length-fitted 8 content)
  where
    by-parts : (xs : List ℕ) → length xs ≡ 8 → value_of 0 (fitted 4 (drop 4 xs)) ≡ value_of 0 (take 4 (drop 4 xs))
    by-parts (a ∷ b ∷ c ∷ d ∷ e ∷ f ∷ g ∷ h ∷ []) long = refl
    by-parts [] long = absurd (omega (arith, long))
    by-parts (a ∷ []) long = absurd (omega (arith, long))
    by-parts (a ∷ b ∷ []) long = absurd (omega (arith, long))
    by-parts (a ∷ b ∷ c ∷ []) long = absurd (omega (arith, long))
    by-parts (a ∷ b ∷ c ∷ d ∷ []) long = absurd (omega (arith, long))
    by-parts (a ∷ b ∷ c ∷ d ∷ e ∷ []) long = absurd (omega (arith, long))
    by-parts (a ∷ b ∷ c ∷ d ∷ e ∷ f ∷ []) long = absurd (omega (arith, long))
    by-parts (a ∷ b ∷ c ∷ d ∷ e ∷ f ∷ g ∷ []) long = absurd (omega (arith, long))
    by-parts (a ∷ b ∷ c ∷ d ∷ e ∷ f ∷ g ∷ h ∷ i ∷ rest) long = absurd (omega (arith, long))

-- the key of the record stays
pub control-key : (records : List (List ℕ)) (key content number : List ℕ) → length key ≡ 4 → record_at 4 records key ≡ Some content → take 4 (control_with content number) ≡ key
control-key records key content number long is =
    take-first 4 (fitted 4 (fitted 8 content)) (fitted 4 number) (length-fitted 4 (fitted 8 content))
    ∙ key-fitted 4 8 content key (omega arith) long (record_at-found 4 records key content is).1
