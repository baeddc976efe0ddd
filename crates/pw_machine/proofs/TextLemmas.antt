-- Texts, character by character.
use Rattle.std.proofs.Common.{◌≡◌, ℕ, zero, suc, ◌+◌, ◌-◌, ◌/◌, ◌%◌, ◌^◌, ◌<◌, Bool, true, false, List, [], ◌∷◌, ◌++◌, length, take, drop, get_or, filter, sym, ap, ◌∙◌, arith, drop-cons, cond}
use Rattle.std.proofs.lemmas.List.{take_all, take_more}
use Rattle.std.specs.Char.{is_ascii_digit}
use Rattle.pw_terminal.proofs.Cells.{length-digits_of}
use Rattle.pw_picture.specs.Stored.{digits_of}

-- a digit among those of a value
pub get_or-digits_of : (count value place : ℕ) → place < count → get_or (digits_of count value) place 32 ≡ 48 + value / 10 ^ (count - 1 - place) % 10
get_or-digits_of zero value place lt = absurd (omega arith)
get_or-digits_of (suc count) value zero lt =
    let e : suc count - 1 - 0 ≡ count = omega arith in
    ap (λ k. 48 + value / 10 ^ k % 10) (sym e)
get_or-digits_of (suc count) value (suc place) lt =
    let e : suc count - 1 - suc place ≡ count - 1 - place = omega arith in
    get_or-digits_of count value place (omega arith) ∙ ap (λ k. 48 + value / 10 ^ k % 10) (sym e)

-- a character that is a digit is passed, and one that is none
digit_by : (t : Bool) (b : ℕ) (digits : List ℕ) (left : ℕ) → t ≡ true → 0 < left → get_or (cond t (b ∷ digits) digits) left 32 ≡ get_or digits (left - 1) 32
digit_by true b digits zero is lt = absurd (omega arith)
digit_by true b digits (suc left) is lt = let e : suc left - 1 ≡ left = omega arith in ap (λ k. get_or digits k 32) (sym e)
digit_by false b digits left is lt = absurd (cc)

-- the character at a place, with those behind it
pub split : (s : List ℕ) (i : ℕ) → i < length s → drop i s ≡ get_or s i 0 ∷ drop (i + 1) s
split s i lt = let e : suc i ≡ i + 1 = omega arith in drop-cons s i 0 lt ∙ ap (λ k. get_or s i 0 ∷ drop k s) e

pub digit_passed : (s : List ℕ) (i left whole : ℕ) → i < length s → is_ascii_digit (get_or s i 0) ≡ true → 0 < left
    → get_or (filter is_ascii_digit (drop i s)) left 32 ≡ whole → get_or (filter is_ascii_digit (drop (i + 1) s)) (left - 1) 32 ≡ whole
digit_passed s i left whole lt is some known =
    sym (digit_by (is_ascii_digit (get_or s i 0)) (get_or s i 0) (filter is_ascii_digit (drop (i + 1) s)) left is some)
    ∙ sym (ap (λ l. get_or (filter is_ascii_digit l) left 32) (split s i lt)) ∙ known

pub other_passed : (s : List ℕ) (i left whole : ℕ) → i < length s → is_ascii_digit (get_or s i 0) ≡ false
    → get_or (filter is_ascii_digit (drop i s)) left 32 ≡ whole → get_or (filter is_ascii_digit (drop (i + 1) s)) left 32 ≡ whole
other_passed s i left whole lt is known =
    sym (ap (λ t. get_or (cond t (get_or s i 0 ∷ filter is_ascii_digit (drop (i + 1) s)) (filter is_ascii_digit (drop (i + 1) s))) left 32) is)
    ∙ sym (ap (λ l. get_or (filter is_ascii_digit l) left 32) (split s i lt)) ∙ known

-- one digit more
pub digits_more : (count value place : ℕ) → place < count → take (place + 1) (digits_of count value) ≡ take place (digits_of count value) ++ get_or (digits_of count value) place 32 ∷ []
digits_more count value place lt = take_more (digits_of count value) place 32 (omega (arith, length-digits_of count value))

pub digits_all : (count value : ℕ) → take count (digits_of count value) ≡ digits_of count value
digits_all count value = take_all count (digits_of count value) (omega (arith, length-digits_of count value))
