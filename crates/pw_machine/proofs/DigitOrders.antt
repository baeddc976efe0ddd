-- Numbers compare as the first digits that differ.
use Rattle.std.proofs.Common.{◌≡◌, ℕ, suc, ◌+◌, ◌*◌, ◌^◌, ◌<◌, pos, ◌<ℤ◌, true, false, List, ◌∷◌, Option, Some, None, length, get_or, drop, refl, sym, ap, ◌∙◌, arith, drop-cons, length-drop}
use Rattle.std.specs.Prelude.{option_map}
use Rattle.std.specs.Cmp.{nat_cmp_is, int_cmp_is, ranked}
use Rattle.std.specs.Ordering.{nat_cmp, is_ne, MatchOrdering}
use Rattle.std.specs.declared.cmp.Ordering.{Ordering}
use Rattle.std.specs.declared.cmp.Ordering.TheVariants.{Less, Equal, Greater}
use Rattle.std.proofs.Math.Nat.{mul-le-mul_right}
use Rattle.std.proofs.lemmas.Int.{ints}
use Rattle.pw_number.proofs.Scales.{cmp-times, ten-pos}
use Rattle.pw_picture.specs.declared.picture.Picture.TheVariants.{Number as NumberPicture}
use Rattle.pw_picture.specs.Stored.{digit_of, value_of}
use Rattle.pw_code_meaning.specs.Conditions.{compared, of_two}
use Rattle.pw_code_meaning.specs.Reading.{Spot, Stored, chars_at, value_in}
use Rattle.pw_tree_meaning.specs.Values.{Chars}
use Rattle.pw_machine.proofs.DigitLemmas.{value_of-behind}
use Rattle.pw_machine.proofs.Shorts.{value_of-below}

-- the first digit of a number, and the rest
value_first : (char : ℕ) (chars : List ℕ) → value_of 0 (char ∷ chars) ≡ digit_of char * 10 ^ length chars + value_of 0 chars
value_first char chars =
    let first : 10 * 0 + digit_of char ≡ digit_of char = omega arith in
    ap (λ v. value_of v chars) first ∙ value_of-behind (digit_of char) chars

-- the rest is below one of the first digit
rest_below : (chars : List ℕ) → value_of 0 chars < 10 ^ length chars
rest_below chars = omega (arith, value_of-below 0 chars)

-- the same in front changes no order
shifted : (r : Ordering) (a b k u v : ℕ) → u ≡ k + a → v ≡ k + b → MatchOrdering r (a < b) (a ≡ b) (b < a) → MatchOrdering r (u < v) (u ≡ v) (v < u)
shifted Less a b k u v p q h = omega (arith, p, q, h)
shifted Equal a b k u v p q h = omega (arith, p, q, h)
shifted Greater a b k u v p q h = omega (arith, p, q, h)

-- a higher digit in front is more, whatever the rest
higher : (d e p a b u v : ℕ) → u ≡ d * p + a → v ≡ e * p + b → a < p → d < e → u < v
higher d e p a b u v is_u is_v low less = omega (arith, is_u, is_v, low, mul-le-mul_right p less)

leads : (r : Ordering) (d e p a b u v : ℕ) → u ≡ d * p + a → v ≡ e * p + b → a < p → b < p → is_ne r ≡ true → MatchOrdering r (d < e) (d ≡ e) (e < d)
    → MatchOrdering r (u < v) (u ≡ v) (v < u)
leads Less d e p a b u v is_u is_v low_a low_b differ h = higher d e p a b u v is_u is_v low_a h
leads Equal d e p a b u v is_u is_v low_a low_b differ h = absurd (cc)
leads Greater d e p a b u v is_u is_v low_a low_b differ h = higher e d p b a v u is_v is_u low_b h

equal_if : (r : Ordering) (d e : ℕ) → is_ne r ≡ false → MatchOrdering r (d < e) (d ≡ e) (e < d) → d ≡ e
equal_if Less d e same h = absurd (cc)
equal_if Equal d e same h = h
equal_if Greater d e same h = absurd (cc)

-- the number behind its first digit, beside one of as many digits
second_is : (y : ℕ) (xs ys : List ℕ) → length xs ≡ length ys → value_of 0 (y ∷ ys) ≡ digit_of y * 10 ^ length xs + value_of 0 ys
second_is y xs ys long = value_first y ys ∙ ap (λ n. digit_of y * 10 ^ n + value_of 0 ys) (sym long)

first_differs : (x y : ℕ) (xs ys : List ℕ) (found : Ordering) → length xs ≡ length ys → found ≡ nat_cmp (digit_of x) (digit_of y) → is_ne found ≡ true
    → found ≡ nat_cmp (value_of 0 (x ∷ xs)) (value_of 0 (y ∷ ys))
first_differs x y xs ys found long is differ =
    let low : value_of 0 ys < 10 ^ length xs = omega (arith, ap (λ n. 10 ^ n) long, rest_below ys) in
    nat_cmp_is (value_of 0 (x ∷ xs)) (value_of 0 (y ∷ ys)) found
    (leads found (digit_of x) (digit_of y) (10 ^ length xs) (value_of 0 xs) (value_of 0 ys) (value_of 0 (x ∷ xs)) (value_of 0 (y ∷ ys))
    (value_first x xs) (second_is y xs ys long) (rest_below xs) low differ (ranked (digit_of x) (digit_of y) found is))

first_alike : (x y : ℕ) (xs ys : List ℕ) (found : Ordering) → length xs ≡ length ys → found ≡ nat_cmp (digit_of x) (digit_of y) → is_ne found ≡ false
    → nat_cmp (value_of 0 xs) (value_of 0 ys) ≡ nat_cmp (value_of 0 (x ∷ xs)) (value_of 0 (y ∷ ys))
first_alike x y xs ys found long is same =
    let one : digit_of x ≡ digit_of y = equal_if found (digit_of x) (digit_of y) same (ranked (digit_of x) (digit_of y) found is) in
    let rest : Ordering = nat_cmp (value_of 0 xs) (value_of 0 ys) in
    nat_cmp_is (value_of 0 (x ∷ xs)) (value_of 0 (y ∷ ys)) rest
    (shifted rest (value_of 0 xs) (value_of 0 ys) (digit_of x * 10 ^ length xs) (value_of 0 (x ∷ xs)) (value_of 0 (y ∷ ys))
    (value_first x xs) (second_is y xs ys long ∙ ap (λ d. d * 10 ^ length xs + value_of 0 ys) (sym one))
    (ranked (value_of 0 xs) (value_of 0 ys) rest refl))

-- how the numbers from a place on compare
abbrev pub order_from : List ℕ → List ℕ → ℕ → Ordering
order_from one two place = nat_cmp (value_of 0 (drop place one)) (value_of 0 (drop place two))

rest_long : (one two : List ℕ) (place : ℕ) → length one ≡ length two → length (drop (suc place) one) ≡ length (drop (suc place) two)
rest_long one two place long = grind (arith, length-drop, long)

-- at this place the numbers have their digits in front
split_both : (one two : List ℕ) (place : ℕ) → place < length one → length one ≡ length two
    → nat_cmp (value_of 0 (get_or one place 0 ∷ drop (suc place) one)) (value_of 0 (get_or two place 0 ∷ drop (suc place) two)) ≡ order_from one two place
split_both one two place within long =
    ap (λ l. nat_cmp (value_of 0 l) (value_of 0 (get_or two place 0 ∷ drop (suc place) two))) (sym (drop-cons one place 0 within))
    ∙ ap (λ l. nat_cmp (value_of 0 (drop place one)) (value_of 0 l)) (sym (drop-cons two place 0 (omega (arith, within, long))))

pub digits_differ : (one two : List ℕ) (place : ℕ) (found : Ordering) → place < length one → length one ≡ length two
    → found ≡ nat_cmp (digit_of (get_or one place 0)) (digit_of (get_or two place 0)) → is_ne found ≡ true → found ≡ order_from one two place
digits_differ one two place found within long is differ =
    first_differs (get_or one place 0) (get_or two place 0) (drop (suc place) one) (drop (suc place) two) found (rest_long one two place long) is differ
    ∙ split_both one two place within long

pub digits_alike : (one two : List ℕ) (place : ℕ) (found : Ordering) → place < length one → length one ≡ length two
    → found ≡ nat_cmp (digit_of (get_or one place 0)) (digit_of (get_or two place 0)) → is_ne found ≡ false → order_from one two (suc place) ≡ order_from one two place
digits_alike one two place found within long is same =
    first_alike (get_or one place 0) (get_or two place 0) (drop (suc place) one) (drop (suc place) two) found (rest_long one two place long) is same
    ∙ split_both one two place within long

-- natural numbers compare as whole ones
matched : (r : Ordering) (u v : ℕ) → MatchOrdering r (u < v) (u ≡ v) (v < u) → MatchOrdering r (pos u <ℤ pos v) (pos u ≡ pos v) (pos v <ℤ pos u)
matched Less u v h = omega (arith, ints, h)
matched Equal u v h = ap (λ n. pos n) h
matched Greater u v h = omega (arith, ints, h)

-- items of one unsigned picture compare as their digits
alike_order : (digits places : ℕ) (xs ys : List ℕ)
    → nat_cmp (value_of 0 xs) (value_of 0 ys) ≡ compared (Chars (Some (NumberPicture digits places false)) xs) (Chars (Some (NumberPicture digits places false)) ys)
alike_order digits places xs ys =
    let u : ℕ = value_of 0 xs in
    let v : ℕ = value_of 0 ys in
    int_cmp_is (pos u) (pos v) (nat_cmp u v) (matched (nat_cmp u v) u v (ranked u v (nat_cmp u v) refl))
    ∙ cmp-times (pos u) (pos v) (10 ^ places) (ten-pos places)

pub order_of_items : (left right : Option Spot) (storage : List ℕ) (a b : Spot) (digits places : ℕ) (found : Ordering) → Some a ≡ left → Some b ≡ right
    → a.picture ≡ Some (NumberPicture digits places false) → b.picture ≡ Some (NumberPicture digits places false)
    → found ≡ nat_cmp (value_of 0 (chars_at a storage)) (value_of 0 (chars_at b storage))
    → Some found ≡ of_two compared (option_map (value_in storage) (option_map Stored left)) (option_map (value_in storage) (option_map Stored right))
order_of_items None right storage a b digits places found l r p q is = absurd (cc)
order_of_items (Some x) None storage a b digits places found l r p q is = absurd (cc)
order_of_items (Some x) (Some y) storage a b digits places found l r p q is =
    let one : a ≡ x = cc in
    let two : b ≡ y = cc in
    ap (λ o. Some o)
    (is ∙ alike_order digits places (chars_at a storage) (chars_at b storage)
    ∙ ap (λ w. compared (Chars w (chars_at a storage)) (Chars (Some (NumberPicture digits places false)) (chars_at b storage))) (sym p)
    ∙ ap (λ w. compared (Chars a.picture (chars_at a storage)) (Chars w (chars_at b storage))) (sym q)
    ∙ ap (λ (s : Spot). compared (Chars s.picture (chars_at s storage)) (Chars b.picture (chars_at b storage))) one
    ∙ ap (λ (s : Spot). compared (Chars x.picture (chars_at x storage)) (Chars s.picture (chars_at s storage))) two)
