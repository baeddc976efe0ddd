-- A few units that are added to an unsigned item where it stands.
use Rattle.std.proofs.Common.{◌≡◌, ℕ, ◌+◌, ◌-◌, ◌%◌, ◌^◌, ◌<◌, ◌≤◌, max, ℤ, pos, ◌+ℤ◌, ◌*ℤ◌, Bool, true, false, nat_lt, List, Option, Some, None, Ok, Err, refl, sym, ap, ◌∙◌, subst, arith}
use Rattle.std.specs.Prelude.{option_map, IfSome, if◌then◌else◌}
use Rattle.std.proofs.Math.IntN.{*ℤ-one}
use Rattle.std.proofs.Math.Nat.{mul-div_cancel, mod-eq_of_lt, pow-le-pow_right}
use Rattle.std.proofs.lemmas.Bool.Decides.{nat_tests}
use Rattle.pw_number.specs.Number.{Number, number}
use Rattle.pw_number.specs.Arithmetic.{sized, sum, raised}
use Rattle.pw_number.proofs.Scales.{ten-pos}
use Rattle.pw_picture.specs.declared.picture.Picture.TheVariants.{Number as NumberPicture}
use Rattle.pw_picture.specs.Stored.{digits_of, value_of, size_at, is_kept, is_negative, moved}
use Rattle.pw_terminal.specs.Shown.{written}
use Rattle.pw_picture.specs.Grammar.{IsPicture, size_of}
use Rattle.pw_code.specs.Places.{picture_of}
use Rattle.pw_code.specs.declared.instr.Arithmetic.{Arithmetic}
use Rattle.pw_code.specs.declared.instr.ArithmeticOperation.{ArithmeticOperation}
use Rattle.pw_code.specs.declared.instr.ArithmeticOperation.TheVariants.{Add}
use Rattle.pw_code.specs.declared.operand.InstructionOperand.TheVariants.{Item}
use Rattle.pw_code.specs.declared.place.Kind.{Kind}
use Rattle.pw_code.specs.declared.place.Kind.TheVariants as kind
use Rattle.pw_code.specs.declared.place.StoragePlace.{StoragePlace}
use Rattle.pw_tree_meaning.specs.Values.{Value, number_of, number_of_item}
use Rattle.pw_code_meaning.specs.Moves.{operated, operands_with, receiver_decimals, result_of, stored_by, stored_in}
use Rattle.pw_code_meaning.specs.Reading.{Registers, Spot, Stored, chars_at, read, spot_at, spot_of, value_in}
use Rattle.pw_machine.specs.Statements.{computed_all}

-- at its own places a number's units are as they stand
as_they_stand : (units : ℤ) (places all : ℕ) → all ≡ places → raised all (number units places) ≡ units
unfolding lib.IntN.one
as_they_stand units places all is =
    let none : all - places ≡ 0 = omega arith in
    ap (λ e. units *ℤ pos (10 ^ e)) none ∙ *ℤ-one units

-- the sum of two numbers of the same places
pub sum_alike : (a b places : ℕ) → sum (number (pos a) places) (number (pos b) places) ≡ number (pos (a + b)) places
sum_alike a b places =
    let all : max places places ≡ places = omega arith in
    ap (λ u. number (u +ℤ raised (max places places) (number (pos b) places)) (max places places)) (as_they_stand (pos a) places (max places places) all)
    ∙ ap (λ u. number (pos a +ℤ u) (max places places)) (as_they_stand (pos b) places (max places places) all)
    ∙ ap (λ p. number (pos (a + b)) p) all

-- a number of few digits is short
sized_few : (size places digits : ℕ) → digits ≤ 18 → size < 10 ^ digits → sized (number (pos size) places) ≡ Ok (number (pos size) places)
sized_few size places digits few below =
    let most : 10 ^ digits ≤ 10 ^ 18 = pow-le-pow_right {n = 10} (omega arith) few in
    let short : nat_lt size (10 ^ 30) ≡ true = grind (arith, nat_tests, most, below) in
    ap (λ (b : Bool). if b then Ok (number (pos size) places) else Err (record {})) short

-- what is stored of a number that has room
stored_few : (spot : Spot) (storage : List ℕ) (digits places size : ℕ) → spot.picture ≡ Some (NumberPicture digits places false) → size < 10 ^ digits
    → stored_by spot.picture spot (number (pos size) places) storage ≡ Some (written spot.at (digits_of digits size) storage)
stored_few spot storage digits places size is below =
    let n : Number = number (pos size) places in
    let own : size_at places n ≡ size = mul-div_cancel size (ten-pos places) in
    let room : nat_lt (size_at places n) (10 ^ digits) ≡ true = grind (arith, nat_tests, own, below) in
    let above : is_negative n ≡ false = grind (arith, nat_tests) in
    let kept : is_kept (NumberPicture digits places false) n ≡ true = rw (room, above) refl in
    let low : size_at places n % 10 ^ digits ≡ size = ap (λ m. m % 10 ^ digits) own ∙ mod-eq_of_lt below in
    ap (λ p. stored_by p spot n storage) is
    ∙ ap (λ b. if b then Some (written spot.at (moved (NumberPicture digits places false) n) storage) else None) kept
    ∙ ap (λ m. Some (written spot.at (digits_of digits m) storage)) low

-- the sum in its spot
pub sum_stored : (spot : Spot) (storage new : List ℕ) (digits places value more : ℕ) → spot.picture ≡ Some (NumberPicture digits places false) → digits ≤ 18
    → value + more < 10 ^ digits → new ≡ written spot.at (digits_of digits (value + more)) storage
    → Some new ≡ stored_in spot (sized (sum (number (pos value) places) (number (pos more) places))) storage
sum_stored spot storage new digits places value more is few below made =
    ap (λ l. Some l) made
    ∙ sym (stored_few spot storage digits places (value + more) is below)
    ∙ ap (λ r. stored_in spot r storage) (sym (sized_few (value + more) places digits few below))
    ∙ ap (λ n. stored_in spot (sized n) storage) (sym (sum_alike value more places))

-- the number of an item that was taken
item_number : (found : Option Spot) (storage : List ℕ) (spot : Spot) (n : Number) → Some spot ≡ found → n ≡ number_of_item spot.picture (chars_at spot storage)
    → Some n ≡ option_map number_of (option_map (value_in storage) (option_map Stored found))
item_number None storage spot n is number = absurd (cc)
item_number (Some s) storage spot n is number =
    let same : spot ≡ s = cc in
    ap (λ w. Some w) (number ∙ ap (λ (t : Spot). number_of_item t.picture (chars_at t storage)) same)

-- arithmetic on the numbers of operands that were read, and on the spot of the receiver
computed_of : (op : ArithmeticOperation) (first second : Option Value) (receiver : Option Spot) (storage : List ℕ) (one two : Number) (spot : Spot) (after : Option (List ℕ))
    → Some one ≡ option_map number_of first → Some two ≡ option_map number_of second → Some spot ≡ receiver
    → after ≡ stored_in spot (operated op (receiver_decimals spot.picture) one two) storage
    → Some after ≡ option_map (λ found. result_of op found storage) (operands_with first second receiver)
computed_of op None second receiver storage one two spot after a b r is = absurd (cc)
computed_of op (Some x) None receiver storage one two spot after a b r is = absurd (cc)
computed_of op (Some x) (Some y) None storage one two spot after a b r is = absurd (cc)
computed_of op (Some x) (Some y) (Some z) storage one two spot after a b r is =
    let one_is : one ≡ number_of x = cc in
    let two_is : two ≡ number_of y = cc in
    let spot_is : spot ≡ z = cc in
    ap (λ w. Some w)
    (is ∙ ap (λ n. stored_in spot (operated op (receiver_decimals spot.picture) n two) storage) one_is
    ∙ ap (λ n. stored_in spot (operated op (receiver_decimals spot.picture) (number_of x) n) storage) two_is
    ∙ ap (λ s. stored_in s (operated op (receiver_decimals s.picture) (number_of x) (number_of y)) storage) spot_is)

-- a sum that its second operand receives
pub counted_sum : (registers : Registers) (storage new : List ℕ) (a : Arithmetic) (place : StoragePlace) (spot : Spot) (digits places more : ℕ)
    → a.operation ≡ Add → a.second ≡ Item place → Some spot ≡ spot_of registers storage place → Some spot ≡ spot_of registers storage a.receiver
    → spot.picture ≡ Some (NumberPicture digits places false) → digits ≤ 18
    → Some (number (pos more) places) ≡ option_map number_of (read registers storage a.first)
    → value_of 0 (chars_at spot storage) + more < 10 ^ digits → new ≡ written spot.at (digits_of digits (value_of 0 (chars_at spot storage) + more)) storage
    → Some (Some new) ≡ computed_all registers storage a
counted_sum registers storage new a place spot digits places more adds item read_there there is few first below made =
    let value : ℕ = value_of 0 (chars_at spot storage) in
    let one : Number = number (pos more) places in
    let two : Number = number (pos value) places in
    let number_is : two ≡ number_of_item spot.picture (chars_at spot storage) = sym (ap (λ p. number_of_item p (chars_at spot storage)) is) in
    let second : Some two ≡ option_map number_of (read registers storage a.second) =
    item_number (spot_of registers storage place) storage spot two read_there number_is
    ∙ ap (λ o. option_map number_of (read registers storage o)) (sym item) in
    computed_of a.operation (read registers storage a.first) (read registers storage a.second) (spot_of registers storage a.receiver) storage one two spot (Some new)
    first second there
    (sum_stored spot storage new digits places value more is few below made
    ∙ ap (λ op. stored_in spot (operated op (receiver_decimals spot.picture) one two) storage) (sym adds))

-- the picture of a spot that is an unsigned Number
pub unsigned_picture : (k : Kind) (size digits places : ℕ) (signed : Bool) → k ≡ kind.Number digits places signed → signed ≡ false
    → picture_of k size ≡ Some (NumberPicture digits places false)
unsigned_picture k size digits places signed is none = ap (λ w. picture_of w size) is ∙ ap (λ s. Some (NumberPicture digits places s)) none

-- the spot of a place has the picture and the size of the place
pub spot_as_written : (place : StoragePlace) (found : Option ℕ) (spot : Spot) → Some spot ≡ option_map (spot_at place) found
    → (spot.picture ≡ picture_of place.kind place.size) × (spot.size ≡ place.size)
spot_as_written place None spot is = absurd (cc)
spot_as_written place (Some at) spot is =
    let same : spot ≡ spot_at place at = cc in
    (ap (λ (s : Spot). s.picture) same, ap (λ (s : Spot). s.size) same)

-- it has as many characters as digits
pub unsigned_size : (k : Kind) (size digits places : ℕ) (signed : Bool) → k ≡ kind.Number digits places signed → signed ≡ false
    → IfSome (picture_of k size) (λ p. IsPicture p × (size_of p ≡ size)) → (digits ≤ 18) × (digits ≡ size)
unsigned_size k size digits places signed is none fits =
    let here = subst (λ p. IfSome p (λ q. IsPicture q × (size_of q ≡ size))) (unsigned_picture k size digits places signed is none) fits in
    (here.0.1, here.1)
