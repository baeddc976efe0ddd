-- What is written into a storage leaves its size, where the places are those of a valid code.
use Rattle.std.proofs.Common.{◌≡◌, ℕ, ◌+◌, ◌-◌, ◌*◌, ◌≤◌, ◌<◌, Bool, true, false, List, [], ◌∷◌, ◌++◌, length, map, take, drop, Option, Some, None, if◌then◌else◌, refl, sym, ap, ◌∙◌, subst, arith}
use Rattle.std.specs.Prelude.{All, IfSome, find, nat_le, ◌&&◌, ◌%◌, ◌^◌, option_map, Result, Ok, Err}
use Rattle.std.proofs.Math.Nat.{mul-le-mul_right}
use Rattle.std.proofs.lemmas.Bool.{and_parts, leb-true}
use Rattle.std.proofs.lemmas.List.{length-take, length-replicate}
use Rattle.std.proofs.lemmas.List.Elements.{All-head, All-tail}
use Rattle.pw_base.proofs.Plain.{some_is}
use Rattle.pw_number.specs.Number.{Number}
use Rattle.pw_number.specs.declared.size_error.SizeError.{SizeError}
use Rattle.pw_picture.specs.Grammar.{IsPicture, size_of}
use Rattle.pw_picture.specs.Stored.{chars_of, is_kept, is_negative, moved, size_at}
use Rattle.pw_picture.specs.declared.picture.Picture.{Picture}
use Rattle.pw_picture.specs.declared.picture.Picture.TheVariants as picture
use Rattle.pw_terminal.specs.Entries.{is_entry_field}
use Rattle.pw_terminal.specs.Shown.{written}
use Rattle.pw_terminal.proofs.Cells.{length-digits_of}
use Rattle.pw_terminal.proofs.Written.{length-fitted, length-written}
use Rattle.pw_code.specs.Fields.{HasClauses, IsField}
use Rattle.pw_code.specs.Valid.{IsLinked}
use Rattle.pw_code.specs.Places.{IsPlace, IsTableAt, LiesIn, picture_of}
use Rattle.pw_code.specs.declared.field.Field.{Field}
use Rattle.pw_code.specs.declared.field.FieldKind.{FieldKind}
use Rattle.pw_code.specs.declared.field.FieldKind.TheVariants as field
use Rattle.pw_code.specs.declared.instr.ArithmeticOperation.{ArithmeticOperation}
use Rattle.pw_code.specs.declared.place.StoragePlace.{StoragePlace}
use Rattle.pw_code.specs.declared.place.PlaceTable.{PlaceTable}
use Rattle.pw_tree_meaning.specs.Values.{Value, Chars, Register, Number', Text', Spaces', Zeros', text_in, operand_text, number_in, number_of}
use Rattle.pw_code_meaning.specs.Calls.{linkage_chars, put_all, put_linkage}
use Rattle.pw_code_meaning.specs.Entries.{storage_entered, entered_by, entered_chars, entered_in}
use Rattle.pw_code_meaning.specs.Moves.{computed, move_value, moved_chars, moves, operated, receiver_decimals, stored_by, stored_in}
use Rattle.pw_code_meaning.specs.Reading.{Registers, Spot, ResolvedOperand, at_this_moment, chars_at, occurrence_at, one_more, put_at, spot_at, spot_of, spots_of, subscript_of, value_in}

-- ---- lists of characters

pub length-text_in : (size : ℕ) (value : Value) → length (text_in size value) ≡ size
length-text_in size (Chars p chars) = length-fitted size (operand_text (Chars p chars))
length-text_in size (Register digits v) = length-fitted size (operand_text (Register digits v))
length-text_in size (Number' spelling) = length-fitted size (operand_text (Number' spelling))
length-text_in size (Text' chars) = length-fitted size (operand_text (Text' chars))
length-text_in size Spaces' = length-replicate size 32
length-text_in size Zeros' = length-replicate size 48

pub length-chars_of : (digits size : ℕ) (sign negative : Bool) → length (chars_of digits sign negative size) ≡ (if sign then digits + 1 else digits)
length-chars_of digits size true negative = omega (arith, length-digits_of digits size)
length-chars_of digits size false negative = length-digits_of digits size

-- a number is moved to no more than the item
moved-short : (p : Picture) (n : Number) → length (moved p n) ≤ size_of p
moved-short (picture.Number digits places sign) n =
    let long = length-chars_of digits (size_at places n % 10 ^ digits) sign (is_negative n) in
    omega (arith, long)
moved-short (picture.Text size) n = omega arith
moved-short (picture.Edited symbols) n = omega arith

moved_chars-short : (p : Option Picture) (size : ℕ) (value : Value) → ((q : Picture) → p ≡ Some q → size_of q ≡ size) → length (moved_chars p size value) ≤ size
moved_chars-short None size value fits = let long = length-text_in size value in omega (arith, long)
moved_chars-short (Some (picture.Text n)) size value fits = let long = length-text_in size value in omega (arith, long)
moved_chars-short (Some (picture.Number digits places sign)) size value fits =
    let short = moved-short (picture.Number digits places sign) (number_of value) in
    let is = fits (picture.Number digits places sign) refl in
    omega (arith, short, is)
moved_chars-short (Some (picture.Edited symbols)) size value fits = let long = length-text_in size value in omega (arith, long)

entered_chars-short : (source : Picture) (value : List ℕ) → length (entered_chars source value) ≤ size_of source
entered_chars-short (picture.Text size) value = let long = length-fitted size value in omega (arith, long)
entered_chars-short (picture.Number digits places sign) value = moved-short (picture.Number digits places sign) (number_in value)
entered_chars-short (picture.Edited symbols) value = omega arith

-- ---- spots

-- the spot lies in a storage of this size, and is as long as its picture says
pub record Sits (n : ℕ) (spot : Spot) : Type 0 where
  pub inside : spot.at + spot.size ≤ n
  pub fits : (p : Picture) → spot.picture ≡ Some p → size_of p ≡ spot.size

fits-of : (o : Option Picture) (size : ℕ) → IfSome o (λ p. IsPicture p × (size_of p ≡ size)) → (p : Picture) → o ≡ Some p → size_of p ≡ size
fits-of (Some q) size is p e = let same : q ≡ p = cc e in ap size_of (sym same) ∙ is.1
fits-of None size is p e = absurd (cc e)

-- what is known of a place's spot
pub record IsSpotOf (n : ℕ) (place : StoragePlace) (spot : Spot) : Type 0 where
  pub sits : Sits n spot
  pub size : spot.size ≡ place.size

-- the spots of places, one for each
abbrev pub AreSpots : ℕ → List StoragePlace → List Spot → Type 0
AreSpots n [] [] = Unit {0}
AreSpots n (place ∷ places) (spot ∷ spots) = IsSpotOf n place spot × AreSpots n places spots
AreSpots n _ _ = ⊥

module _ (registers : Registers) (storage : List ℕ) (n : ℕ) where
  module _ (place : StoragePlace) (is : IsPlace n place) where
    at-place : (at : ℕ) → at + place.size ≤ n → IsSpotOf n place (spot_at place at)
    at-place at inside = record { sits = record { inside = inside; fits = fits-of (picture_of place.kind place.size) place.size is.picture }; size = refl }

    by-test : (table : PlaceTable) (k : ℕ) (spot : Spot) → IsTableAt n place.at place.size table → (b : Bool) → (nat_le 1 k && nat_le k table.occurs) ≡ b
        → option_map (spot_at place) (if b then Some (place.at + (k - 1) * table.step) else None) ≡ Some spot → IsSpotOf n place spot
    by-test table k spot inside true test e =
        let parts = and_parts (nat_le 1 k) (nat_le k table.occurs) test in
        let high : k ≤ table.occurs = leb-true k table.occurs parts.1 in
        let product : (k - 1) * table.step ≤ (table.occurs - 1) * table.step = mul-le-mul_right table.step (omega (arith, high)) in
        let all : place.at + (table.occurs - 1) * table.step + place.size ≤ n = inside.inside in
        subst (IsSpotOf n place) (some_is e) (at-place (place.at + (k - 1) * table.step) (omega (arith, product, all)))
    by-test table k spot inside false test e = absurd (cc e)

    by-table : (table : Option PlaceTable) (spot : Spot) → LiesIn n place.at place.size table → option_map (spot_at place) (at_this_moment registers storage place.at table) ≡ Some spot → IsSpotOf n place spot
    by-table None spot inside e = subst (IsSpotOf n place) (some_is e) (at-place place.at inside)
    by-table (Some table) spot inside e =
        let k : ℕ = subscript_of registers storage table.subscript in
        by-test table k spot inside (nat_le 1 k && nat_le k table.occurs) refl e

    pub spot-is : (spot : Spot) → spot_of registers storage place ≡ Some spot → IsSpotOf n place spot
    spot-is spot e = by-table place.table spot is.inside e

  one-more : (place : StoragePlace) (places : List StoragePlace) (o : Option Spot) (rest : Option (List Spot)) (spots : List Spot) → ((spot : Spot) → o ≡ Some spot → IsSpotOf n place spot)
      → ((others : List Spot) → rest ≡ Some others → AreSpots n places others) → one_more o rest ≡ Some spots → AreSpots n (place ∷ places) spots
  one-more place places (Some spot) (Some others) spots first more e = subst (AreSpots n (place ∷ places)) (some_is e) (first spot refl, more others refl)
  one-more place places (Some spot) None spots first more e = absurd (cc e)
  one-more place places None rest spots first more e = absurd (cc e)

  pub spots-are : (places : List StoragePlace) (spots : List Spot) → All (IsPlace n) places → spots_of registers storage places ≡ Some spots → AreSpots n places spots
  spots-are [] spots all e = subst (AreSpots n []) (some_is e) tt
  spots-are (place ∷ places) spots all e =
      one-more place places (spot_of registers storage place) (spots_of registers storage places) spots (spot-is place (All-head (IsPlace n) place places all))
      (λ others. spots-are places others (All-tail (IsPlace n) place places all)) e

-- ---- what is moved

module _ (n : ℕ) where
  pub move-size : (value : Value) (spot : Spot) (storage : List ℕ) → Sits n spot → n ≤ length storage → length (move_value value spot storage) ≡ length storage
  move-size value spot storage sits le =
      let short = moved_chars-short spot.picture spot.size value sits.fits in
      let inside = sits.inside in
      length-written spot.at (moved_chars spot.picture spot.size value) storage (omega (arith, short, inside, le))

  pub moves-size : (places : List StoragePlace) (spots : List Spot) (source : ResolvedOperand) (storage : List ℕ) → AreSpots n places spots → n ≤ length storage
      → length (moves source spots storage) ≡ length storage
  moves-size [] [] source storage are le = refl
  moves-size (place ∷ places) (spot ∷ spots) source storage are le =
      let first = move-size (value_in storage source) spot storage are.0.sits le in
      moves-size places spots source (move_value (value_in storage source) spot storage) are.1 (omega (arith, first, le)) ∙ first
  moves-size [] (spot ∷ spots) source storage are le = absurd are
  moves-size (place ∷ places) [] source storage are le = absurd are

  -- arithmetic
  stored-size : (p : Option Picture) (spot : Spot) (m : Number) (storage out : List ℕ) → ((q : Picture) → p ≡ Some q → size_of q ≡ spot.size) → spot.at + spot.size ≤ n → n ≤ length storage → stored_by p spot m storage ≡ Some out
      → length out ≡ length storage
  stored-size None spot m storage out fits inside le e = absurd (cc e)
  stored-size (Some p) spot m storage out fits inside le e = by (is_kept p m) e
    where
      by : (b : Bool) → (if b then Some (put_at spot (moved p m) storage) else None) ≡ Some out → length out ≡ length storage
      by true e =
          let short = moved-short p m in
          let size = fits p refl in
          ap (length {A = ℕ}) (sym (some_is e)) ∙ length-written spot.at (moved p m) storage (omega (arith, short, size, inside, le))
      by false e = absurd (cc e)

  computed-in : (r : Result Number SizeError) (spot : Spot) (storage out : List ℕ) → Sits n spot → n ≤ length storage → stored_in spot r storage ≡ Some out → length out ≡ length storage
  computed-in (Ok m) spot storage out sits le e = stored-size spot.picture spot m storage out sits.fits sits.inside le e
  computed-in (Err error) spot storage out sits le e = absurd (cc e)

  pub computed-size : (op : ArithmeticOperation) (first second : Value) (spot : Spot) (storage out : List ℕ) → Sits n spot → n ≤ length storage → computed op first second spot storage ≡ Some out → length out ≡ length storage
  computed-size op first second spot storage out sits le e = computed-in (operated op (receiver_decimals spot.picture) (number_of first) (number_of second)) spot storage out sits le e

  -- ---- what is entered

  entered-in : (one : FieldKind) (takes : Bool) (value storage : List ℕ) → HasClauses n one takes → n ≤ length storage → length (entered_in one value storage) ≡ length storage
  entered-in (field.Literal text) takes value storage is le = refl
  entered-in (field.Item picture at source show) takes value storage is le =
      let short = entered_chars-short source value in
      let inside = is.0.inside in
      length-written at (entered_chars source value) storage (omega (arith, short, inside, le))

  entered-by : (o : Option Field) (value storage : List ℕ) → ((one : Field) → o ≡ Some one → IsField n one) → n ≤ length storage → length (entered_by o value storage) ≡ length storage
  entered-by None value storage is le = refl
  entered-by (Some one) value storage is le = entered-in one.shown one.takes value storage (is one refl).clauses le

  found-is : (test : Field → Bool) (fields : List Field) → All (IsField n) fields → (one : Field) → find test fields ≡ Some one → IsField n one
  found-is test [] all one e = absurd (cc e)
  found-is test (first ∷ fields) all one e = by (test first) e (λ e. found-is test fields (All-tail (IsField n) first fields all) one e)
    where
      by : (b : Bool) → (if b then Some first else find test fields) ≡ Some one → (find test fields ≡ Some one → IsField n one) → IsField n one
      by true e more = subst (IsField n) (some_is e) (All-head (IsField n) first fields all)
      by false e more = more e

  pub entered-size : (fields : List Field) (pairs : List (List ℕ × List ℕ)) (storage : List ℕ) → All (IsField n) fields → n ≤ length storage → length (storage_entered fields pairs storage) ≡ length storage
  entered-size fields [] storage all le = refl
  entered-size fields (pair ∷ pairs) storage all le =
      let first = entered-by (find (is_entry_field pair.0) fields) pair.1 storage (found-is (is_entry_field pair.0) fields all) le in
      entered-size fields pairs (entered_by (find (is_entry_field pair.0) fields) pair.1 storage) all (omega (arith, first, le)) ∙ first

-- ---- arguments

-- what is given to linkage items is no longer than they are, and lies in a storage of this size
abbrev Linked : ℕ → List (ℕ × ℕ) → List (List ℕ) → Type 0
Linked n [] given = Unit {0}
Linked n (item ∷ items) [] = Unit {0}
Linked n (item ∷ items) (chars ∷ given) = (item.0 + length chars ≤ n) × Linked n items given

linked-size : (n : ℕ) (items : List (ℕ × ℕ)) (given : List (List ℕ)) (storage : List ℕ) → Linked n items given → n ≤ length storage → length (put_linkage items given storage) ≡ length storage
linked-size n [] given storage are le = refl
linked-size n (item ∷ items) [] storage are le = refl
linked-size n (item ∷ items) (chars ∷ given) storage are le =
    let first = length-written item.0 chars storage (omega (arith, are.0, le)) in
    linked-size n items given (written item.0 chars storage) are.1 (omega (arith, first, le)) ∙ first

given-linked : (n m : ℕ) (places : List StoragePlace) (spots : List Spot) (items : List (ℕ × ℕ)) (storage : List ℕ) → AreSpots n places spots → map (λ place. place.size) places ≡ map (λ (item : ℕ × ℕ). item.1) items
    → All (IsLinked m) items → Linked m items (map (λ spot. chars_at spot storage) spots)
given-linked n m places spots [] storage are sizes all = tt
given-linked n m [] spots (item ∷ items) storage are sizes all = absurd (cc sizes)
given-linked n m (place ∷ places) [] (item ∷ items) storage are sizes all = absurd are
given-linked n m (place ∷ places) (spot ∷ spots) (item ∷ items) storage are sizes all =
    let size : place.size ≡ item.1 = cc sizes in
    let rest : map (λ place. place.size) places ≡ map (λ (item : ℕ × ℕ). item.1) items = cc sizes in
    let own = are.0.size in
    let inside : item.0 + item.1 ≤ m = All-head (IsLinked m) item items all in
    let few : length (chars_at spot storage) ≤ spot.size = simp length-take (omega arith) in
    (omega (arith, size, own, inside, few), given-linked n m places spots items storage are.1 rest (All-tail (IsLinked m) item items all))

-- a called program's storage is as long as that of its code
pub called-size : (n : ℕ) (places : List StoragePlace) (spots : List Spot) (items : List (ℕ × ℕ)) (storage code : List ℕ) → AreSpots n places spots → map (λ place. place.size) places ≡ map (λ (item : ℕ × ℕ). item.1) items
    → All (IsLinked (length code)) items → length (put_linkage items (map (λ spot. chars_at spot storage) spots) code) ≡ length code
called-size n places spots items storage code are sizes all =
    linked-size (length code) items (map (λ spot. chars_at spot storage) spots) code (given-linked n (length code) places spots items storage are sizes all) (omega arith)

-- what is copied back
abbrev Copied : ℕ → List Spot → List (List ℕ) → Type 0
Copied n [] given = Unit {0}
Copied n (spot ∷ spots) [] = Unit {0}
Copied n (spot ∷ spots) (chars ∷ given) = (spot.at + length chars ≤ n) × Copied n spots given

copied-size : (n : ℕ) (spots : List Spot) (given : List (List ℕ)) (storage : List ℕ) → Copied n spots given → n ≤ length storage → length (put_all spots given storage) ≡ length storage
copied-size n [] given storage are le = refl
copied-size n (spot ∷ spots) [] storage are le = refl
copied-size n (spot ∷ spots) (chars ∷ given) storage are le =
    let first = length-written spot.at chars storage (omega (arith, are.0, le)) in
    copied-size n spots given (put_at spot chars storage) are.1 (omega (arith, first, le)) ∙ first

taken-copied : (n : ℕ) (places : List StoragePlace) (spots : List Spot) (items : List (ℕ × ℕ)) (storage : List ℕ) → AreSpots n places spots → map (λ place. place.size) places ≡ map (λ (item : ℕ × ℕ). item.1) items
    → Copied n spots (linkage_chars items storage)
taken-copied n places [] items storage are sizes = tt
taken-copied n [] (spot ∷ spots) items storage are sizes = absurd are
taken-copied n (place ∷ places) (spot ∷ spots) [] storage are sizes = absurd (cc sizes)
taken-copied n (place ∷ places) (spot ∷ spots) (item ∷ items) storage are sizes =
    let size : place.size ≡ item.1 = cc sizes in
    let rest : map (λ place. place.size) places ≡ map (λ (item : ℕ × ℕ). item.1) items = cc sizes in
    let own = are.0.size in
    let inside = are.0.sits.inside in
    let few : length (take item.1 (drop item.0 storage)) ≤ item.1 = simp length-take (omega arith) in
    (omega (arith, size, own, inside, few), taken-copied n places spots items storage are.1 rest)

-- a caller's storage keeps its size
pub copied-back-size : (n : ℕ) (places : List StoragePlace) (spots : List Spot) (items : List (ℕ × ℕ)) (from storage : List ℕ) → AreSpots n places spots → map (λ place. place.size) places ≡ map (λ (item : ℕ × ℕ). item.1) items
    → n ≤ length storage → length (put_all spots (linkage_chars items from) storage) ≡ length storage
copied-back-size n places spots items from storage are sizes le = copied-size n spots (linkage_chars items from) storage (taken-copied n places spots items from are sizes) le
