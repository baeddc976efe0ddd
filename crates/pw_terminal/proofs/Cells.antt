-- Which cells fields write, and which they leave.
use Rattle.std.proofs.Common.{◌≡◌, ℕ, zero, suc, ◌+◌, ◌<◌, ◌≤◌, Bool, true, false, cond, ◌||◌, ◌==◌, List, [], ◌∷◌, ◌++◌, length, get_or, take, drop, All, refl, ap, ◌∙◌, arith}
use Rattle.std.proofs.lemmas.List.{places, length-replicate, take-append-drop}
use Rattle.std.proofs.lemmas.List.Elements.{All-head, All-tail}
use Rattle.pw_picture.specs.declared.picture.Picture.{Picture}
use Rattle.pw_picture.specs.declared.picture.Picture.TheVariants.{Text, Number, Edited}
use Rattle.pw_picture.specs.Grammar.{size_of}
use Rattle.pw_picture.specs.Stored.{digits_of, chars_of}
use Rattle.pw_picture.specs.Edited.{shown_from}
use Rattle.pw_code.specs.declared.field.Field.{Field}
use Rattle.pw_code.specs.declared.field.FieldKind.{FieldKind}
use Rattle.pw_code.specs.declared.field.FieldKind.TheVariants.{Literal, Item}
use Rattle.pw_code.specs.Screen.{IsWhole}
use Rattle.pw_code.specs.Fields.{cells_of, IsField}
use Rattle.pw_terminal.specs.Shown.{cell_place, written, as_shown, chars_at, field_text, is_put, with_field, with_fields, HasCell}
use Rattle.pw_terminal.proofs.Written.{length-written, length-fitted}

-- a number has as many characters as its picture says, with a sign or without
pub length-digits_of : (count size : ℕ) → length (digits_of count size) ≡ count
length-digits_of zero size = refl
length-digits_of (suc count) size = ap (λ n. suc n) (length-digits_of count size)

length-chars_of : (digits : ℕ) (sign negative : Bool) (size : ℕ) → length (chars_of digits sign negative size) ≡ cond sign (digits + 1) digits
length-chars_of digits true negative size = omega (arith, length-digits_of digits size)
length-chars_of digits false negative size = length-digits_of digits size

length-shown_from : (negative : Bool) (size : ℕ) (nine : Bool) (symbols : List ℕ) → length (shown_from nine negative size symbols) ≡ length symbols
length-shown_from negative size nine [] = refl
length-shown_from negative size nine (symbol ∷ symbols) = ap (λ n. suc n) (length-shown_from negative size (nine || symbol == 57) symbols)

length-as_shown : (picture source : Picture) (chars : List ℕ) → length (as_shown picture source chars) ≡ size_of picture
length-as_shown (Text size) source chars = length-fitted size chars
length-as_shown (Number digits places signed) source chars = length-chars_of digits signed _ _
length-as_shown (Edited symbols) source chars = length-shown_from _ _ false symbols

-- what a field shows is as long as the field
length-text_of : (storage : List ℕ) (kind : FieldKind) → length (field_text storage kind) ≡ cells_of kind
length-text_of storage (Literal text) = refl
length-text_of storage (Item picture at source true) = length-as_shown picture source (chars_at at source storage)
length-text_of storage (Item picture at source false) = length-replicate (size_of picture) _

-- where it shows something, that lies in the screen
field_room : (storage : List ℕ) (field : Field) → IsField (length storage) field → 0 < length (field_text storage field.shown)
    → cell_place field.row field.column + length (field_text storage field.shown) ≤ 1920
field_room storage field is some =
    let inside = is.inside (omega (arith, length-text_of storage field.shown)) in
    omega (arith, length-text_of storage field.shown, inside.below_top, inside.above_messages, inside.from_left, inside.to_right)

-- a text leaves the cells before and behind it
kept-written : (place : ℕ) (text cells : List ℕ) (cell : ℕ) → (0 < length text → place + length text ≤ length cells) → (place ≤ cell → cell < place + length text → ⊥)
    → get_or (written place text cells) cell 0 ≡ get_or cells cell 0
kept-written place [] cells cell room out =
    let none : place + 0 ≡ place = omega arith in
    ap (λ xs. get_or xs cell 0) (ap (λ n. take place cells ++ drop n cells) none ∙ take-append-drop place cells)
kept-written place (first ∷ text) cells cell room out =
    let within : place + length (first ∷ text) ≤ length cells = room (omega arith) in
    grind (arith, places)

-- and is seen where it stands
shown-written : (place : ℕ) (text cells : List ℕ) (cell : ℕ) → place + length text ≤ length cells → cell < length text
    → get_or (written place text cells) (place + cell) 0 ≡ get_or text cell 0
shown-written place text cells cell room within = grind (arith, places)

-- a field leaves the cells that it has not
kept : (base : Bool) (storage : List ℕ) (field : Field) (cells : List ℕ) (cell : ℕ) (put : Bool) → is_put base field.shown ≡ put → IsWhole cells → IsField (length storage) field
    → ¬ HasCell base storage field cell
    → get_or (cond put (written (cell_place field.row field.column) (field_text storage field.shown) cells) cells) cell 0 ≡ get_or cells cell 0
kept base storage field cells cell false put_is whole is out = refl
kept base storage field cells cell true put_is whole is out =
    kept-written (cell_place field.row field.column) (field_text storage field.shown) cells cell
    (λ (some : 0 < length (field_text storage field.shown)). omega (arith, field_room storage field is some))
    (λ (from : cell_place field.row field.column ≤ cell) (below : cell < cell_place field.row field.column + length (field_text storage field.shown)). out (record { put = put_is; from = from; below = below }))

-- the screen stays whole
whole_after : (base : Bool) (storage : List ℕ) (field : Field) (cells : List ℕ) (put : Bool) → IsWhole cells → IsField (length storage) field
    → IsWhole (cond put (written (cell_place field.row field.column) (field_text storage field.shown) cells) cells)
whole_after base storage field cells false whole is = whole
whole_after base storage field cells true whole is = some_or_none (field_text storage field.shown) (field_room storage field is) where
  some_or_none : (text : List ℕ) → (0 < length text → cell_place field.row field.column + length text ≤ 1920) → length (written (cell_place field.row field.column) text cells) ≡ 1920
  some_or_none [] room =
      let none : cell_place field.row field.column + 0 ≡ cell_place field.row field.column = omega arith in
      ap length (ap (λ n. take (cell_place field.row field.column) cells ++ drop n cells) none ∙ take-append-drop (cell_place field.row field.column) cells) ∙ whole
  some_or_none (first ∷ text) room =
      length-written (cell_place field.row field.column) (first ∷ text) cells (omega (arith, room (omega arith))) ∙ whole

-- fields leave the cells that they have not
pub others : (base : Bool) (storage : List ℕ) (fields : List Field) (cells : List ℕ) (cell : ℕ) → IsWhole cells → All (IsField (length storage)) fields
    → All (λ field. ¬ HasCell base storage field cell) fields → get_or (with_fields base storage fields cells) cell 0 ≡ get_or cells cell 0
others base storage [] cells cell whole are out = refl
others base storage (field ∷ fields) cells cell whole are out =
    let is : IsField (length storage) field = All-head (IsField (length storage)) field fields are in
    others base storage fields (with_field base storage field cells) cell
    (whole_after base storage field cells (is_put base field.shown) whole is)
    (All-tail (IsField (length storage)) field fields are)
    (All-tail (λ f. ¬ HasCell base storage f cell) field fields out)
    ∙ kept base storage field cells cell (is_put base field.shown) refl whole is (All-head (λ f. ¬ HasCell base storage f cell) field fields out)

-- and a cell shows what the last field has there
seen : (base : Bool) (storage : List ℕ) (field : Field) (cells : List ℕ) (cell : ℕ) → IsWhole cells → IsField (length storage) field
    → HasCell base storage field (cell_place field.row field.column + cell)
    → get_or (with_field base storage field cells) (cell_place field.row field.column + cell) 0 ≡ get_or (field_text storage field.shown) cell 0
seen base storage field cells cell whole is has =
    let within : cell < length (field_text storage field.shown) = omega (arith, has.below) in
    let room : cell_place field.row field.column + length (field_text storage field.shown) ≤ length cells = omega (arith, field_room storage field is (omega arith)) in
    ap (λ put. get_or (cond put (written (cell_place field.row field.column) (field_text storage field.shown) cells) cells) (cell_place field.row field.column + cell) 0) has.put
    ∙ shown-written (cell_place field.row field.column) (field_text storage field.shown) cells cell room within

pub last : (base : Bool) (storage : List ℕ) (before later : List Field) (field : Field) (cells : List ℕ) (cell : ℕ) → IsWhole cells
    → All (IsField (length storage)) (before ++ field ∷ later) → HasCell base storage field (cell_place field.row field.column + cell)
    → All (λ other. ¬ HasCell base storage other (cell_place field.row field.column + cell)) later
    → get_or (with_fields base storage (before ++ field ∷ later) cells) (cell_place field.row field.column + cell) 0 ≡ get_or (field_text storage field.shown) cell 0
last base storage [] later field cells cell whole are has out =
    let is : IsField (length storage) field = All-head (IsField (length storage)) field later are in
    others base storage later (with_field base storage field cells) (cell_place field.row field.column + cell)
    (whole_after base storage field cells (is_put base field.shown) whole is) (All-tail (IsField (length storage)) field later are) out
    ∙ seen base storage field cells cell whole is has
last base storage (first ∷ before) later field cells cell whole are has out =
    last base storage before later field (with_field base storage first cells) cell
    (whole_after base storage first cells (is_put base first.shown) whole (All-head (IsField (length storage)) first (before ++ field ∷ later) are))
    (All-tail (IsField (length storage)) first (before ++ field ∷ later) are) has out
