-- What the fields of a screen leave in its cells.
use Rattle.std.specs.Prelude.{◌≡◌, ℕ, ◌+◌, ◌-◌, ◌*◌, ◌<◌, ◌≤◌, Bool, true, false, List, [], ◌∷◌, ◌++◌, length, take, drop, replicate, if◌then◌else◌}
use Rattle.pw_base.specs.Characters.{space}
use Rattle.pw_picture.specs.declared.picture.Picture.{Picture}
use Rattle.pw_picture.specs.declared.picture.Picture.TheVariants.{Text, Number, Edited}
use Rattle.pw_picture.specs.Grammar.{size_of}
use Rattle.pw_picture.specs.Stored.{read_of, moved}
use Rattle.pw_picture.specs.Edited.{edited}
use Rattle.pw_picture.specs.Text.{fitted}
use Rattle.pw_code.specs.declared.field.Field.{Field}
use Rattle.pw_code.specs.declared.field.FieldKind.{FieldKind}
use Rattle.pw_code.specs.declared.field.FieldKind.TheVariants.{Literal, Item}
use Rattle.pw_code.specs.declared.field.ScreenTable.{ScreenTable}
use Rattle.pw_terminal.specs.Screen.{blank_cells}

-- where a row's cell lies among the cells of the screen
abbrev pub cell_place : ℕ → ℕ → ℕ
cell_place row column = (row - 1) * 80 + (column - 1)

-- cells with a text written over them from a place on
abbrev pub written : ℕ → List ℕ → List ℕ → List ℕ
written place text cells = take place cells ++ (text ++ drop (place + length text) cells)

-- the characters of an item in the storage of its program
abbrev pub chars_at : ℕ → Picture → List ℕ → List ℕ
chars_at at source storage = take (size_of source) (drop at storage)

-- an item's characters as a field's picture shows them: a text cut or padded, a number moved or
-- edited
abbrev pub as_shown : Picture → Picture → List ℕ → List ℕ
as_shown (Text size) source chars = fitted size chars
as_shown (Number digits places signed) source chars = moved (Number digits places signed) (read_of source chars)
as_shown (Edited symbols) source chars = edited (Edited symbols) (read_of source chars)

-- what a field shows: a literal its text, FROM and USING the item, TO spaces
abbrev pub field_text : List ℕ → FieldKind → List ℕ
field_text storage (Literal text) = text
field_text storage (Item picture at source true) = as_shown picture source (chars_at at source storage)
field_text storage (Item picture at source false) = replicate (size_of picture) space

-- literals are put with BASE alone
abbrev pub is_put : Bool → FieldKind → Bool
is_put base (Literal text) = base
is_put base (Item picture at source show) = true

-- the cells after one field was put
abbrev pub with_field : Bool → List ℕ → Field → List ℕ → List ℕ
with_field base storage field cells =
    if is_put base field.shown then written (cell_place field.row field.column) (field_text storage field.shown) cells else cells

-- the cells after some fields were put, one after the other
abbrev pub with_fields : Bool → List ℕ → List Field → List ℕ → List ℕ
with_fields base storage [] cells = cells
with_fields base storage (field ∷ fields) cells = with_fields base storage fields (with_field base storage field cells)

-- the cells after DISPLAY of a screen, which BASE clears first
abbrev pub with_screen : Bool → List ℕ → ScreenTable → List ℕ → List ℕ
with_screen base storage table cells = with_fields base storage table.fields (if base then blank_cells else cells)

-- a field that is put has this cell
pub record HasCell (base : Bool) (storage : List ℕ) (field : Field) (cell : ℕ) : Type 0 where
  pub put : is_put base field.shown ≡ true
  pub from : cell_place field.row field.column ≤ cell
  pub below : cell < cell_place field.row field.column + length (field_text storage field.shown)
