-- The fields of a screen.
use Rattle.std.specs.Prelude.{ℕ, ◌≡◌, ◌+◌, ◌<◌, ◌≤◌, Bool, true, false, ◌||◌, length, IsTrue, All}
use Rattle.pw_picture.specs.declared.picture.Picture.{Picture}
use Rattle.pw_picture.specs.declared.picture.Picture.TheVariants.{Text, Number, Edited}
use Rattle.pw_picture.specs.Grammar.{IsPicture, size_of}
use Rattle.pw_picture.specs.Stored.{is_numeric_picture}
use Rattle.pw_code.specs.declared.field.Field.{Field}
use Rattle.pw_code.specs.declared.field.FieldKind.{FieldKind}
use Rattle.pw_code.specs.declared.field.FieldKind.TheVariants.{Literal, Item}
use Rattle.pw_code.specs.declared.field.ScreenTable.{ScreenTable}

-- how many cells a field has
abbrev pub cells_of : FieldKind → ℕ
cells_of (Literal text) = length text
cells_of (Item picture at source show) = size_of picture

-- the picture is a Text
abbrev pub is_text : Picture → Bool
is_text (Text size) = true
is_text (Number digits places signed) = false
is_text (Edited symbols) = false

-- a Text field is of a Text item, a Number or an Edited field of a Number item
abbrev pub is_source_of : Picture → Picture → Bool
is_source_of (Text size) source = is_text source
is_source_of (Number digits places signed) source = is_numeric_picture source
is_source_of (Edited symbols) source = is_numeric_picture source

-- an item that lies in a storage of this size, with the pictures of the field and of the item
pub record IsFieldItem (storage : ℕ) (picture : Picture) (at : ℕ) (source : Picture) : Type 0 where
  pub field : IsPicture picture
  pub item : IsPicture source
  pub kinds : IsTrue (is_source_of picture source)
  pub inside : at + size_of source ≤ storage

-- the clauses of a field: VALUE alone, or PIC and one of FROM, TO and USING
abbrev pub HasClauses : ℕ → FieldKind → Bool → Type 0
HasClauses storage (Literal text) takes = takes ≡ false
HasClauses storage (Item picture at source show) takes = IsFieldItem storage picture at source × IsTrue (show || takes)

-- so many cells from a row and a column on lie in rows 1 to 23 and columns 1 to 80
pub record IsInside (row column cells : ℕ) : Type 0 where
  pub below_top : 1 ≤ row
  pub above_messages : row ≤ 23
  pub from_left : 1 ≤ column
  pub to_right : column + cells ≤ 81

-- a field of a program whose storage has this size; where it has no cells it lies nowhere
pub record IsField (storage : ℕ) (field : Field) : Type 0 where
  pub clauses : HasClauses storage field.shown field.takes
  pub inside : 0 < cells_of field.shown → IsInside field.row field.column (cells_of field.shown)

-- a screen of such fields
abbrev pub IsTable : ℕ → ScreenTable → Type 0
IsTable storage table = All (IsField storage) table.fields
