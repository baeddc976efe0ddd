-- The fields of a screen lie apart.
use Rattle.std.specs.Prelude.{◌≡◌, ℕ, true, List, [], ◌∷◌}
use Rattle.pw_code.specs.declared.field.Field.{Field}
use Rattle.pw_code.specs.declared.field.ScreenTable.{ScreenTable}
use Rattle.pw_screen.specs.Cells.{has_cell}

-- no cell is one of both fields
abbrev pub FieldsApart : Field → Field → Type 0
FieldsApart a b = (place : ℕ) → has_cell a place ≡ true → has_cell b place ≡ true → ⊥

-- a field is apart from each of the others
abbrev pub FieldApartFrom : Field → List Field → Type 0
FieldApartFrom field [] = Unit {0}
FieldApartFrom field (other ∷ others) = FieldsApart field other × FieldApartFrom field others

-- no two of the fields have a cell in common
abbrev pub AreFieldsApart : List Field → Type 0
AreFieldsApart [] = Unit {0}
AreFieldsApart (field ∷ fields) = FieldApartFrom field fields × AreFieldsApart fields

-- nor have two of one of the screens
abbrev pub AllApart : List ScreenTable → Type 0
AllApart [] = Unit {0}
AllApart (table ∷ tables) = AreFieldsApart table.fields × AllApart tables
