-- The cells of a field, by their places among the cells of the screen, row by row.
use Rattle.std.specs.Prelude.{ℕ, zero, suc, ◌+◌, ◌-◌, ◌*◌, List, [], ◌∷◌, Bool, false, ◌&&◌, nat_lt, nat_le, Option, None, Some, slice_index_or}
use Rattle.pw_code.specs.declared.field.Field.{Field}
use Rattle.pw_code.specs.Fields.{cells_of}

-- where a field begins
abbrev pub first_cell : Field → ℕ
first_cell field = (field.row - 1) * 80 + (field.column - 1)

-- so many places from one on
abbrev pub places_from : ℕ → ℕ → List ℕ
places_from from zero = []
places_from from (suc count) = from ∷ places_from (from + 1) count

-- the places of the cells of a field
abbrev pub field_cell_places : Field → List ℕ
field_cell_places field = places_from (first_cell field) (cells_of field.shown)

-- a place is one of so many from another one on
abbrev pub is_place_within : ℕ → ℕ → ℕ → Bool
is_place_within from count place = nat_le from place && nat_lt place (from + count)

-- a field has the cell at a place
abbrev pub has_cell : Field → ℕ → Bool
has_cell field place = is_place_within (first_cell field) (cells_of field.shown) place

-- the cell at a place is marked in a map of the cells
abbrev pub is_marked : List Bool → ℕ → Bool
is_marked cells place = slice_index_or cells place false

-- the same where there may be no map yet
abbrev pub used_by : Option (List Bool) → ℕ → Bool
used_by None = λ place. false
used_by (Some cells) = is_marked cells
