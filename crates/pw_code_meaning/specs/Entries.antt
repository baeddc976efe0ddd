-- What an entry leaves in the storage, by the fields of its screen.
pub use Rattle.pw_tree_meaning.specs.Screens.{entered_chars}
use Rattle.std.specs.Prelude.{ℕ, List, [], ◌∷◌, find, Option, Some, None}
use Rattle.pw_terminal.specs.Entries.{is_entry_field}
use Rattle.pw_terminal.specs.Shown.{written}
use Rattle.pw_code.specs.declared.field.Field.{Field}
use Rattle.pw_code.specs.declared.field.FieldKind.{FieldKind}
use Rattle.pw_code.specs.declared.field.FieldKind.TheVariants as field

-- the storage with a value moved to the item of a field
abbrev pub entered_in : FieldKind → List ℕ → List ℕ → List ℕ
entered_in (field.Literal text) value storage = storage
entered_in (field.Item picture at source show) value storage =
    written at (entered_chars source value) storage

-- the storage with a value in the item of a field, if there is such a field
abbrev pub entered_by : Option Field → List ℕ → List ℕ → List ℕ
entered_by None value storage = storage
entered_by (Some found) value storage = entered_in found.shown value storage

-- the values of an entry line are moved in the order of its pairs; other fields stay
abbrev pub storage_entered : List Field → List (List ℕ × List ℕ) → List ℕ → List ℕ
storage_entered fields [] storage = storage
storage_entered fields (pair ∷ pairs) storage =
    storage_entered fields pairs (entered_by (find (is_entry_field pair.0) fields) pair.1 storage)
