-- What the changes of units make of the records of files.
use Rattle.std.specs.Prelude.{ℕ, List, [], ◌∷◌, slice_get, Result, Ok, Err}
use Rattle.pw_code.specs.declared.file.FileInfo.{FileInfo}
use Rattle.pw_code.specs.declared.system.System.{System}
use Rattle.pw_files.specs.Records.{with_record, without_key}
use Rattle.pw_onecopy.specs.Update.{upd}
use Rattle.pw_tmf.specs.Starting.{key_of_file, records_of_file, told_at_start}
use Rattle.pw_tmf.specs.Told.{Told}
use Rattle.pw_trail.specs.Format.{units_in}
use Rattle.pw_trail.specs.declared.changes.Change.{Change}
use Rattle.pw_trail.specs.declared.changes.ChangeKind.{ChangeKind}
use Rattle.pw_trail.specs.declared.changes.ChangeKind.TheVariants.{Put, Remove}
use Rattle.pw_trail.specs.declared.changes.UnitChanges.{UnitChanges}

-- the records of a file with keys of n characters, with a change made
abbrev pub changed_by : ChangeKind → ℕ → List (List ℕ) → List ℕ → List (List ℕ)
changed_by Put n records bytes = with_record n records bytes
changed_by Remove n records bytes = without_key n records bytes

-- the files with a change made
abbrev pub with_change : (ℕ → ℕ) → (ℕ → List (List ℕ)) → Change → ℕ → List (List ℕ)
with_change key_length files change =
    upd files change.file (changed_by change.kind (key_length change.file) (files change.file) change.bytes)

-- with changes, and with those of units, in order
abbrev pub with_changes : (ℕ → ℕ) → (ℕ → List (List ℕ)) → List Change → ℕ → List (List ℕ)
with_changes key_length files [] = files
with_changes key_length files (change ∷ changes) =
    with_changes key_length (with_change key_length files change) changes

-- the records with the changes of units, in order
abbrev pub with_units : (ℕ → ℕ) → (ℕ → List (List ℕ)) → List UnitChanges → ℕ → List (List ℕ)
with_units key_length files [] = files
with_units key_length files (unit ∷ units) = with_units key_length (with_changes key_length files unit.changes) units

-- the length of the keys of each file of a deck, and its records
abbrev pub keys_of : List FileInfo → ℕ → ℕ
keys_of files f = key_of_file (slice_get files f)

-- the records of each file of a deck
abbrev pub deck_file_records : List FileInfo → ℕ → List (List ℕ)
deck_file_records files f = records_of_file (slice_get files f)

-- the deck's records after the changes of units in order
abbrev pub files_after : List FileInfo → List UnitChanges → ℕ → List (List ℕ)
files_after files units = with_units (keys_of files) (deck_file_records files) units

-- the same of what was read, or the place where the bytes are not in the format
abbrev pub files_read : List FileInfo → Result (List UnitChanges) ℕ → Result (ℕ → List (List ℕ)) ℕ
files_read files (Ok units) = Ok (files_after files units)
files_read files (Err place) = Err place

-- the deck's records after the changes of a trail in order
abbrev pub trail_files : List FileInfo → List ℕ → Result (ℕ → List (List ℕ)) ℕ
trail_files files bytes = files_read files (units_in files bytes)

-- what a disc of the system tells that has these records, and where no unit has begun
abbrev pub told_with : System → (ℕ → List (List ℕ)) → Told
told_with system files = record (told_at_start system) { files = files }
