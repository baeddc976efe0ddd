-- The body of a record of the trail, which tells what a unit has changed: how it is spelled, and how it is read.
use Rattle.std.specs.Prelude.{ℕ, zero, suc, ◌==◌, ◌&&◌, Bool, false, List, [], ◌∷◌, ◌++◌, length, slice_get, Option, Some, None, nat_le, if◌then◌else◌}
use Rattle.std.specs.Int.{w32, to_be_bytes}
use Rattle.std.specs.List.{flat_map}
use Rattle.pw_base.specs.Limits.{most_content}
use Rattle.pw_code.specs.declared.file.FileInfo.{FileInfo}
use Rattle.pw_image.specs.Reading.{Front, ◌>>=◌, all_of, block_at, both_at, byte_at, counted_at, is_any, is_truth, made_at, many_at, number_at}
use Rattle.pw_trail.specs.declared.changes.Change.{Change}
use Rattle.pw_trail.specs.declared.changes.ChangeKind.{ChangeKind}
use Rattle.pw_trail.specs.declared.changes.ChangeKind.TheVariants.{Put, Remove}
use Rattle.pw_trail.specs.declared.changes.UnitChanges.{UnitChanges}

-- a kind as a byte
abbrev pub kind_byte : ChangeKind → ℕ
kind_byte Put = 0
kind_byte Remove = 1

-- a change: the file, the kind, and the length of its bytes before them
abbrev pub change_bytes : Change → List ℕ
change_bytes change =
    to_be_bytes w32 change.file
    ++ (kind_byte change.kind ∷ [] ++ (to_be_bytes w32 (length change.bytes) ++ change.bytes))

-- a unit: its terminal, its number there, and the number of its changes before them
abbrev pub body_of : UnitChanges → List ℕ
body_of unit =
    to_be_bytes w32 unit.terminal
    ++ (to_be_bytes w32 unit.unit
    ++ (to_be_bytes w32 (length unit.changes) ++ flat_map change_bytes unit.changes))

-- a put has a whole record of its file, and a remove has its key
abbrev pub fits_file : Option FileInfo → ChangeKind → List ℕ → Bool
fits_file None kind bytes = false
fits_file (Some file) Put bytes = nat_le file.key (length bytes) && nat_le (length bytes) most_content
fits_file (Some file) Remove bytes = length bytes == file.key

-- the change is of one of the files
abbrev pub fits : List FileInfo → Change → Bool
fits files change = fits_file (slice_get files change.file) change.kind change.bytes

-- what is read from the front, where it passes a test
abbrev pub such_at : {A : Type 0} → (A → Bool) → (List ℕ → Front A) → List ℕ → Front A
such_at test read bytes = read bytes >>= λ front. if test front.0 then Some front else None

-- the kind that a byte is
abbrev pub change_kind_of : ℕ → ChangeKind
change_kind_of zero = Put
change_kind_of (suc n) = Remove

-- a change of any file
abbrev pub change_from : ℕ × (ℕ × List ℕ) → Change
change_from parts = record { file = parts.0; kind = change_kind_of parts.1.0; bytes = parts.1.1 }

-- a length, and so many bytes
unfoldable pub piece_at : List ℕ → Front (List ℕ)
piece_at = counted_at (number_at w32) is_any block_at

unfoldable pub any_change_at : List ℕ → Front Change
any_change_at =
    made_at change_from (both_at (number_at w32) (both_at (byte_at is_truth) piece_at))

-- a change of one of the files
unfoldable pub change_at : List FileInfo → List ℕ → Front Change
change_at files = such_at (fits files) any_change_at

-- a count, and so many changes
unfoldable pub changes_at : List FileInfo → List ℕ → Front (List Change)
changes_at files = counted_at (number_at w32) is_any (many_at (change_at files))

-- a unit from its terminal, its number and its changes that were read
abbrev pub unit_from : ℕ × (ℕ × List Change) → UnitChanges
unit_from parts = record { terminal = parts.0; unit = parts.1.0; changes = parts.1.1 }

unfoldable pub unit_at : List FileInfo → List ℕ → Front UnitChanges
unit_at files =
    made_at unit_from (both_at (number_at w32) (both_at (number_at w32) (changes_at files)))

-- the unit that a body is of, if the bytes are one
unfoldable pub unit_in : List FileInfo → List ℕ → Option UnitChanges
unit_in files body = all_of (unit_at files body)
