-- The record of a unit that commits, and what a trail has before it and behind it.
use Rattle.std.specs.Prelude.{◌≡◌, ◌⊎◌, ℕ, List, map, Option, Some, None, Ok}
use Rattle.pw_code.specs.declared.file.FileInfo.{FileInfo}
use Rattle.pw_code.specs.declared.unit.Unit as unit
use Rattle.pw_tmf.specs.Committed.{committed}
use Rattle.pw_tmf.specs.Restored.{changes_of}
use Rattle.pw_tmf.specs.Told.{Told}
use Rattle.pw_tmf.specs.Units.{after_commit}
use Rattle.pw_tmf.specs.declared.answer.ChangedKey.{ChangedKey}
use Rattle.pw_trail.specs.Files.{trail_files}
use Rattle.pw_trail.specs.declared.changes.Change.{Change}
use Rattle.pw_trail.specs.declared.changes.ChangeKind.TheVariants.{Put, Remove}
use Rattle.pw_trail.specs.declared.changes.UnitChanges.{UnitChanges}

-- the change that leads to what is at a key now
abbrev pub change_of : ℕ → List ℕ → Option (List ℕ) → Change
change_of file key None = record { file = file; kind = Remove; bytes = key }
change_of file key (Some content) = record { file = file; kind = Put; bytes = content }

-- the change that leads to what is at a key now
abbrev pub change_to : ChangedKey → Change
change_to changed = change_of changed.file changed.key changed.content

-- what the record of a unit tells: one change for each key that its attempt has changed
abbrev pub record_of : Told → unit.Unit → UnitChanges
record_of told own = record {
  terminal = own.terminal;
  unit = own.number;
  changes = map change_to (changes_of told own.terminal);
}

-- the bytes are a trail that leads to the committed records that are told
abbrev pub LeadsTo : List FileInfo → Told → List ℕ → Type 0
LeadsTo files told bytes = trail_files files bytes ≡ Ok (committed told)

-- The bytes lead to the committed records from before a unit commits, or to those behind it.
abbrev pub LeadsToEither : List FileInfo → Told → unit.Unit → Option (List ℕ) → List ℕ → Type 0
LeadsToEither files told own reply bytes = LeadsTo files told bytes ⊎ LeadsTo files (after_commit told own reply) bytes
