-- A disc of three terminals and one file, with units of the first two, as the tests have it.
use Rattle.std.specs.Prelude.{◌≡◌, ◌≢◌, ℕ, true, false, [], ◌∷◌, codes, length, None}
use Rattle.pw_code.specs.declared.file.FileCall.{FileCall}
use Rattle.pw_code.specs.declared.file.FileInfo.{FileInfo}
use Rattle.pw_code.specs.declared.system.System.{System}
use Rattle.pw_code.specs.declared.unit.Unit as unit
use Rattle.pw_files.specs.Records.{IsContent}
use Rattle.pw_onecopy.specs.IsBehaviour.{is_written}
use Rattle.pw_tmf.specs.Told.{Told}
use Rattle.pw_tmf.specs.Units.{IsRunning}

-- a file with keys of 2 characters and one record
abbrev pub stock_file : FileInfo
stock_file = record { name = codes "STOCK"; key = 2; records = codes "AA one" ∷ [] }

-- a system of three terminals, and of one file whose keys have 2 characters
pub record IsTestSystem (system : System) : Type 0 where
  pub terminals : length system.terminals ≡ 3
  pub file : FileInfo
  pub files : system.files ≡ file ∷ []
  pub key : file.key ≡ 2

-- its disc at the start
pub record IsFresh (told : Told) : Type 0 where
  pub terminals : told.terminals ≡ 3
  pub files : told.file_count ≡ 1
  pub key : told.key_length 0 ≡ 2
  pub units : (t : ℕ) → told.units t ≡ None
  pub ended : (t : ℕ) → (told.ended t).number ≡ 0

-- a unit of the first terminal, and a younger one of the second
abbrev pub older_unit : unit.Unit
older_unit = record { terminal = 0; number = 1; birth = 0 }

-- a unit that began after the other
abbrev pub younger_unit : unit.Unit
younger_unit = record { terminal = 1; number = 1; birth = 1 }

-- a still younger one of the third
abbrev pub third_unit : unit.Unit
third_unit = record { terminal = 2; number = 1; birth = 2 }

-- attempts of the first two run, no other unit is open, and none has ended
pub record AreBoth (told : Told) : Type 0 where
  pub terminals : told.terminals ≡ 3
  pub files : told.file_count ≡ 1
  pub key : told.key_length 0 ≡ 2
  pub older : IsRunning told older_unit
  pub younger : IsRunning told younger_unit
  pub others : (t : ℕ) → t ≢ 0 → t ≢ 1 → told.units t ≡ None
  pub ended : (t : ℕ) → (told.ended t).number ≡ 0

-- an operation on the file
pub record IsTestCall (call : FileCall) : Type 0 where
  pub file : call.file ≡ 0
  pub content : is_written call.op ≡ true → IsContent 2 call.content
  pub key : is_written call.op ≡ false → length call.key ≡ 2
