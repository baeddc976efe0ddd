-- What the disc of a system tells before any unit has begun.
use Rattle.std.specs.Prelude.{ℕ, List, [], ◌∷◌, length, slice_get, Option, Some, None}
use Rattle.pw_code.specs.declared.file.FileInfo.{FileInfo}
use Rattle.pw_code.specs.declared.system.System.{System}
use Rattle.pw_blocks.specs.Blocks.{BlocksState, records_of}
use Rattle.pw_files.specs.Records.{with_record}
use Rattle.pw_tmf.specs.Told.{Told}

-- the records with these contents put to them, one after the other
abbrev pub all_put : ℕ → List (List ℕ) → List (List ℕ) → List (List ℕ)
all_put n records [] = records
all_put n records (content ∷ contents) = all_put n (with_record n records content) contents

-- the length of the keys of a system's file, and its records in the order of their keys
abbrev pub key_in_system : FileInfo → ℕ
key_in_system file = file.key

-- the records of a system's file in the order of their keys
abbrev pub records_in_system : FileInfo → List (List ℕ)
records_in_system file = all_put file.key [] file.records

-- the same, 1 and none for a file that is not there
abbrev pub key_of_file : Option FileInfo → ℕ
key_of_file None = 1
key_of_file (Some file) = key_in_system file

-- the records of a file, none for one that is not there
abbrev pub records_of_file : Option FileInfo → List (List ℕ)
records_of_file None = []
records_of_file (Some file) = records_in_system file

-- the system's files and rule, and no unit
abbrev pub told_at_start : System → Told
told_at_start system = record {
  rule = system.rule;
  terminals = length system.terminals;
  file_count = length system.files;
  key_length = λ f. key_of_file (slice_get system.files f);
  files = λ f. records_of_file (slice_get system.files f);
  locks = [];
  units = λ t. None;
  ended = λ t. record { number = 0; reply = None };
  faults = 0;
  commits = 0;
}

-- the same of a file in blocks
abbrev pub key_in : BlocksState → ℕ
key_in file = file.key

-- the records of a file in blocks
abbrev pub records_in : BlocksState → List (List ℕ)
records_in file = records_of file.blocks
