-- A system whose files have other records.
use Rattle.std.specs.Prelude.{◌≡◌, ◌≤◌, ℕ, suc, List, [], ◌∷◌, length, map}
use Rattle.pw_code.specs.declared.file.FileInfo.{FileInfo}
use Rattle.pw_code.specs.declared.system.System.{System}
use Rattle.pw_code_meaning.specs.OfSystem.{key_length}
use Rattle.pw_files.specs.Records.{IsFile}
use Rattle.pw_onecopy.specs.Behaviour.{Behaviour}

-- the files have the same names and keys
pub record AreAlike (files others : List FileInfo) : Type 0 where
  pub names : map (λ (file : FileInfo). file.name) files ≡ map (λ (file : FileInfo). file.name) others
  pub keys : map (λ (file : FileInfo). file.key) files ≡ map (λ (file : FileInfo). file.key) others

-- the files with these records, a list for each file
abbrev pub files_with : List FileInfo → (ℕ → List (List ℕ)) → List FileInfo
files_with [] records = []
files_with (file ∷ files) records = record file { records = records 0 } ∷ files_with files (λ f. records (suc f))

-- the system with these records in its files
abbrev pub with_records : System → (ℕ → List (List ℕ)) → System
with_records system records = record system { files = files_with system.files records }

-- the same terminals and servers over these records
abbrev pub over_records : Behaviour → (ℕ → List (List ℕ)) → Behaviour
over_records sys records = record sys { records = records }

-- Each list is the records of a file with the keys of the system's, and those of a file that is not there are none.
pub record AreRecordsOf (system : System) (records : ℕ → List (List ℕ)) : Type 0 where
  pub files : (f : ℕ) → IsFile (key_length system f) (records f)
  pub none : (f : ℕ) → length system.files ≤ f → records f ≡ []
