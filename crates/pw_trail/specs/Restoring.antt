-- Records in which the changes of a trail's units are made as they are read.
use Rattle.std.specs.Prelude.{◌≡◌, ℕ, List, length, Result, Ok}
use Rattle.pw_code.specs.declared.file.FileInfo.{FileInfo}
use Rattle.pw_code.specs.declared.system.System.{System}
use Rattle.pw_files.specs.Records.{IsFile}
use Rattle.pw_tmf.specs.Told.{Told}
use Rattle.pw_trail.specs.Files.{files_after, keys_of, told_with}
use Rattle.pw_trail.specs.declared.changes.UnitChanges.{UnitChanges}

-- the disc has these files
pub record HasFiles (files : List FileInfo) (told : Told) : Type 0 where
  pub count : told.file_count ≡ length files
  pub keys : told.key_length ≡ keys_of files

-- It tells the records of the system after the changes of these units, which are files, and no unit.
pub record IsRestored (system : System) (units : List UnitChanges) (told : Told) : Type 0 where
  pub is : told ≡ told_with system (files_after system.files units)
  pub files : (f : ℕ) → IsFile (keys_of system.files f) (files_after system.files units f)

-- the units of a trail were read, and it tells the records after their changes
pub record IsReadBack (system : System) (read : Result (List UnitChanges) ℕ) (told : Told) : Type 0 where
  pub units : List UnitChanges
  pub reads : read ≡ Ok units
  pub restored : IsRestored system units told
