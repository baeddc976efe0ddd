-- Records of several units that are put behind a trail together.
use Rattle.std.specs.Prelude.{◌≡◌, ℕ, List, [], ◌∷◌, ◌++◌}
use Rattle.pw_code.specs.declared.file.FileInfo.{FileInfo}
use Rattle.pw_trail.specs.Format.{units_in}
use Rattle.pw_trail.specs.Stored.{AreRecords, those}
use Rattle.pw_trail.specs.declared.changes.UnitChanges.{UnitChanges}

-- behind the records of any units these bytes are records of more units
abbrev pub AreRecordsBehind : List FileInfo → List UnitChanges → List ℕ → Type 0
AreRecordsBehind files more bytes =
    (units : List UnitChanges) (front : List ℕ) → AreRecords files units front → AreRecords files (units ++ more) (front ++ bytes)

-- the bytes are records of these units, and a zero gate behind them
pub record IsGroup (files : List FileInfo) (units : List UnitChanges) (bytes : List ℕ) : Type 0 where
  pub front : List ℕ
  pub records : AreRecordsBehind files units front
  pub is : bytes ≡ front ++ 0 ∷ []

-- the units of a group
abbrev pub units_of : List FileInfo → List ℕ → List UnitChanges
units_of files bytes = those (units_in files bytes)
