-- What a trail keeps on its disk, and what a crash leaves of it.
use Rattle.std.specs.Prelude.{◌≡◌, ◌⊎◌, ℕ, ◌+◌, ◌≤◌, List, [], ◌∷◌, ◌++◌, length, take, Option, Some, None, option_map, Result, Ok, Err, if◌then◌else◌, ◌==◌}
use Rattle.pw_code.specs.declared.file.FileInfo.{FileInfo}
use Rattle.pw_volume.specs.Crash.{Only}
use Rattle.pw_trail.specs.Body.{body_of}
use Rattle.pw_trail.specs.Format.{body_in, framed, units_from, units_in, with_units}
use Rattle.pw_trail.specs.declared.changes.UnitChanges.{UnitChanges}
use Rattle.pw_trail.specs.declared.piece.TrailPiece.{TrailPiece}
use Rattle.pw_trail.specs.declared.piece.TrailPiece.TheVariants.{End, Body, Broken}

-- units before those that are read behind them
abbrev pub with_earlier_units : List UnitChanges → Result (List UnitChanges) ℕ → Result (List UnitChanges) ℕ
with_earlier_units units (Ok later) = Ok (units ++ later)
with_earlier_units units (Err place) = Err place

-- the bytes are records of these units: whatever stands behind them is read behind these
abbrev pub AreRecords : List FileInfo → List UnitChanges → List ℕ → Type 0
AreRecords files units front =
    (other : List ℕ) → units_from files 0 0 (front ++ other) ≡ with_earlier_units units (units_from files (length front) 0 other)

-- a trail of these units up to the zero gate at `end`, and nothing behind it, where all is synced
pub record IsSynced (files : List FileInfo) (bytes : List ℕ) (may_leave : List ℕ → Type 0) (end : ℕ)
    (units : List UnitChanges) : Type 0 where
  pub front : List ℕ
  pub records : AreRecords files units front
  pub is : bytes ≡ front ++ 0 ∷ []
  pub size : length front ≡ end
  pub durable : Only bytes may_leave

-- a crash leaves the units, or these with one more
abbrev pub IsBeforeOrAfter : List FileInfo → List UnitChanges → UnitChanges → List ℕ → Type 0
IsBeforeOrAfter files units unit image =
    (units_in files image ≡ Ok units) ⊎ (units_in files image ≡ Ok (units ++ unit ∷ []))

-- these bytes, and something behind them
pub record IsBehind (bytes image : List ℕ) : Type 0 where
  pub tail : List ℕ
  pub is : image ≡ bytes ++ tail

-- these bytes up to the gate, any gate, the record behind it, and something behind that
pub record IsGated (at : ℕ) (bytes rest image : List ℕ) : Type 0 where
  pub gate : ℕ
  pub tail : List ℕ
  pub is : image ≡ take at bytes ++ (gate ∷ (rest ++ tail))

-- what stands at a gate: the end of the trail, or a record's body, or neither
abbrev pub piece_in : List ℕ → Option (Option (List ℕ))
piece_in [] = None
piece_in (gate ∷ rest) = if gate == 0 then Some None else option_map Some (body_in rest)

-- the same as it was read
abbrev pub seen : TrailPiece → Option (Option (List ℕ))
seen End = Some None
seen (Body body) = Some (Some body.items)
seen Broken = None

-- what is staged behind the zero gate: a record, and a zero gate behind it
abbrev pub staged : UnitChanges → List ℕ
staged unit = framed (body_of unit) ++ 0 ∷ []

-- one unit more was taken, which was read
pub record HasTakenOne (read : Option UnitChanges) (old new : List UnitChanges → Type 0) : Type 0 where
  pub unit : UnitChanges
  pub is : read ≡ Some unit
  pub takes : (units : List UnitChanges) → old units → new (units ++ unit ∷ [])

-- the units of a trail were taken, and its zero gate is at `end`
pub record IsTrailRead (files : List FileInfo) (bytes : List ℕ) (Taken : List UnitChanges → Type 0) (end : ℕ) : Type 0 where
  pub units : List UnitChanges
  pub reads : units_in files bytes ≡ Ok units
  pub taken : Taken units
  pub records : AreRecords files units (take end bytes)
  pub gate : take (end + 1) bytes ≡ take end bytes ++ 0 ∷ []
  pub within : end + 1 ≤ length bytes

-- the units of a trail were taken, and it was cut behind its zero gate, which is at `end`
pub record IsRecovered (files : List FileInfo) (before : List ℕ) (Taken : List UnitChanges → Type 0) (now : List ℕ)
    (may_leave : List ℕ → Type 0) (end : ℕ) : Type 0 where
  pub units : List UnitChanges
  pub reads : units_in files before ≡ Ok units
  pub taken : Taken units
  pub synced : IsSynced files now may_leave end units

-- the units that were read, none where the bytes are no trail
abbrev pub those : Result (List UnitChanges) ℕ → List UnitChanges
those (Ok units) = units
those (Err place) = []

-- a trail up to the zero gate at `end`, and nothing behind it, where all is synced
pub record Keeps (files : List FileInfo) (bytes : List ℕ) (may_leave : List ℕ → Type 0) (end : ℕ) : Type 0 where
  pub records : AreRecords files (those (units_in files bytes)) (take end bytes)
  pub gate : bytes ≡ take end bytes ++ 0 ∷ []
  pub size : length bytes ≡ end + 1
  pub durable : Only bytes may_leave

-- the units that were read were taken
pub record HasUnits (Taken : List UnitChanges → Type 0) (read : Result (List UnitChanges) ℕ) : Type 0 where
  pub units : List UnitChanges
  pub reads : read ≡ Ok units
  pub taken : Taken units

-- An image has the units from before and a prefix of these: so many that were acknowledged, and at most one more.
pub record HasPrefix (files : List FileInfo) (before : Result (List UnitChanges) ℕ) (units : List UnitChanges) (acknowledged : ℕ) (image : List ℕ) : Type 0 where
  pub count : ℕ
  pub all : acknowledged ≤ count
  pub few : count ≤ acknowledged + 1
  pub within : count ≤ length units
  pub is : units_in files image ≡ with_units before (take count units)
