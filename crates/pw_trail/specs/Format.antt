-- The format of a trail: records, then a zero byte, then anything. A record is a gate byte other than zero, the length
-- of a body in four bytes, and the body.
use Rattle.std.specs.Prelude.{ℕ, zero, suc, ◌+◌, ◌==◌, List, [], ◌∷◌, ◌++◌, length, take, drop, Option, Some, None, Result, Ok, Err, nat_lt, if◌then◌else◌}
use Rattle.std.specs.Int.{w32, to_be_bytes, from_be_bytes}
use Rattle.pw_code.specs.declared.file.FileInfo.{FileInfo}
use Rattle.pw_image.specs.Reading.{◌>>=◌}
use Rattle.pw_trail.specs.Body.{unit_in}
use Rattle.pw_trail.specs.declared.changes.UnitChanges.{UnitChanges}

-- the length that the first four bytes tell
unfoldable pub size_of : List ℕ → ℕ
size_of bytes = from_be_bytes w32 bytes

-- the body behind its length, none where it is cut short
abbrev pub body_in : List ℕ → Option (List ℕ)
body_in bytes =
    if nat_lt (length bytes) (4 + size_of bytes) then None else Some (take (size_of bytes) (drop 4 bytes))

-- the unit of the record whose gate stands before these bytes, none where they are no such record
abbrev pub recorded : List FileInfo → List ℕ → Option UnitChanges
recorded files bytes = body_in bytes >>= λ body. unit_in files body

-- one unit more before those of a trail, or the place where the trail ends amiss
abbrev pub with_first : Option UnitChanges → ℕ → Result (List UnitChanges) ℕ → Result (List UnitChanges) ℕ
with_first None place later = Err place
with_first (Some unit) place (Ok units) = Ok (unit ∷ units)
with_first (Some unit) place (Err at) = Err at

-- the units of a trail from the byte at a place on, whose next gate stands behind so many bytes
abbrev pub units_from : List FileInfo → ℕ → ℕ → List ℕ → Result (List UnitChanges) ℕ
units_from files place passed [] = Err place
units_from files place (suc passed) (byte ∷ rest) = units_from files (place + 1) passed rest
units_from files place zero (gate ∷ rest) =
    if gate == 0 then Ok []
    else with_first (recorded files rest) place (units_from files (place + 1) (4 + size_of rest) rest)

-- The units of a trail in order; or, where the bytes are not in the format, the place of the gate of the first record
-- outside it, or the length where the zero byte is missing.
abbrev pub units_in : List FileInfo → List ℕ → Result (List UnitChanges) ℕ
units_in files bytes = units_from files 0 0 bytes

-- what stands behind the gate of a record: its length and its body
abbrev pub framed : List ℕ → List ℕ
framed body = to_be_bytes w32 (length body) ++ body

-- the units of a trail with one more behind them
abbrev pub with_last : Result (List UnitChanges) ℕ → UnitChanges → Result (List UnitChanges) ℕ
with_last (Ok units) unit = Ok (units ++ unit ∷ [])
with_last (Err place) unit = Err place

-- and with some more
abbrev pub with_units : Result (List UnitChanges) ℕ → List UnitChanges → Result (List UnitChanges) ℕ
with_units (Ok units) more = Ok (units ++ more)
with_units (Err place) more = Err place
