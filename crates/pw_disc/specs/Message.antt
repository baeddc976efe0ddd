-- A disc message: how a call of a disc is spelled.
use Rattle.std.specs.Prelude.{ℕ, Bool, List, [], ◌∷◌, ◌++◌, length, Option, Some, None}
use Rattle.std.specs.Int.{w32, w64, to_be_bytes}
use Rattle.std.specs.List.{flat_map}
use Rattle.pw_code.specs.declared.file.FileCall.{FileCall}
use Rattle.pw_code.specs.declared.file.FileOp.{FileOp}
use Rattle.pw_code.specs.declared.file.FileOp.TheVariants.{Read, Next, Write, Rewrite, Delete, ReadLock, NextLock}
use Rattle.pw_code.specs.declared.unit.Unit as unit
use Rattle.pw_disc.specs.declared.call.DiscCall.{DiscCall}
use Rattle.pw_disc.specs.declared.call.DiscCall.TheVariants.{Begin, Operate, Commit, BackOut}
use Rattle.pw_image.specs.Image.{truth}

-- a unit: its terminal, its number there, and its birth
abbrev pub unit_bytes : unit.Unit → List ℕ
unit_bytes unit =
    to_be_bytes w32 unit.terminal ++ (to_be_bytes w32 unit.number ++ to_be_bytes w64 unit.birth)

-- bytes behind their length
abbrev pub piece_bytes : List ℕ → List ℕ
piece_bytes piece = to_be_bytes w32 (length piece) ++ piece

-- an operation as a byte
abbrev pub op_byte : FileOp → ℕ
op_byte Read = 0
op_byte Next = 1
op_byte Write = 2
op_byte Rewrite = 3
op_byte Delete = 4
op_byte ReadLock = 5
op_byte NextLock = 6

-- an operation on a file: the file, the operation, the key and the content
abbrev pub file_call_bytes : FileCall → List ℕ
file_call_bytes call =
    to_be_bytes w32 call.file
    ++ (op_byte call.op ∷ [] ++ (piece_bytes call.key ++ piece_bytes call.content))

-- a reply, if there is one
abbrev pub reply_bytes : Option (List ℕ) → List ℕ
reply_bytes None = 0 ∷ []
reply_bytes (Some reply) = 1 ∷ [] ++ piece_bytes reply

-- units: the first one, whether they end, how many more there are, and these
abbrev pub units_bytes : List unit.Unit → Bool → List ℕ
units_bytes [] ends = []
units_bytes (first ∷ others) ends =
    unit_bytes first
    ++ (truth ends ∷ [] ++ (to_be_bytes w32 (length others) ++ flat_map unit_bytes others))

-- a call's kind as a byte
abbrev pub kind_byte : DiscCall → ℕ
kind_byte (Begin unit) = 1
kind_byte (Operate unit call) = 2
kind_byte (Commit unit reply) = 3
kind_byte (BackOut units ends) = 4

-- what stands behind the kind
abbrev pub rest_bytes : DiscCall → List ℕ
rest_bytes (Begin unit) = unit_bytes unit
rest_bytes (Operate unit call) = unit_bytes unit ++ file_call_bytes call
rest_bytes (Commit unit reply) = unit_bytes unit ++ reply_bytes reply
rest_bytes (BackOut units ends) = units_bytes units ends

-- the message of a call
abbrev pub message_of : DiscCall → List ℕ
message_of call = kind_byte call ∷ rest_bytes call
