-- The format of a summed disk: extents, then a shut gate, then anything. An extent is an open gate and a sealed piece: its length,
-- twice, in four bytes each, its sum in eight, and the piece. A gate is four bytes, `OPEN` or `SHUT`; any others are open.
use Rattle.std.specs.Prelude.{ℕ, zero, suc, ◌+◌, ◌==◌, ◌&&◌, List, [], ◌∷◌, ◌++◌, length, take, drop, Option, Some, None, Result, Ok, Err, nat_lt, if◌then◌else◌}
use Rattle.std.specs.Int.{w32, w64, to_be_bytes, from_be_bytes}
use Rattle.pw_summed_disk.specs.Sums.{sum_of}

-- the gates
abbrev pub open_gate : List ℕ
open_gate = 79 ∷ 80 ∷ 69 ∷ 78 ∷ []

abbrev pub shut_gate : List ℕ
shut_gate = 83 ∷ 72 ∷ 85 ∷ 84 ∷ []

-- a sealed piece
abbrev pub sealed : List ℕ → List ℕ
sealed piece = to_be_bytes w32 (length piece) ++ (to_be_bytes w32 (length piece) ++ (to_be_bytes w64 (sum_of piece) ++ piece))

-- the number that the first four bytes are, and the first eight
unfoldable pub word_of : List ℕ → ℕ
word_of bytes = from_be_bytes w32 bytes

unfoldable pub sum_in : List ℕ → ℕ
sum_in bytes = from_be_bytes w64 bytes

-- the piece that is sealed in the first bytes, none where they are no sealed piece
abbrev pub piece_in : List ℕ → Option (List ℕ)
piece_in bytes =
    if nat_lt (length bytes) (16 + word_of bytes) then None
    else if word_of (drop 4 bytes) == word_of bytes && sum_in (drop 8 bytes) == sum_of (take (word_of bytes) (drop 16 bytes))
    then Some (take (word_of bytes) (drop 16 bytes)) else None

-- what stands behind a shut gate: a piece that was staged, with its gate, where it is whole
abbrev pub staged : Option (List ℕ) → List ℕ
staged None = []
staged (Some piece) = piece ++ 0 ∷ []

-- a gate and a piece before what is read behind them, or the place of the gate where there is none
abbrev pub with_piece : Option (List ℕ) → ℕ → Result (List ℕ) ℕ → Result (List ℕ) ℕ
with_piece None place later = Err place
with_piece (Some piece) place (Ok later) = Ok (1 ∷ (piece ++ later))
with_piece (Some piece) place (Err at) = Err at

-- what stands at a gate, before what is read behind it
abbrev pub at_gate : List ℕ → ℕ → Result (List ℕ) ℕ → Result (List ℕ) ℕ
at_gate bytes place later =
    if word_of bytes == word_of shut_gate then Ok (0 ∷ staged (piece_in (drop 4 bytes)))
    else with_piece (piece_in (drop 4 bytes)) place later

-- the content from the byte at a place on, whose next gate stands behind so many bytes
abbrev pub content_from : ℕ → ℕ → List ℕ → Result (List ℕ) ℕ
content_from place passed [] = Err place
content_from place (suc passed) (byte ∷ rest) = content_from (place + 1) passed rest
content_from place zero (byte ∷ rest) =
    at_gate (byte ∷ rest) place (content_from (place + 1) (19 + word_of (drop 3 rest)) rest)

-- The content of a summed disk: for each extent a byte 1 and its piece, a byte 0 for the shut gate, and what is staged behind
-- it; or the place of the gate of the first extent that is damaged.
abbrev pub content_of : List ℕ → Result (List ℕ) ℕ
content_of bytes = content_from 0 0 bytes
