-- That a change of one byte of what a summed disk has below is found.
use Rattle.std.specs.Prelude.{◌≡◌, ◌≢◌, ◌⊎◌, ℕ, ◌^◌, ◌<◌, List, [], ◌∷◌, ◌++◌, length, slice_index, slice_set, None, IsErr}
use Rattle.pw_summed_disk.specs.Extents.{content_of, open_gate, piece_in, sealed, shut_gate}

-- the extents of some pieces
abbrev pub extents_of : List (List ℕ) → List ℕ
extents_of [] = []
extents_of (piece ∷ pieces) = open_gate ++ (sealed piece ++ extents_of pieces)

-- the length of each piece is one of four bytes
abbrev pub AreSmall : List (List ℕ) → Type 0
AreSmall [] = Unit {0}
AreSmall (piece ∷ pieces) = (length piece < 2 ^ 32) × AreSmall pieces

-- the bytes are refused, or they are read as those from before
abbrev pub IsRefusedOrSame : List ℕ → List ℕ → Type 0
IsRefusedOrSame bytes before = (content_of bytes ≡ content_of before) ⊎ IsErr (content_of bytes)

-- A change of one byte of extents, before a shut gate and anything behind it, is found, or it changes nothing of what is read.
abbrev pub FindsChanges : Type 0
FindsChanges =
    (pieces : List (List ℕ)) (tail : List ℕ) (place byte : ℕ) → AreSmall pieces → place < length (extents_of pieces)
    → slice_index (extents_of pieces) place < 256 → byte < 256 → byte ≢ slice_index (extents_of pieces) place
    → IsRefusedOrSame (slice_set (extents_of pieces) place byte ++ (shut_gate ++ tail)) (extents_of pieces ++ (shut_gate ++ tail))

-- A sealed piece of which one byte is changed is none, whatever stands behind it.
abbrev pub RefusesChanges : Type 0
RefusesChanges =
    (piece other : List ℕ) (place byte : ℕ) → length piece < 2 ^ 32 → place < length (sealed piece)
    → slice_index (sealed piece) place < 256 → byte < 256 → byte ≢ slice_index (sealed piece) place
    → piece_in (slice_set (sealed piece) place byte ++ other) ≡ None
