-- The seats of a row of decks/applications/seats.deck, and that none which was sold changes its holder.
use Rattle.std.specs.Prelude.{◌≡◌, ◌≢◌, ℕ, ◌+◌, ◌*◌, ◌<◌, List, Some, take, drop, codes}
use Rattle.pw_files.specs.Records.{record_at}
use Rattle.pw_picture.specs.Text.{fitted}

-- the holder of a seat of a row, from 0 to 3: six characters behind the key of six, and behind a space, a letter and a colon
abbrev pub holder_in : ℕ → List ℕ → List ℕ
holder_in seat row = take 6 (drop (9 + 9 * seat) (fitted 42 row))

-- each seat that had a holder has the same
abbrev pub KeepsHolders : List ℕ → List ℕ → Type 0
KeepsHolders row now =
    (seat : ℕ) → seat < 4 → holder_in seat row ≢ codes "......" → holder_in seat now ≡ holder_in seat row

-- each row is still there, and keeps its holders
abbrev pub KeepsSeats : List (List ℕ) → List (List ℕ) → Type 0
KeepsSeats before after =
    (key row : List ℕ) → record_at 6 before key ≡ Some row
    → (now : List ℕ) × (record_at 6 after key ≡ Some now) × KeepsHolders row now
