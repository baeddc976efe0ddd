-- What contracts see of a summed disk, and what it keeps.
use Rattle.std.specs.Prelude.{◌≡◌, ℕ, ◌+◌, ◌-◌, ◌^◌, ◌<◌, Bool, true, List, [], ◌∷◌, ◌++◌, length, take, drop, Result, Ok, Err}
use Rattle.pw_volume.specs.Crash.{Only}
use Rattle.pw_summed_disk.specs.Extents.{content_from, content_of, piece_in, sealed, shut_gate, staged}
use Rattle.pw_summed_disk.specs.declared.plan.DiskStanding.{DiskStanding}
use Rattle.pw_summed_disk.specs.declared.plan.Behind.TheVariants.{Nothing, Staged}

-- what is read of bytes, none where they are damaged
abbrev pub read_of : Result (List ℕ) ℕ → List ℕ
read_of (Ok content) = content
read_of (Err place) = []

abbrev pub content : List ℕ → List ℕ
content bytes = read_of (content_of bytes)

-- the images of a summed disk: what the images of the disk below it are read as
pub record IsReadImage (may_leave : List ℕ → Type 0) (image : List ℕ) : Type 0 where
  pub below : List ℕ
  pub may : may_leave below
  pub is : image ≡ content below

-- none of the images is damaged
abbrev pub AreWhole : (List ℕ → Type 0) → Type 0
AreWhole may_leave = (below : List ℕ) → may_leave below → content_of below ≡ Ok (content below)

-- content before what is read behind it
abbrev pub behind : List ℕ → Result (List ℕ) ℕ → Result (List ℕ) ℕ
behind front (Ok later) = Ok (front ++ later)
behind front (Err place) = Err place

-- the bytes are extents of this content: whatever stands behind them is read behind it
abbrev pub AreExtents : List ℕ → List ℕ → Type 0
AreExtents bytes front =
    (other : List ℕ) → content_of (bytes ++ other) ≡ behind front (content_from (length bytes) 0 other)

-- the piece that stands behind the gate at `end` of content, without the gate behind it
abbrev pub last_piece : ℕ → List ℕ → List ℕ
last_piece end bytes = take (length bytes - (end + 2)) (drop (end + 1) bytes)

-- The bytes below are extents up to the shut gate at `gate`, and their content is the bytes, whose last gate is at `end`.
pub record IsSummedFile (gate end : ℕ) (bytes below : List ℕ) : Type 0 where
  pub extents : AreExtents (take gate below) (take end bytes)
  pub below_is : below ≡ take gate below ++ (shut_gate ++ drop (gate + 4) below)
  pub bytes_are : bytes ≡ take end bytes ++ (0 ∷ staged (piece_in (drop (gate + 4) below)))
  pub gate_is : length (take gate below) ≡ gate
  pub end_is : length (take end bytes) ≡ end

-- What a summed disk keeps until a fault: its bytes are the content of what is below; a crash leaves nothing else where it is
-- synced; and what it knows of what stands behind the shut gate.
pub record KeepsSummed (is_synced : Bool) (standing : DiskStanding) (bytes below : List ℕ) (may_leave : List ℕ → Type 0) : Type 0 where
  pub file : IsSummedFile standing.gate standing.end bytes below
  pub synced : is_synced ≡ true → Only below may_leave
  pub nothing : standing.known ≡ Nothing → drop (standing.gate + 4) below ≡ []
  pub staged : standing.known ≡ Staged → drop (standing.gate + 4) below ≡ sealed (last_piece standing.end bytes) ++ shut_gate
  pub small : standing.known ≡ Staged → length (last_piece standing.end bytes) < 2 ^ 32
  pub fits : standing.gate + 4 < 2 ^ 64
  pub next_fits : standing.known ≡ Staged → standing.gate + (24 + length (last_piece standing.end bytes)) < 2 ^ 64
