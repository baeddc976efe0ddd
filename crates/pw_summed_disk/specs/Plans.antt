-- What a change of a summed disk writes below.
use Rattle.std.specs.Prelude.{◌≡◌, ◌⊎◌, ℕ, ◌+◌, ◌-◌, ◌^◌, ◌<◌, List, [], ◌∷◌, ◌++◌, length}
use Rattle.pw_summed_disk.specs.Extents.{open_gate, sealed, shut_gate}
use Rattle.pw_summed_disk.specs.declared.plan.PlannedWrite.{PlannedWrite}
use Rattle.pw_summed_disk.specs.declared.plan.DiskStanding.{DiskStanding}
use Rattle.pw_summed_disk.specs.declared.plan.Below.{Below}
use Rattle.pw_summed_disk.specs.declared.plan.Below.TheVariants.{Open, Sealed}
use Rattle.pw_summed_disk.specs.declared.plan.Behind.TheVariants.{Nothing, Staged}

-- the bytes that are written
abbrev pub bytes_below : Below → List ℕ
bytes_below (Sealed bytes) = bytes
bytes_below Open = open_gate

-- a piece with a shut gate behind it is sealed behind the shut gate below
pub record IsStaging (standing : DiskStanding) (piece : List ℕ) (plan : PlannedWrite) : Type 0 where
  pub front : List ℕ
  pub piece_is : piece ≡ front ++ 0 ∷ []
  pub place_is : plan.place ≡ standing.gate + 4
  pub below_is : bytes_below plan.below ≡ sealed front ++ shut_gate
  pub next_is : plan.next ≡ record standing { known = Staged }
  pub small : length front < 2 ^ 32
  pub fits : standing.gate + (24 + length front) < 2 ^ 64

-- the gate before the staged piece is opened, and the one behind it is now the shut gate
pub record IsOpening (standing : DiskStanding) (total : ℕ) (plan : PlannedWrite) : Type 0 where
  pub place_is : plan.place ≡ standing.gate
  pub below_is : bytes_below plan.below ≡ open_gate
  pub next_is : plan.next ≡ record { end = total - 1; gate = standing.gate + (18 + (total - standing.end)); known = Nothing }

-- the same, where nothing stands behind the shut gate, and where something is staged
pub record IsStagingAt (standing : DiskStanding) (total at : ℕ) (piece : List ℕ) (plan : PlannedWrite) : Type 0 where
  pub known : standing.known ≡ Nothing
  pub at_is : at ≡ total
  pub staging : IsStaging standing piece plan

pub record IsOpeningAt (standing : DiskStanding) (total at : ℕ) (piece : List ℕ) (plan : PlannedWrite) : Type 0 where
  pub known : standing.known ≡ Staged
  pub at_is : at ≡ standing.end
  pub piece_is : piece ≡ 1 ∷ []
  pub opening : IsOpening standing total plan

-- one of the two
abbrev pub IsPlan : DiskStanding → ℕ → ℕ → List ℕ → PlannedWrite → Type 0
IsPlan standing total at piece plan = IsStagingAt standing total at piece plan ⊎ IsOpeningAt standing total at piece plan
