-- What a disc over such a log keeps.
use Rattle.std.specs.Prelude.{◌≡◌, ℕ, ◌^◌, ◌-◌, false, List, ◌++◌, length, min}
use Rattle.pw_group_commit.specs.Grouped.{GroupState, added_units}
use Rattle.pw_tmf.specs.Committed.{committed}
use Rattle.pw_tmf.specs.Faulty.{with_faults}
use Rattle.pw_tmf.specs.Tmf.{TmfState, told_of}
use Rattle.pw_tmf.specs.Told.{Told}
use Rattle.pw_trail.specs.Files.{files_after}
use Rattle.pw_trail.specs.Orderly.{IsOrderly}
use Rattle.pw_trail.specs.Restoring.{HasFiles}
use Rattle.pw_trail.specs.declared.changes.UnitChanges.{UnitChanges}

-- what contracts see of it: its log, how often a call has answered Failed, and its records
pub record DiscState (S : Type 0) : Type 0 where
  pub log : GroupState S
  pub faults : ℕ
  pub tmf : TmfState

abbrev pub disc_state : {S : Type 0} → GroupState S → ℕ → TmfState → DiscState S
disc_state log faults tmf = record { log = log; faults = faults; tmf = tmf }

-- what it tells
abbrev pub told_in : {S : Type 0} → DiscState S → Told
told_in disc = with_faults disc.faults (told_of disc.tmf)

-- The units from before and those that were added lead to the committed records, and each that was added was counted as one
-- that committed. A call has failed only where the disk has.
pub record IsGroupDisc {S : Type 0} (settled : S → List ℕ) (before : List UnitChanges) (disc : DiscState S) : Type 0 where
  pub of : HasFiles disc.log.files (told_of disc.tmf)
  pub orderly : ∥ IsOrderly (told_of disc.tmf) ∥₁
  pub leads : files_after disc.log.files (before ++ added_units settled before disc.log) ≡ committed (told_of disc.tmf)
  pub commits : min (length (added_units settled before disc.log)) (2 ^ 64 - 1) ≡ (told_of disc.tmf).commits
  pub sound : disc.log.is_broken ≡ false → disc.faults ≡ 0
