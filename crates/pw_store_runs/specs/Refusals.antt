-- Why the trail of a store is not opened.
use Rattle.std.specs.Prelude.{◌≡◌, ℕ, List, Err}
use Rattle.pw_base.specs.Outside.{Rose}
use Rattle.pw_code.specs.declared.file.FileInfo.{FileInfo}
use Rattle.pw_store_runs.specs.declared.ending.StoreFault.{StoreFault}
use Rattle.pw_store_runs.specs.declared.ending.StoreFault.TheVariants.{Damaged, Failed, Memory}
use Rattle.pw_trail.specs.Format.{units_in}

-- the bytes are damaged at a place; or the disk's count of faults rose; or memory ran out
abbrev pub RefusesTrail : {S : Type 0} → (S → ℕ) → ℕ → List FileInfo → List ℕ → StoreFault S → Type 0
RefusesTrail faulted least files bytes (Damaged at) = units_in files bytes ≡ Err at
RefusesTrail faulted least files bytes (Failed disk) = Rose least (faulted disk)
RefusesTrail faulted least files bytes Memory = Unit {0}
RefusesTrail faulted least files bytes _ = ⊥
