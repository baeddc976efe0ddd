-- How long a disk lives, where it tells.
use Rattle.std.specs.Prelude.{◌≡◌, ℕ, zero, suc, ◌-◌, ◌<◌, ◌≤◌, Bool, true, false, Result, Ok, Err}
use Rattle.pw_volume.specs.declared.fault.WriteFault.{WriteFault}
use Rattle.pw_volume.specs.declared.fault.WriteFault.TheVariants as fault

-- how long a disk lives
pub data Life : Type 0 where
  -- it does not tell
  Untold : Life
  -- no call of it fails
  Endless : Life
  -- so many more writes, cuts and syncs pass, and every call behind these fails
  Calls : (left : ℕ) → Life

-- whether a call failed, as the life before it has it
abbrev pub Lives : Life → Bool → Type 0
Lives Untold failed = Unit {0}
Lives Endless failed = failed ≡ false
Lives (Calls zero) failed = failed ≡ true
Lives (Calls (suc left)) failed = failed ≡ false

-- one write, cut or sync fewer passes
abbrev pub spent : Life → Life
spent Untold = Untold
spent Endless = Endless
spent (Calls zero) = Calls zero
spent (Calls (suc left)) = Calls left

-- a write failed, other than by want of memory
abbrev pub has_failed : Result Unit WriteFault → Bool
has_failed (Ok done) = false
has_failed (Err fault.Failed) = true
has_failed (Err fault.Memory) = false

-- so many writes, cuts and syncs have passed
abbrev pub Passes : ℕ → Life → Life → Type 0
Passes n Untold now = Unit {0}
Passes n Endless now = now ≡ Endless
Passes n (Calls left) now = (n ≤ left) × (now ≡ Calls (left - n))

-- one of so many has failed
abbrev pub OneCallFails : ℕ → Life → Life → Type 0
OneCallFails n Untold now = Unit {0}
OneCallFails n Endless now = ⊥
OneCallFails n (Calls left) now = (left < n) × (now ≡ Calls 0)
