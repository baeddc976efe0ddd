-- The register of the numbers of locks, by their places and by their units.
use Rattle.std.specs.Prelude.{◌≡◌, ℕ, Bool, true, false, Option, None, Some}
use Rattle.std.specs.BTreeMap.{BTreeMap, get, IsOrdered}
use Rattle.std.specs.Ordering.{nat_cmp, ordering_then}
use Rattle.std.specs.declared.cmp.Ordering.{Ordering}
use Rattle.pw_code.specs.declared.unit.Unit as unit
use Rattle.pw_locks.specs.Conflicts.{is_same_unit}
use Rattle.pw_locks.specs.Indexes.{is_filed}
use Rattle.pw_locks.specs.Places.{is_in_file}
use Rattle.pw_locks.specs.declared.lock.Lock.{Lock}
use Rattle.pw_locks.specs.declared.register.LockRegister.{LockRegister}

-- what a unit is known by, and the order of that
abbrev pub name_of : unit.Unit → ℕ × ℕ
name_of unit = (unit.terminal, unit.number)

-- the order of units by terminal, and of one terminal by number
abbrev pub name_cmp : ℕ × ℕ → ℕ × ℕ → Ordering
name_cmp a b = ordering_then (nat_cmp a.0 b.0) (nat_cmp a.1 b.1)

-- the number is filed by the lock's place and by its unit
pub record IsEntered (register : LockRegister) (n : ℕ) (lock : Lock) : Type 0 where
  pub placed : is_in_file register.places.files lock.file lock.span n ≡ true
  pub owned : is_filed name_cmp register.units.numbers (name_of lock.unit) n ≡ true

-- the locks are in the order of their numbers, and each is in the register
pub record IsRegistered (locks : BTreeMap ℕ Lock) (register : LockRegister) : Type 0 where
  pub ordered : IsOrdered nat_cmp locks
  pub entered : (n : ℕ) (held : Lock) → get nat_cmp locks n ≡ Some held → IsEntered register n held

-- a look-up found a lock, and it is the unit's
abbrev pub is_held_by : unit.Unit → Option Lock → Bool
is_held_by unit None = false
is_held_by unit (Some held) = is_same_unit held.unit unit
