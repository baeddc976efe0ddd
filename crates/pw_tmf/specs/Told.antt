-- What a disc tells: all its meanings.
use Rattle.std.specs.Prelude.{ℕ, Bool, List, Option}
use Rattle.pw_code.specs.declared.lock.LockRule.{LockRule}
use Rattle.pw_locks.specs.declared.lock.Lock.{Lock}
use Rattle.pw_paired.specs.State.{BeforeImage, LastEnded}

-- An open unit: its number on its terminal, its birth, whether an attempt of it runs, and the
-- before-images of what the running attempt has changed, the last one first.
pub record ToldUnit : Type 0 where
  pub number : ℕ
  pub birth : ℕ
  pub running : Bool
  pub before : List BeforeImage

-- all that a disc tells
pub record Told : Type 0 where
  -- the rule of locking, how many terminals and files there are, and the length of each file's keys:
  -- no call changes these
  pub rule : LockRule
  pub terminals : ℕ
  pub file_count : ℕ
  pub key_length : ℕ → ℕ
  -- the records of each file with open changes
  pub files : ℕ → List (List ℕ)
  -- the locks in the order in which they were added
  pub locks : List Lock
  -- the open unit of each terminal, and its last ended one
  pub units : ℕ → Option ToldUnit
  pub ended : ℕ → LastEnded
  -- the faults so far
  pub faults : ℕ
  -- how many units have committed
  pub commits : ℕ
