-- What it is to be the free process of smallest number.
use Rattle.std.specs.Prelude.{◌≡◌, ℕ, ◌<◌, ◌≤◌, length, None, IsSome}
use Rattle.pw_class.specs.Queue.{Queue, at_process}

-- there is a process of this number, it is free, and those of smaller numbers are busy
pub record IsFirstFree (queue : Queue) (process : ℕ) : Type 0 where
  pub from_one : 1 ≤ process
  pub there : process ≤ length queue.busy
  pub free : at_process queue process ≡ None
  pub smaller_busy : (other : ℕ) → 1 ≤ other → other < process → IsSome (at_process queue other)
