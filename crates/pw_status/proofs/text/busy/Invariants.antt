-- The processes so far are counted.
use Rattle.std.proofs.Common.{◌≡◌, ◌≤◌, ℕ}
use Rattle.pw_status.specs.Counts.{busy_to}
use Rattle.pw_paired.specs.State.{State}
use Rattle.pw_status.specs.Watching.{state_in, watched}
use Rattle.pw_status.proofs.text.busy.Given as goal

-- so many of the first n work
pub record AreBusy (state : State) (class n busy : ℕ) : Type 0 where
  pub is : busy ≡ busy_to state class n
  pub few : busy ≤ n

abbrev pub invariant-loop-process : goal.invariant-loop-process
invariant-loop-process l = AreBusy (state_in (watched l.world)) l.class l.process l.busy
