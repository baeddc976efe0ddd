-- What holds of the output for a schedule, whatever its events are.
use Rattle.std.specs.Prelude.{◌≡◌, ◌≢◌, ℕ, List, Some, Ok}
use Rattle.pw_net.specs.Agreement.{IsSystemOf, IsOther, HasPrepared}
use Rattle.pw_net.specs.World.{net_world_after, mark_at}
use Rattle.pw_net.specs.declared.message.Mark.TheVariants.{Committed, Aborted}
use Rattle.pw_net.specs.declared.message.NetId.{NetId}
use Rattle.pw_expand.specs.Printed.{expanded, world_text}
use Rattle.pw_expand.specs.Schedule.{Schedule, schedule_of}

-- A text is that of a world in which the systems of each transaction agree: where one has
-- committed it, no other has aborted it, and each of them but the home is prepared or has committed it.
pub record Agrees (text : List ℕ) (schedule : Schedule) : Type 0 where
  pub is : text ≡ world_text schedule.systems (net_world_after schedule.events)
  pub agree : (id : NetId) (one other : ℕ) → mark_at (net_world_after schedule.events) one id ≡ Some Committed
      → IsSystemOf schedule.events id other → mark_at (net_world_after schedule.events) other id ≢ Some Aborted
  pub voted : (id : NetId) (one other : ℕ) → mark_at (net_world_after schedule.events) one id ≡ Some Committed
      → IsOther schedule.events id other → other ≢ id.home → HasPrepared (net_world_after schedule.events) other id

-- the systems agree in every output
abbrev pub OutputsAgree : Type 0
OutputsAgree = (bytes text : List ℕ) → expanded bytes ≡ Ok text
    → (schedule : Schedule) × (schedule_of bytes ≡ Ok schedule) × Agrees text schedule
