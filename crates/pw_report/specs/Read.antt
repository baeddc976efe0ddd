-- The first entries of a log are read for its serial order.
use Rattle.std.specs.Prelude.{◌≡◌, ℕ, List, take}
use Rattle.pw_event.specs.declared.event.Event.{Event}
use Rattle.pw_onecopy.specs.Behaviour.{Behaviour}
use Rattle.pw_serial_order.specs.Entries.{Shadow}
use Rattle.pw_serial_order.specs.Order.{entry_order}
use Rattle.pw_serial_order.specs.Shadow.{ShadowStands}
use Rattle.pw_serial_order.specs.declared.block.Block.{Block}
use Rattle.pw_tmf.specs.Told.{Told}
use Rattle.pw_world.specs.States.{WorldState, seen}
use Rattle.pw_world_model.specs.Seen.{sys_of}

-- what the reading keeps stands behind the first n entries, and these are their blocks
pub record IsReadTo (sys : Behaviour) (log : List Event) (n : ℕ) (reading : Shadow) (order : List Block) : Type 0 where
  pub stands : ShadowStands sys (take n log) reading
  pub blocks : order ≡ entry_order sys (take n log)

-- so much is read of the log of a world
pub record IsWorldReadTo {D : Type 0} (told : D → Told) (world : WorldState D) (n : ℕ) (reading : Shadow) (order : List Block) : Type 0 where
  pub read : IsReadTo (sys_of (seen told world)) world.ledger.log n reading order
