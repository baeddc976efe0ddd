-- What is behind the lock of a run may go to any thread, wherever a disc and the name of the world may.
use denote.RattleType.{RattleType}
use denote.Param.Send.{IsSend, IsSync, sendable}
use Rattle.std.proofs.Crossing.{crosses}
use Rattle.pw_event.proofs.event.Event.TheSendSync as event
use Rattle.pw_world_store.proofs.keep.Keep.TheSendSync as keep
use Rattle.pw_world.specs.contracts.ledger.Ledger as Ledger
use Rattle.pw_world.specs.contracts.world.World as World
use Rattle.pw_world_model.specs.contracts.due.DueLines as DueLines
use Rattle.pw_world_model.proofs.task.Task.TheSendSync as task
use Rattle.pw_onecopy.specs.contracts.refresh.Refresh as Refresh
use Rattle.pw_actor_queue.specs.contracts.roster.Roster as Roster
use Rattle.pw_tmf.specs.declared.disc.Disc as Disc
use Rattle.pw_workers.proofs.lane.LinkLane.TheSendSync as lane
use Rattle.pw_workers.specs.contracts.shared.Shared as Shared
use Rattle.pw_workers.specs.contracts.workers.RunLock as Lock
use Rattle.pw_workers.specs.declared.shared.Naming as Naming

refresh : IsSend Refresh.the_row
refresh = search (sendable, crosses) depth 40

roster : IsSend Roster.the_row
roster = search (sendable, crosses) depth 40

due : IsSend DueLines.the_row
due = search (sendable, crosses) depth 40

ledger : IsSend Ledger.the_row
ledger = search (event.the_field_send, refresh, roster, due, sendable, crosses) depth 40

world : (D : RattleType) (g : Disc.Ghosts D.Denot) → IsSend D → IsSend (World.the_row D g)
world D g s = search (ledger, keep.the_send, sendable, crosses) depth 40

module _ (D N : RattleType) (g : Disc.Ghosts D.Denot) (n : Naming.Ghosts N.Denot) where
  shared : IsSend D → IsSend N → IsSend (Shared.the_row D N g n)
  shared s m = search (lane.the_field_send, task.the_field_send, world, sendable, crosses) depth 40

  -- so threads may share the lock
  pub lock : IsSend D → IsSend N → IsSync (Lock.the_row D N g n)
  lock s m = search (shared, sendable, crosses) depth 40
