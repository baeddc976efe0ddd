-- The world is that behind the entries so far.
use Rattle.std.proofs.Common.{take}
use Rattle.pw_world.specs.States.{seen}
use Rattle.pw_world_model.specs.Calls.{IsReplayed}
use Rattle.pw_world.proofs.world.World.replay.Given as goal

abbrev pub invariant-loop-event : goal.invariant-loop-event
invariant-loop-event g l =
    IsReplayed l.fn.system l.fn.script.lines (g.D.Disc.told l.fn.disc) (take l.event-index l.log)
    (seen g.D.Disc.told l.world)
