use Rattle.std.proofs.Common.{◌≡◌, ◌++◌, map, take, drop}
use Rattle.pw_world_store.specs.Jobs.{dropped_for}
use Rattle.pw_world_store.proofs.pieces.drop_jobs.Given as goal

abbrev pub invariant-loop-class : goal.invariant-loop-class
invariant-loop-class l =
    l.class-items ≡ map (map (dropped_for l.terminal)) (take l.class-index l.initial.class-items) ++ drop l.class-index l.initial.class-items
