use Rattle.std.proofs.Common.{◌≡◌, ◌++◌, map, take, drop}
use Rattle.pw_world_store.specs.Jobs.{dropped_for}
use Rattle.pw_world_store.proofs.job.Jobs.drop_for.Given as goal

abbrev pub invariant-loop-job : goal.invariant-loop-job
invariant-loop-job l =
    l.job-items ≡ map (dropped_for l.terminal) (take l.job-index l.initial.job-items) ++ drop l.job-index l.initial.job-items
