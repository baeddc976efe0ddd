use Rattle.std.proofs.Common.{◌≡◌, map, take}
use Rattle.pw_world_store.specs.Starting.{no_jobs_for}
use Rattle.pw_world_store.proofs.starting.no_jobs.Given as goal

abbrev pub invariant-loop-class : goal.invariant-loop-class
invariant-loop-class l = l.jobs.items ≡ map no_jobs_for (take l.class-index l.classes)
