use Rattle.std.proofs.Common.{◌≡◌, None, replicate}
use Rattle.pw_world_store.proofs.job.Jobs.new.Given as goal

abbrev pub invariant-loop : goal.invariant-loop
invariant-loop l = l.jobs.items ≡ replicate l.counter None
