use Rattle.std.proofs.Common.{◌≡◌, None, replicate}
use Rattle.pw_class.proofs.queue.Queue.new.Given as goal

abbrev pub invariant-loop : goal.invariant-loop
invariant-loop l = l.busy.items ≡ replicate l.counter None
