use Rattle.std.proofs.Common.{◌≡◌, ◌++◌, map, take, drop}
use Rattle.pw_class.specs.Queue.{without}
use Rattle.pw_class.proofs.classes.cancel_all.Given as goal

abbrev pub invariant-loop-queue : goal.invariant-loop-queue
invariant-loop-queue l =
    l.queue-items ≡ map (without l.terminal) (take l.queue-index l.initial.queue-items) ++ drop l.queue-index l.initial.queue-items
