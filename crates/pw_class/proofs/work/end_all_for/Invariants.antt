use Rattle.std.proofs.Common.{◌≡◌, ◌++◌, map, take, drop}
use Rattle.pw_class.specs.Queue.{busy_without}
use Rattle.pw_class.proofs.work.end_all_for.Given as goal

abbrev pub invariant-loop-work : goal.invariant-loop-work
invariant-loop-work l =
    l.work-items ≡ map (busy_without l.terminal) (take l.work-index l.initial.work-items) ++ drop l.work-index l.initial.work-items
