-- The entries so far are pushed, and a run.
use Rattle.std.proofs.Common.{take}
use Rattle.pw_status.proofs.WatchCounting.{IsPushedTo}
use Rattle.pw_status.proofs.status.count_over.Given as goal

abbrev pub invariant-loop-event : goal.invariant-loop-event
invariant-loop-event l = IsPushedTo l.initial.watch.system l.initial.watch.script (take l.event-index l.log) l.watch
