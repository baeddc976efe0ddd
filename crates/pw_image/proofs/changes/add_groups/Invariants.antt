use Rattle.std.proofs.Common.{◌≡◌, ◌≤◌, ◌-◌, ◌++◌}
use Rattle.pw_image.specs.Records.{changed_between}
use Rattle.pw_image.proofs.changes.add_groups.Given as goal

abbrev pub invariant-loop-from : goal.invariant-loop-from
invariant-loop-from l = record {
  within : l.from ≤ l.count;
  put : l.changed.items ≡ l.initial.changed.items ++ changed_between l.old l.new 0 l.from;
}

abbrev pub decreases-loop-from : goal.decreases-loop-from
decreases-loop-from l = l.count - l.from
