use Rattle.std.proofs.Common.{◌≡◌, ◌++◌}
use Rattle.pw_image.specs.Records.{changed_between}
use Rattle.pw_image.proofs.changes.add_each.Given as goal

abbrev pub invariant-loop-place : goal.invariant-loop-place
invariant-loop-place l = l.changed.items ≡ l.initial.changed.items ++ changed_between l.old l.new l.from l.place
