-- The extents so far have the content so far.
use Rattle.std.proofs.Common.{◌≤◌, ◌-◌, length, take}
use Rattle.pw_summed_disk.specs.Summed.{AreExtents}
use Rattle.pw_summed_disk.proofs.read.read_content.Given as goal

abbrev pub invariant-loop-at : goal.invariant-loop-at
invariant-loop-at l = record {
  within : l.at ≤ length l.below;
  extents : AreExtents (take l.at l.below) l.content;
}

abbrev pub decreases-loop-at : goal.decreases-loop-at
decreases-loop-at l = length l.below - l.at
