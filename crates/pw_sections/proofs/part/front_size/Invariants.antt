use Rattle.std.proofs.Common.{◌≡◌, ◌+◌, ◌-◌, ◌≤◌, length, drop}
use Rattle.pw_sections.specs.Parts.{cut, starts}
use Rattle.pw_sections.proofs.part.front_size.Given as goal

abbrev pub invariant-loop-at : goal.invariant-loop-at
invariant-loop-at l = record {
  within : l.at ≤ length l.text;
  value : length (cut l.at_start l.text).front ≡ l.at + length (cut (starts l.at_start l.text l.at) (drop l.at l.text)).front;
}

abbrev pub decreases-loop-at : goal.decreases-loop-at
decreases-loop-at l = length l.text - l.at
