-- The bytes so far are in lower case.
use Rattle.std.proofs.Common.{◌≡◌, ◌-◌, length, take}
use Rattle.std.specs.Str.{str_to_ascii_lowercase}
use Rattle.pw_data.proofs.index.folded.Given as goal

abbrev pub invariant-loop-at : goal.invariant-loop-at
invariant-loop-at l = record {
  long : length l.folded ≡ 30;
  so_far : take l.at l.folded ≡ str_to_ascii_lowercase (take l.at l.name);
}

abbrev pub decreases-loop-at : goal.decreases-loop-at
decreases-loop-at l = length l.name - l.at
