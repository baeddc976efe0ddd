use Rattle.std.proofs.Common.{◌≡◌, length}
use Rattle.std.specs.Prelude.{All}
use Rattle.pw_workers.specs.Places.{IsFreeAt}
use Rattle.pw_workers.proofs.workers.lanes.Given as goal

abbrev pub invariant-loop : goal.invariant-loop
invariant-loop l = record {
  each : length l.lanes.items ≡ l.counter;
  free : All IsFreeAt l.lanes.items;
}
