use Rattle.std.proofs.Common.{◌≡◌, ◌≤◌, ℕ, None}
use Rattle.pw_workers.specs.InPlace.{AreTurnsInPlace}
use Rattle.pw_workers.proofs.shared.Shared.take_turns.Given as goal

abbrev pub invariant-loop : goal.invariant-loop
invariant-loop g l = record {
  on : l.self.end ≡ None;
  turns : (turns : ℕ) × ((turns ≤ l.counter) × AreTurnsInPlace g.D.Disc.told turns l.fn.self l.self);
}
