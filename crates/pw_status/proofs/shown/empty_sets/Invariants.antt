-- Those so far are empty.
use Rattle.std.proofs.Common.{◌≡◌, ℕ, ◌<◌, [], length}
use Rattle.pw_status.specs.Shown.{numbers_of}
use Rattle.pw_status.proofs.shown.empty_sets.Given as goal

abbrev pub invariant-loop : goal.invariant-loop
invariant-loop l = record {
  count : length l.sets.items ≡ l.counter;
  empty : (t : ℕ) → t < l.counter → (numbers_of l.sets.items t).keys ≡ [];
}
