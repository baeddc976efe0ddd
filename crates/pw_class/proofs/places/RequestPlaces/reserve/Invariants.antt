use Rattle.std.proofs.Common.{◌≡◌, ◌+◌, ◌-◌, ℕ, length}
use Rattle.pw_class.specs.Places.{noted_place}
use Rattle.pw_class.proofs.places.RequestPlaces.reserve.Given as goal

abbrev pub invariant-loop-self : goal.invariant-loop-self
invariant-loop-self l = (other : ℕ) → noted_place l.self-inside.places.items other ≡ noted_place l.initial.self-inside.places.items other

abbrev pub decreases-loop-self : goal.decreases-loop-self
decreases-loop-self l = l.terminal + 1 - length l.self-inside.places.items
