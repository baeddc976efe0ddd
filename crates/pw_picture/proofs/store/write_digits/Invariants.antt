-- The digits that are written are the low ones, and those that are left are the high ones.
use Rattle.std.proofs.Common.{◌≡◌, ◌-◌, ◌/◌, ◌^◌, ◌≤◌, length, drop}
use Rattle.pw_picture.specs.Stored.{digits_of}
use Rattle.pw_picture.proofs.store.write_digits.Given as goal

abbrev pub invariant-loop-at : goal.invariant-loop-at
invariant-loop-at l = (drop l.at l.into ≡ digits_of (length l.initial.into - l.at) l.size) × (l.rest ≡ l.size / 10 ^ (length l.initial.into - l.at)) × (l.at ≤ length l.initial.into)

abbrev pub decreases-loop-at : goal.decreases-loop-at
decreases-loop-at l = l.at
