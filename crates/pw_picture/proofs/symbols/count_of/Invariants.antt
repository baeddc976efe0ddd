-- The digits that are left, behind the value so far, give the count.
use Rattle.std.proofs.Common.{◌≡◌, ◌≤◌, ◌+◌, min, drop}
use Rattle.pw_picture.specs.Symbols.{value_behind, longest}
use Rattle.pw_picture.proofs.symbols.count_of.Given as goal

abbrev pub invariant-loop-digit : goal.invariant-loop-digit
invariant-loop-digit l = (min (value_behind l.value (drop l.digit-index l.digits)) (longest + 1) ≡ min (value_behind 0 l.digits) (longest + 1)) × (l.value ≤ longest + 1)
