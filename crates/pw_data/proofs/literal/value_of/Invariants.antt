-- The digits that are left, behind the value so far, give the value.
use Rattle.std.proofs.Common.{◌≡◌, ◌≤◌, min, drop}
use Rattle.pw_picture.specs.Symbols.{value_behind}
use Rattle.pw_data.proofs.literal.value_of.Given as goal

abbrev pub invariant-loop-digit : goal.invariant-loop-digit
invariant-loop-digit l = record {
  so_far : min (value_behind l.value (drop l.digit-index l.digits)) 1001 ≡ min (value_behind 0 l.digits) 1001;
  bound : l.value ≤ 1001;
}
