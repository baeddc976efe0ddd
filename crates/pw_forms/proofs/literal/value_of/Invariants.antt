-- The digits that are left, behind the value so far, give the value.
use Rattle.std.proofs.Common.{◌≡◌, ◌≤◌, drop}
use Rattle.pw_forms.specs.Operands.{value_from}
use Rattle.pw_forms.proofs.literal.value_of.Given as goal

abbrev pub invariant-loop-digit : goal.invariant-loop-digit
invariant-loop-digit l = record {
  so_far : value_from l.value (drop l.digit-index l.digits) ≡ value_from 0 l.digits;
  bound : l.value ≤ 10000;
}
