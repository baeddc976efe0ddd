-- The digits that are left, behind the value so far, give the value.
use Rattle.std.proofs.Common.{◌≡◌, ◌≤◌, min, drop, filter}
use Rattle.std.specs.Char.{is_ascii_digit}
use Rattle.pw_picture.specs.Stored.{value_of}
use Rattle.pw_compile.proofs.numbers.digits_in.Given as goal

abbrev pub invariant-loop-byte : goal.invariant-loop-byte
invariant-loop-byte l = record {
  so_far : min (value_of l.value (filter is_ascii_digit (drop l.byte-index l.spelling))) l.most
      ≡ min (value_of 0 (filter is_ascii_digit l.spelling)) l.most;
  bound : l.value ≤ l.most;
}
