use Rattle.std.proofs.Common.{◌≡◌, ◌≤◌, ◌+◌, None, length}
use Rattle.pw_base.specs.First.{least}
use Rattle.pw_text.specs.Bytes.{bad_bytes}
use Rattle.pw_text.proofs.bytes.first_bad_byte.Given as goal

abbrev pub invariant-loop-byte : goal.invariant-loop-byte
invariant-loop-byte l = record {
  line : l.line + length l.rest ≤ l.first_line + length l.text;
  so_far : least l.known (bad_bytes l.line l.rest) ≡ least None (bad_bytes l.first_line l.text);
}

abbrev pub decreases-loop-byte : goal.decreases-loop-byte
decreases-loop-byte l = length l.rest
