-- The characters so far, with those of the bytes that are left, are all.
use Rattle.std.proofs.Common.{◌≡◌, ◌++◌, false, length}
use Rattle.pw_text.specs.Literals.{unquoted}
use Rattle.pw_text.proofs.literal.unquoted.Given as goal

abbrev pub invariant-loop-byte : goal.invariant-loop-byte
invariant-loop-byte l = l.chars ++ unquoted l.second l.rest ≡ unquoted false l.bytes

abbrev pub decreases-loop-byte : goal.decreases-loop-byte
decreases-loop-byte l = length l.rest
