-- The sum so far goes on over the bytes that are left.
use Rattle.std.proofs.Common.{◌≡◌, drop}
use Rattle.pw_summed_disk.specs.Sums.{sum_from, sum_of}
use Rattle.pw_summed_disk.proofs.sum.sum_of.Given as goal

abbrev pub invariant-loop-byte : goal.invariant-loop-byte
invariant-loop-byte l = sum_from l.sum (drop l.byte-index l.bytes) ≡ sum_of l.bytes
