use Rattle.std.proofs.Common.{◌≡◌, ◌≤◌, ℕ, List, length}
use Rattle.pw_blocks.specs.Packing.{from_key, packed_all}
use Rattle.pw_blocks.proofs.packing.from_key.Given as goal

-- the bytes that are left are no more than at first, and they are those of contents from which on the same contents come
abbrev pub invariant-loop-content : goal.invariant-loop-content
invariant-loop-content l = (length l.rest ≤ length l.fn.bytes) × ((contents : List (List ℕ)) → l.fn.bytes ≡ packed_all contents → (left : List (List ℕ)) × (l.rest ≡ packed_all left) × (from_key l.key_length left l.key ≡ from_key l.key_length contents l.key))

abbrev pub decreases-loop-content : goal.decreases-loop-content
decreases-loop-content l = length l.rest
