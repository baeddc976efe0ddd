use Rattle.std.proofs.Common.{◌≡◌, ◌++◌, ℕ, List, length}
use Rattle.pw_blocks.specs.Packing.{packed_all}
use Rattle.pw_blocks.proofs.block.DataBlock.add_to.Given as goal

-- the bytes that are left are those of the contents that are still to be put behind the others
abbrev pub invariant-loop-content : goal.invariant-loop-content
invariant-loop-content l = (left : List (List ℕ)) × (l.rest ≡ packed_all left) × (l.records ++ left ≡ l.fn.records ++ l.fn.self)

abbrev pub decreases-loop-content : goal.decreases-loop-content
decreases-loop-content l = length l.rest
