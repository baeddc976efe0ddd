use Rattle.std.proofs.Common.{◌≡◌, take}
use Rattle.pw_blocks.proofs.pieces.copies.Given as goal

-- the blocks so far are copied
abbrev pub invariant-loop-block : goal.invariant-loop-block
invariant-loop-block l = l.copies.items ≡ take l.block-index l.blocks
