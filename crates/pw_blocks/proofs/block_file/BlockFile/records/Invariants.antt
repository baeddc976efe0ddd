use Rattle.std.proofs.Common.{◌≡◌, take}
use Rattle.pw_blocks.specs.Blocks.{records_of}
use Rattle.pw_blocks.proofs.block_file.BlockFile.records.Given as goal

-- the records of the blocks so far are copied
abbrev pub invariant-loop-block : goal.invariant-loop-block
invariant-loop-block l = l.records ≡ records_of (take l.block-index l.self.blocks)
