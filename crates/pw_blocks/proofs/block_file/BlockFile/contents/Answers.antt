use Rattle.std.proofs.Common.{◌∙◌, ap, [], arith}
use Rattle.pw_blocks.specs.Packing.{unpacked}
use Rattle.pw_blocks.proofs.BlockLemmas.{IsBlock-none, unpacked-none}
use Rattle.pw_blocks.proofs.PackingLemmas.{unpacked-packed_all}
use Rattle.pw_blocks.proofs.block_file.BlockFile.contents.Goals as goal

pub returns-in-None-clause-block : goal.returns-in-None-clause-block
returns-in-None-clause-block c = IsBlock-none

pub returns-in-None-clause-records : goal.returns-in-None-clause-records
returns-in-None-clause-records c = unpacked-none ∙ rw (← c.self.view_is, ← c.deref.ensures.value) (c.in-None.ensures.lookup.4 (omega arith) [])

pub returns-in-Some-clause-records : goal.returns-in-Some-clause-records
returns-in-Some-clause-records c =
    ap unpacked c.as_slice.ensures.bytes ∙ unpacked-packed_all c.in-Some.block.now ∙ rw (← c.self.view_is, ← c.deref.ensures.value) (c.in-Some.ensures.lookup.3.1 [])
