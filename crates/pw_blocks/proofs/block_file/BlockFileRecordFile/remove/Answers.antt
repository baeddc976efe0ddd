use Rattle.std.proofs.Common.{sym, subst}
use Rattle.pw_files.specs.Records.{IsFile}
use Rattle.pw_blocks.specs.Blocks.{BlocksState, records_of}
use Rattle.pw_blocks.proofs.SeatLemmas.{IsFile-taken}
use Rattle.pw_blocks.proofs.block_file.BlockFileRecordFile.remove.Goals as goal

pub put-requires-clause-file : goal.put-requires-clause-file
put-requires-clause-file c =
    IsFile-taken c.args.self.now.key c.args.self.now.blocks c.seek-place.result.0 c.seek-place.result.1 c.in_ok-parts.parts.items c.args.key.now c.seek-place.ensures.file c.seek-place.ensures.seat c.in_ok-parts.ensures.records

pub returns-clause-file : goal.returns-clause-file
returns-clause-file c =
    subst (λ (s : BlocksState). IsFile s.key (records_of s.blocks)) (sym c.in_ok-put.ensures.ok)
    (IsFile-taken c.args.self.now.key c.args.self.now.blocks c.seek-place.result.0 c.seek-place.result.1 c.in_ok-parts.parts.items c.args.key.now c.seek-place.ensures.file c.seek-place.ensures.seat c.in_ok-parts.ensures.records)
