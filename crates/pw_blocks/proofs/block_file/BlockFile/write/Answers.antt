use Rattle.std.proofs.Common.{◌≡◌, ◌∙◌, ap, sym, subst}
use Rattle.pw_files.specs.Records.{IsFile}
use Rattle.pw_blocks.specs.Blocks.{BlocksState, records_of}
use Rattle.pw_blocks.proofs.SeatLemmas.{IsFile-written}
use Rattle.pw_blocks.proofs.block_file.BlockFile.write.Goals as goal

pub put-requires-clause-file : goal.put-requires-clause-file
put-requires-clause-file c =
    let key_is : c.from.result ≡ c.args.self.now.key = c.from.ensures ∙ ap (λ (s : BlocksState). s.key) c.self.view_is in
    let seat = rw key_is at c.seek-place.ensures.seat in
    IsFile-written c.args.self.now.key c.args.self.now.blocks c.seek-place.result.0 c.seek-place.result.1 c.in_ok-parts.parts.items c.args.content.now c.seek-place.ensures.file c.requires seat c.in_ok-parts.ensures.records

pub returns-clause-file : goal.returns-clause-file
returns-clause-file c =
    let key_is : c.from.result ≡ c.args.self.now.key = c.from.ensures ∙ ap (λ (s : BlocksState). s.key) c.self.view_is in
    let seat = rw key_is at c.seek-place.ensures.seat in
    subst (λ (s : BlocksState). IsFile s.key (records_of s.blocks)) (sym c.in_ok-put.ensures.ok)
    (IsFile-written c.args.self.now.key c.args.self.now.blocks c.seek-place.result.0 c.seek-place.result.1 c.in_ok-parts.parts.items c.args.content.now c.seek-place.ensures.file c.requires seat c.in_ok-parts.ensures.records)
