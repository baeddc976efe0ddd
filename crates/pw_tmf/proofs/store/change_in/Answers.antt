use Rattle.std.proofs.Common.{◌≡◌, ◌∙◌, ap, sym}
use Rattle.pw_blocks.specs.Blocks.{BlocksState, records_of}
use Rattle.pw_onecopy.specs.Operation.{records_behind}
use Rattle.pw_onecopy.specs.Update.{upd}
use Rattle.pw_tmf.specs.Tmf.{file_at, stored}
use Rattle.pw_tmf.proofs.Stored.{file-is, stored-set}
use Rattle.pw_tmf.proofs.store.change_in.Goals as goal

pub returns-clause-ok : goal.returns-clause-ok
returns-clause-ok c =
    let files = c.args.files.now.items in
    let f = c.args.call.now.file in
    let here : file_at files f ≡ c.index_mut.result.now = file-is files f c.index_mut.result.now c.requires.file c.index_mut.ensures.value in
    stored-set files f c.change.new.file c.requires.file
    ∙ ap (upd (stored files) f) (c.in_ok-change.ensures.ok ∙ ap (λ (s : BlocksState). records_behind s.key (records_of s.blocks) c.args.call.now) (sym here))
