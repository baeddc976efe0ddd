use Rattle.std.proofs.Common.{◌≡◌, ◌∙◌, ap, sym, subst}
use Rattle.std.specs.Prelude.{slice_set, slice_index_or}
use Rattle.pw_blocks.specs.Blocks.{BlocksState, records_of}
use Rattle.pw_onecopy.specs.Update.{upd}
use Rattle.pw_paired.specs.Units.{put_back}
use Rattle.pw_tmf.specs.Tmf.{file_at, stored}
use Rattle.pw_tmf.proofs.Stored.{file-is, stored-set}
use Rattle.pw_tmf.proofs.store.put_back_in.Goals as goal

pub returns-clause-ok : goal.returns-clause-ok
returns-clause-ok c =
    let files = c.args.files.now.items in
    let image = c.args.image.now in
    let file = c.index_mut.result.now in
    let read : file ≡ slice_index_or files image.file file = subst (λ i. file ≡ slice_index_or files i file) c.file.ensures c.index_mut.ensures.value in
    let here : file_at files image.file ≡ file = file-is files image.file file c.requires.file read in
    ap (λ i. stored (slice_set files i c.put_back.new.file)) c.file.ensures
    ∙ (stored-set files image.file c.put_back.new.file c.requires.file
    ∙ ap (upd (stored files) image.file) (c.in_ok-put_back.ensures.ok ∙ ap (λ (s : BlocksState). put_back s.key (records_of s.blocks) image.key image.content) (sym here)))
