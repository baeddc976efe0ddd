use Rattle.std.proofs.Common.{◌≡◌, ◌∙◌, ap, sym, subst}
use Rattle.pw_paired.specs.State.{BeforeImage}
use Rattle.pw_tmf.specs.Restored.{restored}
use Rattle.pw_tmf.specs.Tmf.{IsImage, told_of}
use Rattle.pw_tmf.specs.Told.{Told}
use Rattle.pw_tmf.proofs.WithFaults.{on-ok-more}
use Rattle.pw_tmf.proofs.tmf.Tmf.restore.Goals as goal

pub restore_settled-requires-clause-image : goal.restore_settled-requires-clause-image
restore_settled-requires-clause-image c =
    let image : BeforeImage = record { terminal = 0; file = c.args.file; key = c.args.key; content = c.args.content } in
    subst (λ (i : BeforeImage). IsImage (told_of c.settle.new.self).key_length (told_of c.settle.new.self).file_count i) (sym c.new.ensures)
    (subst (λ (t : Told). IsImage t.key_length t.file_count image) (sym c.settle.ensures.told) (record { file = c.requires.file; content = c.requires.content }))

pub returns-clause-ok : goal.returns-clause-ok
returns-clause-ok c =
    on-ok-more c.restore_settled-2.result (told_of c.restore_settled-2.new.self ≡ restored (told_of c.settle.new.self) c.new.result.file c.new.result.key c.new.result.content) _
    (λ is.
    is
    ∙ ap (λ (i : BeforeImage). restored (told_of c.settle.new.self) i.file i.key i.content) c.new.ensures
    ∙ ap (λ (t : Told). restored t c.args.file c.args.key c.args.content) c.settle.ensures.told)
    c.restore_settled-2.ensures.ok
