use Rattle.std.proofs.Common.{◌≡◌, ◌∙◌, ap, sym, subst, [], length}
use Rattle.std.specs.Prelude.{reverse}
use Rattle.pw_onecopy.specs.Update.{upd}
use Rattle.pw_paired.specs.Units.{put_back}
use Rattle.pw_tmf.specs.Restored.{restored}
use Rattle.pw_tmf.specs.Tmf.{IsImage, TmfState, key_lengths, stored, told_of}
use Rattle.pw_tmf.proofs.Kept.{IsTmf-kept, told-kept}
use Rattle.pw_tmf.proofs.Operated.{settled-files}
use Rattle.pw_tmf.proofs.Restoring.{on-err-more, restored-told}
use Rattle.pw_tmf.proofs.WithFaults.{on-ok-more}
use Rattle.pw_tmf.proofs.tmf.Tmf.restore_settled.Goals as goal

pub put_back_in-requires : goal.put_back_in-requires
put_back_in-requires c = subst (λ (s : TmfState). IsImage (key_lengths s.files) (length s.files) c.args.image.now) (sym c.self.view_is) c.requires.image

pub invariant_of-self : goal.invariant_of-self
invariant_of-self c =
    let state : TmfState = record { rule = c.self.inside.rule; files = c.self.inside.files.items; pending = reverse c.self.inside.pending.items; locks = c.self.inside.book; slots = c.self.inside.slots.items; commits = c.self.inside.commits } in
    IsTmf-kept state c.put_back_in.new.files.items state.pending c.put_back_in.ensures.keys c.put_back_in.ensures.count c.self.invariant c.self.invariant.pending

pub returns-clause-ok : goal.returns-clause-ok
returns-clause-ok c =
    let state : TmfState = record { rule = c.self.inside.rule; files = c.self.inside.files.items; pending = reverse c.self.inside.pending.items; locks = c.self.inside.book; slots = c.self.inside.slots.items; commits = c.self.inside.commits } in
    let image = c.args.image.now in
    let settled : state.pending ≡ [] = ap (λ (s : TmfState). s.pending) c.self.view_is ∙ c.requires.settled in
    on-ok-more c.put_back_in.result (stored c.put_back_in.new.files.items ≡ upd (stored state.files) image.file (put_back (key_lengths state.files image.file) (stored state.files image.file) image.key image.content)) _
    (λ put.
    restored-told state settled c.put_back_in.new.files.items image.file image.key image.content c.put_back_in.ensures.keys c.put_back_in.ensures.count put
    ∙ ap (λ (s : TmfState). restored (told_of s) image.file image.key image.content) c.self.view_is)
    c.put_back_in.ensures.ok

pub returns-clause-err : goal.returns-clause-err
returns-clause-err c =
    let state : TmfState = record { rule = c.self.inside.rule; files = c.self.inside.files.items; pending = reverse c.self.inside.pending.items; locks = c.self.inside.book; slots = c.self.inside.slots.items; commits = c.self.inside.commits } in
    let settled : state.pending ≡ [] = ap (λ (s : TmfState). s.pending) c.self.view_is ∙ c.requires.settled in
    on-err-more c.put_back_in.result (stored c.put_back_in.new.files.items ≡ stored state.files) _
    (λ same.
    told-kept state c.put_back_in.new.files.items state.pending c.put_back_in.ensures.keys c.put_back_in.ensures.count
    (settled-files c.put_back_in.new.files.items state.pending settled ∙ (same ∙ sym (settled-files state.files state.pending settled)))
    ∙ ap told_of c.self.view_is)
    c.put_back_in.ensures.err
