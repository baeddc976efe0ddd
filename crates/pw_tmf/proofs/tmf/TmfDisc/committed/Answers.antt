use Rattle.std.proofs.Common.{◌≡◌, ℕ, ◌<◌, ◌∙◌, ap, sym, subst, [], List, length}
use Rattle.std.specs.Prelude.{reverse}
use Rattle.pw_blocks.specs.Blocks.{BlocksState, records_of}
use Rattle.pw_paired.specs.State.{BeforeImage}
use Rattle.pw_paired.specs.Units.{restored_files}
use Rattle.pw_tmf.specs.Committed.{all_put_back, committed, images_below}
use Rattle.pw_tmf.specs.Slots.{SlotState}
use Rattle.pw_tmf.specs.Tmf.{TmfState, file_at, key_lengths, stored, told_of, unit_at}
use Rattle.pw_tmf.proofs.Operated.{settled-files}
use Rattle.pw_tmf.proofs.PutBack.{restored-at}
use Rattle.pw_tmf.proofs.Stored.{file-is}
use Rattle.pw_tmf.proofs.tmf.TmfDisc.committed.Goals as goal

pub returns : goal.returns
returns c =
    let state : TmfState = record { rule = c.self.inside.rule; files = c.self.inside.files.items; pending = reverse c.self.inside.pending.items; locks = c.self.inside.book; slots = c.self.inside.slots.items; commits = c.self.inside.commits } in
    let file = c.args.file in
    let copy = c.in_ok-copy.copy in
    let nothing : c.self.inside.pending.items ≡ [] = sym c.deref.ensures.value ∙ c.is_settled.ensures.0 c.if-not-is_settled.false in
    let within : file < length state.files = subst (λ (s : TmfState). file < length s.files) (sym c.self.view_is) c.requires in
    let copied : copy ≡ file_at state.files file = c.in_ok-copy.ensures ∙ sym (file-is state.files file c.index.result.now within c.index.ensures) in
    let images : List BeforeImage = images_below (unit_at state.slots) (length state.slots) in
    c.into_vec.ensures
    ∙ (c.in_ok-records.ensures
    ∙ (c.in_ok-put_all_back.ensures
    ∙ (ap (λ (ss : List SlotState). all_put_back copy.key file (images_below (unit_at ss) (length ss)) (records_of copy.blocks)) c.deref-2.ensures.value
    ∙ (ap (λ (s : BlocksState). all_put_back s.key file images (records_of s.blocks)) copied
    ∙ (sym (restored-at (key_lengths state.files) images (stored state.files) file)
    ∙ (sym (ap (λ (g : ℕ → List (List ℕ)). restored_files (key_lengths state.files) images g file) (settled-files state.files state.pending (ap reverse nothing)))
    ∙ ap (λ (s : TmfState). committed (told_of s) file) c.self.view_is))))))
