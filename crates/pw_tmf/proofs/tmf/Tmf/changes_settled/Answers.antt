use Rattle.std.proofs.Common.{◌≡◌, ◌<◌, ◌∙◌, ap, sym, subst, List, [], length}
use Rattle.std.specs.Prelude.{IfOk, map, reverse}
use Rattle.pw_blocks.specs.Blocks.{BlocksState}
use Rattle.pw_tmf.specs.declared.answer.ChangedKey.{ChangedKey}
use Rattle.pw_tmf.specs.Committed.{images_of}
use Rattle.pw_tmf.specs.Restored.{changed_in, changes_of}
use Rattle.pw_tmf.specs.Tmf.{AreImages, TmfState, key_lengths, stored, told_of}
use Rattle.pw_tmf.proofs.Restoring.{changes-told, slot-images}
use Rattle.pw_tmf.proofs.tmf.Tmf.changes_settled.Goals as goal

pub changes_in-requires : goal.changes_in-requires
changes_in-requires c =
    let state : TmfState = record { rule = c.self.inside.rule; files = c.self.inside.files.items; pending = reverse c.self.inside.pending.items; locks = c.self.inside.book; slots = c.self.inside.slots.items; commits = c.self.inside.commits } in
    let settled : state.pending ≡ [] = ap (λ (s : TmfState). s.pending) c.self.view_is ∙ c.requires.settled in
    let lt : c.args.terminal < length state.slots = subst (λ (s : TmfState). c.args.terminal < length s.slots) (sym c.self.view_is) c.requires.terminal in
    subst (λ (fs : List BlocksState). AreImages (key_lengths fs) (length fs) (images_of c.index.result.now.open_unit)) (sym c.deref.ensures.value)
    (slot-images state settled c.args.terminal c.index.result.now lt c.index.ensures c.self.invariant)

pub returns : goal.returns
returns c =
    let state : TmfState = record { rule = c.self.inside.rule; files = c.self.inside.files.items; pending = reverse c.self.inside.pending.items; locks = c.self.inside.book; slots = c.self.inside.slots.items; commits = c.self.inside.commits } in
    let settled : state.pending ≡ [] = ap (λ (s : TmfState). s.pending) c.self.view_is ∙ c.requires.settled in
    let lt : c.args.terminal < length state.slots = subst (λ (s : TmfState). c.args.terminal < length s.slots) (sym c.self.view_is) c.requires.terminal in
    subst (λ (xs : List ChangedKey). IfOk c.changes_in.result (λ changes. changes.items ≡ xs))
    (ap (λ (fs : List BlocksState). map (changed_in (key_lengths fs) (stored fs)) (reverse (images_of c.index.result.now.open_unit))) c.deref.ensures.value
    ∙ (changes-told state settled c.args.terminal c.index.result.now lt c.index.ensures
    ∙ ap (λ (s : TmfState). changes_of (told_of s) c.args.terminal) c.self.view_is))
    c.changes_in.ensures
