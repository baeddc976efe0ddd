use Rattle.std.proofs.Common.{◌≡◌, ◌<◌, ◌∙◌, ap, sym, subst, refl, length}
use Rattle.std.specs.Prelude.{reverse}
use Rattle.std.proofs.lemmas.List.{length-set}
use Rattle.pw_onecopy.specs.Update.{upd}
use Rattle.pw_tmf.specs.Slots.{SlotState}
use Rattle.pw_tmf.specs.Tmf.{TmfState, no_slot, slot_at, told_of, unit_at}
use Rattle.pw_tmf.specs.Units.{begun}
use Rattle.pw_tmf.proofs.Kept.{slot-is}
use Rattle.pw_tmf.proofs.Operated.{told-is}
use Rattle.pw_tmf.proofs.Stored.{get-set, upd-itself}
use Rattle.pw_tmf.proofs.tmf.TmfDisc.begin.Goals as goal

pub returns-clause-ok : goal.returns-clause-ok
returns-clause-ok c =
    let state : TmfState = record { rule = c.self.inside.rule; files = c.self.inside.files.items; pending = reverse c.self.inside.pending.items; locks = c.self.inside.book; slots = c.self.inside.slots.items; commits = c.self.inside.commits } in
    let u = c.args.unit.now in
    let slot = c.index_mut.result.now in
    let slot' = c.begin.new.self in
    let lt : u.terminal < length state.slots = subst (λ (s : TmfState). u.terminal < length s.slots) (sym c.self.view_is) c.requires.terminal in
    let here : slot_at state.slots u.terminal ≡ slot = slot-is state.slots u.terminal slot lt c.index_mut.ensures.value in
    told-is (begun (told_of state) u) _ _ _ _ _ _ _
    (length-set state.slots u.terminal slot') refl refl refl refl
    (get-set (λ (x : SlotState). x.open_unit) state.slots u.terminal slot' no_slot lt ∙ ap (upd (unit_at state.slots) u.terminal) (ap (λ (x : SlotState). x.open_unit) c.begin.ensures))
    (get-set (λ (x : SlotState). x.ended) state.slots u.terminal slot' no_slot lt
    ∙ upd-itself (λ t. (slot_at state.slots t).ended) u.terminal slot'.ended (ap (λ (x : SlotState). x.ended) c.begin.ensures ∙ ap (λ (x : SlotState). x.ended) (sym here)))
    ∙ ap (λ (s : TmfState). begun (told_of s) u) c.self.view_is
