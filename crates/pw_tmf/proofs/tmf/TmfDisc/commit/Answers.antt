use Rattle.std.proofs.Common.{◌≡◌, ◌<◌, ◌∙◌, ap, sym, subst, refl, List, filter, length, Some, arith}
use Rattle.std.specs.Prelude.{reverse, slice_set}
use Rattle.pw_base.specs.Outside.{counted}
use Rattle.pw_locks.specs.declared.lock.Lock.{Lock}
use Rattle.pw_tmf.specs.Committed.{images_of}
use Rattle.pw_tmf.specs.Slots.{SlotState, ended_slot}
use Rattle.pw_tmf.specs.Tmf.{IsTmf, TmfState, slot_at, told_of, unit_at}
use Rattle.pw_tmf.specs.Units.{after_commit, ended}
use Rattle.pw_tmf.proofs.Kept.{slot-is}
use Rattle.pw_tmf.proofs.Stopped.{IsTmf-stopped, others, told-ended}
use Rattle.pw_tmf.proofs.tmf.TmfDisc.commit.Goals as goal

pub invariant_of-self : goal.invariant_of-self
invariant_of-self c =
    let state : TmfState = record { rule = c.self.inside.rule; files = c.self.inside.files.items; pending = reverse c.self.inside.pending.items; locks = c.self.inside.book; slots = c.self.inside.slots.items; commits = c.self.inside.commits } in
    let u = c.args.unit.now in
    let own = c.requires.is_open.open_unit in
    let lt : u.terminal < length state.slots = subst (λ (s : TmfState). u.terminal < length s.slots) (sym c.self.view_is) c.requires.is_open.terminal in
    let is_open : unit_at state.slots u.terminal ≡ Some own = subst (λ (s : TmfState). unit_at s.slots u.terminal ≡ Some own) (sym c.self.view_is) c.requires.is_open.here in
    subst (λ (ls : List Lock). IsTmf (record { rule = state.rule; files = state.files; pending = state.pending; locks = ls; slots = slice_set state.slots u.terminal c.end.new.self; commits = c.saturating_add-self-inside.result })) (sym c.release.ensures)
    (IsTmf-stopped state u own is_open c.requires.is_open.number lt c.self.invariant c.end.new.self (ap (λ (x : SlotState). images_of x.open_unit) c.end.ensures) state.pending c.saturating_add-self-inside.result c.self.invariant.pending)

pub returns-clause-ok : goal.returns-clause-ok
returns-clause-ok c =
    let state : TmfState = record { rule = c.self.inside.rule; files = c.self.inside.files.items; pending = reverse c.self.inside.pending.items; locks = c.self.inside.book; slots = c.self.inside.slots.items; commits = c.self.inside.commits } in
    let u = c.args.unit.now in
    let own = c.requires.is_open.open_unit in
    let lt : u.terminal < length state.slots = subst (λ (s : TmfState). u.terminal < length s.slots) (sym c.self.view_is) c.requires.is_open.terminal in
    let is_open : unit_at state.slots u.terminal ≡ Some own = subst (λ (s : TmfState). unit_at s.slots u.terminal ≡ Some own) (sym c.self.view_is) c.requires.is_open.here in
    let here : slot_at state.slots u.terminal ≡ c.index_mut.result.now = slot-is state.slots u.terminal c.index_mut.result.now lt c.index_mut.ensures.value in
    let slot_is : c.end.new.self ≡ ended_slot c.args.reply (slot_at state.slots u.terminal) = c.end.ensures ∙ ap (ended_slot c.args.reply) (sym here) in
    let one_more : c.saturating_add-self-inside.result ≡ counted state.commits = omega (arith, c.saturating_add-self-inside.ensures) in
    ap (λ (ls : List Lock). told_of (record { rule = state.rule; files = state.files; pending = state.pending; locks = ls; slots = slice_set state.slots u.terminal c.end.new.self; commits = c.saturating_add-self-inside.result })) c.release.ensures
    ∙ (ap (λ (x : SlotState). told_of (record { rule = state.rule; files = state.files; pending = state.pending; locks = filter (others u) state.locks; slots = slice_set state.slots u.terminal x; commits = c.saturating_add-self-inside.result })) slot_is
    ∙ (told-ended state u own is_open c.requires.is_open.number lt c.self.invariant c.args.reply state.pending c.saturating_add-self-inside.result (told_of state) refl refl refl refl refl refl refl refl
    ∙ (ap (λ n. record (ended (told_of state) u c.args.reply) { faults = 0; commits = n }) one_more
    ∙ ap (λ (s : TmfState). after_commit (told_of s) u c.args.reply) c.self.view_is)))
