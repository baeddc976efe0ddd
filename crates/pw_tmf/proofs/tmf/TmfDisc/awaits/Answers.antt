use Rattle.std.proofs.Common.{◌≡◌, ◌<◌, ◌∙◌, ◌&&◌, ap, sym, subst, [], length}
use Rattle.std.specs.Prelude.{reverse}
use Rattle.std.specs.List.{list_any}
use Rattle.pw_locks.specs.Conflicts.{conflict, is_same_unit, lock_of}
use Rattle.pw_locks.specs.declared.lock.Lock.{Lock}
use Rattle.pw_tmf.specs.Operation.{awaits, lock_now}
use Rattle.pw_tmf.specs.Tmf.{TmfState, told_of}
use Rattle.pw_tmf.proofs.Awaiting.{blocks-conflict}
use Rattle.pw_tmf.proofs.Operated.{lock-is}
use Rattle.pw_tmf.proofs.tmf.TmfDisc.awaits.Goals as goal

pub returns : goal.returns
returns c =
    let state : TmfState = record { rule = c.self.inside.rule; files = c.self.inside.files.items; pending = reverse c.self.inside.pending.items; locks = c.self.inside.book; slots = c.self.inside.slots.items; commits = c.self.inside.commits } in
    let u = c.args.unit.now in
    let holder = c.args.holder.now in
    let call = c.args.call.now in
    let span = c.in_ok-span.span in
    let mode = c.mode_of-mode.result in
    let nothing : c.self.inside.pending.items ≡ [] = sym c.deref.ensures.value ∙ c.is_settled.ensures.0 c.if-not-is_settled.false in
    let within : call.file < length state.files = subst (λ (s : TmfState). call.file < length s.files) (sym c.self.view_is) c.requires.call.file in
    let lock : lock_now (told_of state) u call ≡ lock_of u call.file span mode =
    lock-is state c.index.result.now u call span mode (ap reverse nothing) within c.index.ensures c.in_ok-span.ensures.span c.mode_of-mode.ensures in
    c.blocks-2.ensures
    ∙ (blocks-conflict u holder call.file span mode state.locks c.requires.apart
    ∙ (ap (λ (l : Lock). list_any (λ held. is_same_unit held.unit holder && conflict l held) state.locks) (sym lock)
    ∙ ap (λ (s : TmfState). awaits (told_of s) u call holder) c.self.view_is))
