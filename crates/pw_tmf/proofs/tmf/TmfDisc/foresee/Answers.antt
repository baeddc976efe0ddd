use Rattle.std.proofs.Common.{◌≡◌, ◌<◌, ◌∙◌, ap, refl, sym, subst, [], length}
use Rattle.std.specs.Prelude.{IsNone, reverse}
use Rattle.pw_locks.specs.Conflicts.{holders, lock_of}
use Rattle.pw_locks.specs.Oldest.{IsOldest}
use Rattle.pw_onecopy.specs.Operation.{answer_of}
use Rattle.pw_tmf.specs.Operation.{lock_now}
use Rattle.pw_tmf.specs.Tmf.{TmfState, files_of, key_lengths, told_of}
use Rattle.pw_tmf.proofs.Operated.{lock-is, status-is}
use Rattle.pw_tmf.proofs.tmf.TmfDisc.foresee.Goals as goal

pub returns-in-Some : goal.returns-in-Some
returns-in-Some c =
    let state : TmfState = record { rule = c.self.inside.rule; files = c.self.inside.files.items; pending = reverse c.self.inside.pending.items; locks = c.self.inside.book; slots = c.self.inside.slots.items; commits = c.self.inside.commits } in
    let u = c.args.unit.now in
    let call = c.args.call.now in
    let span = c.in_ok-span.span in
    let mode = c.mode_of-mode.result in
    let nothing : c.self.inside.pending.items ≡ [] = sym c.deref.ensures.value ∙ c.is_settled.ensures.0 c.if-not-is_settled.false in
    let within : call.file < length state.files = subst (λ (s : TmfState). call.file < length s.files) (sym c.self.view_is) c.requires.call.file in
    let lock : lock_now (told_of state) u call ≡ lock_of u call.file span mode =
    lock-is state c.index-file.result.now u call span mode (ap reverse nothing) within c.index-file.ensures c.in_ok-span.ensures.span c.mode_of-mode.ensures in
    subst (λ (s : TmfState). IsOldest c.in-Some.holder (holders (lock_now (told_of s) u call) s.locks)) c.self.view_is
    (subst (λ l. IsOldest c.in-Some.holder (holders l state.locks)) (sym lock) c.in-Some.ensures.oldest)

pub returns : goal.returns
returns c =
    let state : TmfState = record { rule = c.self.inside.rule; files = c.self.inside.files.items; pending = reverse c.self.inside.pending.items; locks = c.self.inside.book; slots = c.self.inside.slots.items; commits = c.self.inside.commits } in
    let u = c.args.unit.now in
    let call = c.args.call.now in
    let file = c.index-file.result.now in
    let span = c.in_ok-span.span in
    let mode = c.mode_of-mode.result in
    let nothing : c.self.inside.pending.items ≡ [] = sym c.deref.ensures.value ∙ c.is_settled.ensures.0 c.if-not-is_settled.false in
    let within : call.file < length state.files = subst (λ (s : TmfState). call.file < length s.files) (sym c.self.view_is) c.requires.call.file in
    let lock : lock_now (told_of state) u call ≡ lock_of u call.file span mode =
    lock-is state file u call span mode (ap reverse nothing) within c.index-file.ensures c.in_ok-span.ensures.span c.mode_of-mode.ensures in (
      subst (λ (s : TmfState). holders (lock_now (told_of s) u call) s.locks ≡ []) c.self.view_is
          (ap (λ l. holders l state.locks) lock ∙ c.conflict.ensures.none.0 (subst IsNone (sym c.in-None.is) refl)),
      subst (λ (s : TmfState). c.status_of.result ≡ (answer_of (key_lengths s.files call.file) (files_of s.files s.pending call.file) call.op call).status) c.self.view_is
          (status-is state file call c.status_of.result (ap reverse nothing) within c.index-file.ensures c.status_of.ensures),
    )
