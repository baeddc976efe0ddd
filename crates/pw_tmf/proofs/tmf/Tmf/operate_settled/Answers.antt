use Rattle.std.proofs.Common.{◌≡◌, ℕ, List, ◌<◌, ◌∙◌, ap, sym, subst, refl, [], length}
use Rattle.std.specs.Prelude.{IsNone, reverse, slice_set}
use Rattle.pw_blocks.specs.Blocks.{BlocksState, records_of}
use Rattle.pw_files.specs.Records.{IsFile}
use Rattle.pw_locks.specs.Conflicts.{holders, lock_of}
use Rattle.pw_locks.specs.declared.lock.Lock.{Lock}
use Rattle.pw_locks.specs.Oldest.{IsOldest}
use Rattle.pw_onecopy.specs.Operation.{answer_of}
use Rattle.pw_tmf.specs.Operation.{after_operation, answer_with, lock_now, with_image}
use Rattle.pw_tmf.specs.Slots.{SlotState, with_unit}
use Rattle.pw_tmf.specs.Tmf.{HasNumber, IsTmf, TmfState, files_of, key_lengths, slot_at, stored, told_of, unit_at}
use Rattle.pw_tmf.proofs.Kept.{IsTmf-kept, slot-is, slot-stays, taken-back}
use Rattle.pw_tmf.proofs.Operated.{IsTmf-behind, lock-is, operated-told, settled-files}
use Rattle.pw_tmf.proofs.Stored.{file-is}
use Rattle.pw_tmf.proofs.tmf.Tmf.operate_settled.Goals as goal

pub returns-in-Some-clause-ok : goal.returns-in-Some-clause-ok
returns-in-Some-clause-ok c =
    let state : TmfState = record { rule = c.self.inside.rule; files = c.self.inside.files.items; pending = reverse c.self.inside.pending.items; locks = c.self.inside.book; slots = c.self.inside.slots.items; commits = c.self.inside.commits } in
    let u = c.args.unit.now in
    let call = c.args.call.now in
    let settled : state.pending ≡ [] = ap (λ (s : TmfState). s.pending) c.self.view_is ∙ c.requires.settled in
    let within : call.file < length state.files = subst (λ (s : TmfState). call.file < length s.files) (sym c.self.view_is) c.requires.call.file in
    let lock : lock_now (told_of state) u call ≡ lock_of u call.file c.in_ok-span.span c.mode_of-mode.result =
    lock-is state c.index.result.now u call c.in_ok-span.span c.mode_of-mode.result settled within c.index.ensures c.in_ok-span.ensures.span c.mode_of-mode.ensures in (
      subst (λ (s : TmfState). IsOldest c.in-Some.holder (holders (lock_now (told_of s) u call) s.locks)) c.self.view_is
          (subst (λ l. IsOldest c.in-Some.holder (holders l state.locks)) (sym lock) c.in-Some.ensures.oldest),
      refl,
    )

pub invariant_of-self-in-Ok : goal.invariant_of-self-in-Ok
invariant_of-self-in-Ok c =
    let state : TmfState = record { rule = c.self.inside.rule; files = c.self.inside.files.items; pending = reverse c.self.inside.pending.items; locks = c.self.inside.book; slots = c.self.inside.slots.items; commits = c.self.inside.commits } in
    let u = c.args.unit.now in
    let call = c.args.call.now in
    let file = c.index.result.now in
    let slot = c.index_mut-slot.result.now in
    let files' = c.perform.new.files.items in
    let slot' = c.perform.new.slot in
    let lock : Lock = lock_of u call.file c.in_ok-span.span c.mode_of-mode.result in
    let settled : state.pending ≡ [] = ap (λ (s : TmfState). s.pending) c.self.view_is ∙ c.requires.settled in
    let within : call.file < length state.files = subst (λ (s : TmfState). call.file < length s.files) (sym c.self.view_is) c.requires.call.file in
    let lt : u.terminal < length state.slots = subst (λ (s : TmfState). u.terminal < length s.slots) (sym c.self.view_is) c.requires.unit.is_open.terminal in
    let here : slot_at state.slots u.terminal ≡ slot = slot-is state.slots u.terminal slot lt c.index_mut-slot.ensures.value in
    let noted : slot' ≡ with_unit (with_image (key_lengths state.files call.file) (stored state.files call.file) u.terminal call) (slot_at state.slots u.terminal) =
    c.in-Ok.ensures.noted ∙ ap (with_unit (with_image (key_lengths state.files call.file) (stored state.files call.file) u.terminal call)) (sym here) in
    let file_ok : IsFile (key_lengths state.files call.file) (stored state.files call.file) =
    subst (λ (s : BlocksState). IsFile s.key (records_of s.blocks)) (sym (file-is state.files call.file file within c.index.ensures)) c.in_ok-span.ensures.file in
    let own : HasNumber u.number (unit_at state.slots u.terminal) =
    subst (λ (s : TmfState). HasNumber u.number (unit_at s.slots u.terminal)) (sym c.self.view_is) (subst (HasNumber u.number) (sym c.requires.unit.is_open.here) c.requires.unit.is_open.number) in
    subst (λ (ls : List Lock). IsTmf (record { rule = state.rule; files = files'; pending = state.pending; locks = ls; slots = slice_set state.slots u.terminal slot'; commits = state.commits })) (sym c.in_ok-add.ensures.ok)
    (IsTmf-behind state u call files' slot' lock settled c.perform.ensures.keys c.perform.ensures.count lt noted c.self.invariant file_ok within own)

pub invariant_of-self-in-Err : goal.invariant_of-self-in-Err
invariant_of-self-in-Err c =
    let state : TmfState = record { rule = c.self.inside.rule; files = c.self.inside.files.items; pending = reverse c.self.inside.pending.items; locks = c.self.inside.book; slots = c.self.inside.slots.items; commits = c.self.inside.commits } in
    let u = c.args.unit.now in
    let slot = c.index_mut-slot.result.now in
    let files' = c.perform.new.files.items in
    let slot' = c.perform.new.slot in
    let lock : Lock = lock_of u c.args.call.now.file c.in_ok-span.span c.mode_of-mode.result in
    let locks_are : c.take_back.new.self ≡ state.locks = c.take_back.ensures ∙ taken-back state.locks lock c.add.new.self c.in_ok-add.ensures.ok in
    let slots_are : slice_set state.slots u.terminal slot' ≡ state.slots = ap (slice_set state.slots u.terminal) c.in-Err.ensures.forgotten ∙ slot-stays state.slots u.terminal slot c.index_mut-slot.ensures.value in
    subst (λ (ls : List Lock). IsTmf (record { rule = state.rule; files = files'; pending = state.pending; locks = ls; slots = slice_set state.slots u.terminal slot'; commits = state.commits })) (sym locks_are)
    (subst (λ (ss : List SlotState). IsTmf (record { rule = state.rule; files = files'; pending = state.pending; locks = state.locks; slots = ss; commits = state.commits })) (sym slots_are)
    (IsTmf-kept state files' state.pending c.perform.ensures.keys c.perform.ensures.count c.self.invariant c.self.invariant.pending))

pub returns-in-Ok-clause-ok : goal.returns-in-Ok-clause-ok
returns-in-Ok-clause-ok c =
    let state : TmfState = record { rule = c.self.inside.rule; files = c.self.inside.files.items; pending = reverse c.self.inside.pending.items; locks = c.self.inside.book; slots = c.self.inside.slots.items; commits = c.self.inside.commits } in
    let u = c.args.unit.now in
    let call = c.args.call.now in
    let file = c.index.result.now in
    let slot = c.index_mut-slot.result.now in
    let files' = c.perform.new.files.items in
    let slot' = c.perform.new.slot in
    let lock : Lock = lock_of u call.file c.in_ok-span.span c.mode_of-mode.result in
    let settled : state.pending ≡ [] = ap (λ (s : TmfState). s.pending) c.self.view_is ∙ c.requires.settled in
    let within : call.file < length state.files = subst (λ (s : TmfState). call.file < length s.files) (sym c.self.view_is) c.requires.call.file in
    let lt : u.terminal < length state.slots = subst (λ (s : TmfState). u.terminal < length s.slots) (sym c.self.view_is) c.requires.unit.is_open.terminal in
    let here : slot_at state.slots u.terminal ≡ slot = slot-is state.slots u.terminal slot lt c.index_mut-slot.ensures.value in
    let noted : slot' ≡ with_unit (with_image (key_lengths state.files call.file) (stored state.files call.file) u.terminal call) (slot_at state.slots u.terminal) =
    c.in-Ok.ensures.noted ∙ ap (with_unit (with_image (key_lengths state.files call.file) (stored state.files call.file) u.terminal call)) (sym here) in
    let lock_eq : lock_now (told_of state) u call ≡ lock =
    lock-is state file u call c.in_ok-span.span c.mode_of-mode.result settled within c.index.ensures c.in_ok-span.ensures.span c.mode_of-mode.ensures in (
      subst (λ (s : TmfState). holders (lock_now (told_of s) u call) s.locks ≡ []) c.self.view_is (ap (λ l. holders l state.locks) lock_eq ∙ c.conflict.ensures.none.0 (subst IsNone (sym c.in_default.is) refl)),
      subst (λ (s : TmfState). answer_with c.in-Ok.status c.in-Ok.content ≡ answer_of (key_lengths s.files call.file) (files_of s.files s.pending call.file) call.op call) c.self.view_is
          (c.in-Ok.ensures.answer ∙ sym (ap (λ (g : ℕ → List (List ℕ)). answer_of (key_lengths state.files call.file) (g call.file) call.op call) (settled-files state.files state.pending settled))),
      ap (λ (ls : List Lock). told_of (record { rule = state.rule; files = files'; pending = state.pending; locks = ls; slots = slice_set state.slots u.terminal slot'; commits = state.commits })) c.in_ok-add.ensures.ok
          ∙ (operated-told state u call files' slot' lock settled c.perform.ensures.keys c.perform.ensures.count lt noted c.in-Ok.ensures.ok lock_eq
          ∙ ap (λ (s : TmfState). after_operation (told_of s) u call) c.self.view_is),
    )
