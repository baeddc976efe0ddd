use Rattle.std.proofs.Common.{◌≡◌, ap, sym, inl, inr, false}
use Rattle.pw_onecopy.specs.Operation.{is_change, records_behind}
use Rattle.pw_tmf.specs.Tmf.{key_lengths, stored}
use Rattle.pw_tmf.proofs.Changes.{read-changes, unchanged-records}
use Rattle.pw_tmf.proofs.Stored.{on-ok, upd-itself}
use Rattle.pw_tmf.proofs.operation.perform.Goals as goal

pub returns-in-Read-clause-ok : goal.returns-in-Read-clause-ok
returns-in-Read-clause-ok c =
    let files = c.args.files.now.items in
    let call = c.args.call.now in
    let n = key_lengths files call.file in
    let records = stored files call.file in
    let reads : is_change call.op ≡ false = elim c.in-Read.is as (λ _. is_change call.op ≡ false) [ inl is ↦ ap is_change is | inr is ↦ ap is_change is ] in
    on-ok c.read.result _ (sym (upd-itself (stored files) call.file (records_behind n records call) (unchanged-records n records call (read-changes n records call reads))))

pub returns-in-Next-clause-ok : goal.returns-in-Next-clause-ok
returns-in-Next-clause-ok c =
    let files = c.args.files.now.items in
    let call = c.args.call.now in
    let n = key_lengths files call.file in
    let records = stored files call.file in
    let reads : is_change call.op ≡ false = elim c.in-Next.is as (λ _. is_change call.op ≡ false) [ inl is ↦ ap is_change is | inr is ↦ ap is_change is ] in
    on-ok c.read-in-Next.result _ (sym (upd-itself (stored files) call.file (records_behind n records call) (unchanged-records n records call (read-changes n records call reads))))
