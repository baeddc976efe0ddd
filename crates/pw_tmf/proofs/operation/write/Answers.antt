use Rattle.std.proofs.Common.{◌≡◌, ◌∙◌, ap, sym, Some}
use Rattle.pw_onecopy.specs.Operation.{key_of, records_behind}
use Rattle.pw_files.specs.Records.{has_key}
use Rattle.pw_tmf.specs.Operation.{refusal}
use Rattle.pw_tmf.specs.Tmf.{key_lengths, stored}
use Rattle.pw_tmf.proofs.Changes.{refused-changes, seen-in, seen-key, unchanged-records, unchanged-unit}
use Rattle.pw_tmf.proofs.Stored.{upd-itself}
use Rattle.pw_tmf.proofs.operation.write.Goals as goal

pub returns-in-Some-clause-ok : goal.returns-in-Some-clause-ok
returns-in-Some-clause-ok c =
    let files = c.args.files.now.items in
    let call = c.args.call.now in
    let file = c.index-file.result.now in
    let n = key_lengths files call.file in
    let records = stored files call.file in
    let seen = seen-in files file call c.is_some.result c.requires.file c.index-file.ensures (seen-key file call c.key_length.result c.key_of-key.result.now c.find-found.result c.is_some.result c.key_length.ensures.length c.key_of-key.ensures c.find-found.ensures.record c.is_some.ensures) in
    let refused : refusal call.op (has_key n records (key_of n call.op call)) ≡ Some c.in-Some.status = ap (refusal call.op) seen ∙ (sym c.refusal.ensures ∙ c.in-Some.is) in
    sym (upd-itself (stored files) call.file (records_behind n records call) (unchanged-records n records call (refused-changes n records call c.in-Some.status refused)))

pub returns-in-Some-clause-noted : goal.returns-in-Some-clause-noted
returns-in-Some-clause-noted c =
    let files = c.args.files.now.items in
    let call = c.args.call.now in
    let file = c.index-file.result.now in
    let n = key_lengths files call.file in
    let records = stored files call.file in
    let seen = seen-in files file call c.is_some.result c.requires.file c.index-file.ensures (seen-key file call c.key_length.result c.key_of-key.result.now c.find-found.result c.is_some.result c.key_length.ensures.length c.key_of-key.ensures c.find-found.ensures.record c.is_some.ensures) in
    let refused : refusal call.op (has_key n records (key_of n call.op call)) ≡ Some c.in-Some.status = ap (refusal call.op) seen ∙ (sym c.refusal.ensures ∙ c.in-Some.is) in
    unchanged-unit n records c.args.terminal call c.args.slot.now (refused-changes n records call c.in-Some.status refused)
