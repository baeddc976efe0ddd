use Rattle.std.proofs.Common.{◌≡◌, ◌∙◌, ◌+◌, ◌<◌, ◌++◌, ◌∷◌, [], ap, sym, length, map, take}
use Rattle.std.proofs.lemmas.List.{take_more}
use Rattle.pw_tmf.specs.Starting.{all_put, key_in, key_in_system, records_in, records_in_system}
use Rattle.pw_tmf.proofs.Starting.{push-both}
use Rattle.pw_tmf.proofs.start.files_of.Goals as goal

pub loop-file-preserved : goal.loop-file-preserved
loop-file-preserved c =
    let i = c.loop-file.file-index in
    let files = c.args.files.now in
    let file = c.file-item.result in
    let made = c.loop-file.made.items in
    let new = c.in_ok-file_of.field-0 in
    let lt : i < length files = c.loop-file-test.true in
    let more : take (i + 1) files ≡ take i files ++ file ∷ [] = take_more files i file lt ∙ ap (λ x. take i files ++ x ∷ []) (sym c.file-item.is) in
    record {
      keys = ap (map key_in) c.in_ok-push.ensures.items ∙ (push-both key_in key_in_system made (take i files) new file c.loop-file.invariant.keys c.in_ok-file_of.ensures.key ∙ sym (ap (map key_in_system) more));
      records = ap (map records_in) c.in_ok-push.ensures.items
          ∙ (push-both records_in records_in_system made (take i files) new file c.loop-file.invariant.records (c.in_ok-file_of.ensures.records ∙ ap (all_put file.key []) c.as_slice.ensures)
          ∙ sym (ap (map records_in_system) more));
    }
