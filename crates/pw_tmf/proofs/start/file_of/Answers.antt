use Rattle.std.proofs.Common.{◌≡◌, ◌∙◌, ◌+◌, ◌<◌, ◌++◌, ◌∷◌, [], ap, sym, length, take}
use Rattle.std.proofs.lemmas.List.{take_more}
use Rattle.pw_blocks.specs.Blocks.{records_of}
use Rattle.pw_files.specs.Records.{with_record}
use Rattle.pw_tmf.specs.Starting.{all_put}
use Rattle.pw_tmf.proofs.Starting.{all_put-push}
use Rattle.pw_tmf.proofs.start.file_of.Goals as goal

pub loop-content-preserved : goal.loop-content-preserved
loop-content-preserved c =
    let key = c.args.key in
    let i = c.loop-content.content-index in
    let records = c.args.records.now in
    let content = c.content-item.result in
    let lt : i < length records = c.loop-content-test.true in
    let more : take (i + 1) records ≡ take i records ++ content ∷ [] = take_more records i content lt ∙ ap (λ x. take i records ++ x ∷ []) (sym c.content-item.is) in
    record {
      key_is = c.put.ensures.key ∙ c.loop-content.invariant.key_is;
      put = c.in_ok-put.ensures.ok
          ∙ (ap (λ n. with_record n (records_of c.loop-content.file.blocks) content) c.loop-content.invariant.key_is
          ∙ (ap (λ rs. with_record key rs content) c.loop-content.invariant.put ∙ sym (ap (all_put key []) more ∙ all_put-push key [] (take i records) content)));
    }
