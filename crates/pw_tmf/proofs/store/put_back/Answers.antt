use Rattle.std.proofs.Common.{◌≡◌, ◌∙◌, ap, sym, subst, None}
use Rattle.std.specs.Option.{option_copied}
use Rattle.pw_blocks.specs.Blocks.{records_of}
use Rattle.pw_files.specs.Records.{IsFile, without_key}
use Rattle.pw_paired.specs.Units.{put_back}
use Rattle.pw_tmf.proofs.Missing.{removed-is}
use Rattle.pw_tmf.proofs.store.put_back.Goals as goal

pub returns-in_ok-remove-in-None-clause-ok : goal.returns-in_ok-remove-in-None-clause-ok
returns-in_ok-remove-in-None-clause-ok c =
    let n = c.args.file.now.key in
    let records = records_of c.args.file.now.blocks in
    let after = records_of c.remove.new.self.blocks in
    let file : IsFile n after = subst (λ m. IsFile m after) c.remove.ensures.key_length c.remove.ensures.file in
    let nothing : c.args.image.now.content ≡ None = sym c.content.ensures ∙ ap option_copied c.in-None.is in
    removed-is n records after c.key.result.now c.in_ok-remove-in-None.field-0 file c.in_ok-remove-in-None.ensures.answer c.in_ok-remove-in-None.ensures.records
    ∙ (ap (without_key n records) c.key.ensures ∙ sym (ap (put_back n records c.args.image.now.key) nothing))
