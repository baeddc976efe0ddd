use Rattle.std.proofs.Common.{List, ℕ, ◌++◌, ap, ◌∙◌, ◌<◌, length, rules}
use Rattle.pw_report_text.specs.Lines.{record_lines}
use Rattle.pw_report_text.proofs.Filed.{file-step}
use Rattle.pw_report_text.proofs.parts.print_files.Goals as goal

pub loop-file-preserved : goal.loop-file-preserved
loop-file-preserved c =
    let within : c.loop-file.file < length c.args.files.now = search rules in
    file-step c.args.system.now c.args.files.now c.loop-file.file c.index-files-file.result c.file_name.result.now _ c.loop-file.text c.print_file_name.new.text _ within
    c.index-files-file.is c.file_name.ensures c.loop-file.invariant c.in_ok-print_file_name.ensures
    (c.in_ok-print_records.ensures ∙ ap (λ (records : List (List ℕ)). c.print_file_name.new.text ++ record_lines records) c.as_slice.ensures)
