use Rattle.std.proofs.Common.{◌≡◌, ◌++◌, drop}
use Rattle.pw_report_text.specs.Lines.{record_lines}
use Rattle.pw_report_text.proofs.parts.print_records.Given as goal

-- the text so far, and the lines of the records that are left
abbrev pub invariant-loop-content : goal.invariant-loop-content
invariant-loop-content l =
    l.text ++ record_lines (drop l.content-index l.records) ≡ l.initial.text ++ record_lines l.records
