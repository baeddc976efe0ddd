use Rattle.std.proofs.Common.{◌≡◌, ◌++◌}
use Rattle.pw_report_text.specs.Listing.{files_to, records_in}
use Rattle.pw_report_text.proofs.parts.print_files.Given as goal

-- the files so far
abbrev pub invariant-loop-file : goal.invariant-loop-file
invariant-loop-file l = l.text ≡ l.fn.text ++ files_to l.system (records_in l.files) l.file
