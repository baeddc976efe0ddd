-- the records of each file so far
use Rattle.std.proofs.Common.{◌≡◌, ℕ, ◌<◌, length}
use Rattle.pw_report_text.specs.Listing.{records_in}
use Rattle.pw_tmf.specs.Committed.{committed}
use Rattle.pw_tmf.specs.Tmf.{told_of}
use Rattle.pw_deck_runs.proofs.recovery.found.listed.Given as goal

abbrev pub invariant-loop-file : goal.invariant-loop-file
invariant-loop-file l = record {
  count : length l.files.items ≡ l.file;
  records : (f : ℕ) → f < l.file → records_in l.files.items f ≡ committed (told_of l.trail.tmf) f;
}
