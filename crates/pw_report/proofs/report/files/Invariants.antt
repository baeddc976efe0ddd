use Rattle.std.proofs.Common.{◌≡◌, ◌<◌, length, ℕ}
use Rattle.pw_report_text.specs.Listing.{records_in}
use Rattle.pw_world.specs.States.{seen}
use Rattle.pw_world_model.specs.Seen.{state_of, sys_of}
use Rattle.pw_paired.specs.Units.{committed_files}
use Rattle.pw_report.proofs.report.files.Given as goal

-- the files so far
abbrev pub invariant-loop-file : goal.invariant-loop-file
invariant-loop-file g l = record {
  count : length l.files.items ≡ l.file;
  records : (f : ℕ) → f < l.file
      → records_in l.files.items f ≡ committed_files (sys_of (seen g.D.Disc.told l.world)) (state_of (seen g.D.Disc.told l.world)) f;
}
