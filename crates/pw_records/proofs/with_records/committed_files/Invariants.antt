-- the files so far
use Rattle.std.proofs.Common.{◌≡◌, take}
use Rattle.pw_records.specs.Records.{files_with}
use Rattle.pw_tmf.specs.Committed.{committed}
use Rattle.pw_records.proofs.with_records.committed_files.Given as goal

abbrev pub invariant-loop-number : goal.invariant-loop-number
invariant-loop-number g l = l.copies ≡ files_with (take l.number l.files) (committed (g.D.Disc.told l.disc))
