use Rattle.std.proofs.Common.{◌≡◌, take}
use Rattle.pw_files.proofs.sorted_file.SortedFile.records.Given as goal

-- the records so far are copied
abbrev pub invariant-loop-content : goal.invariant-loop-content
invariant-loop-content l = l.records ≡ take l.content-index l.self.records
