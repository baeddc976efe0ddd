use Rattle.pw_files.proofs.RecordLemmas.{IsFile-empty}
use Rattle.pw_files.proofs.sorted_file.SortedFile.new.Goals as goal

pub invariant_of-result : goal.invariant_of-result
invariant_of-result c = rw c.new.ensures.items (IsFile-empty c.args.key c.requires)
