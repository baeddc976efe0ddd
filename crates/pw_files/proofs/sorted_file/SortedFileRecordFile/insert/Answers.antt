use Rattle.pw_files.specs.Records.{IsFile}
use Rattle.pw_files.proofs.Changes.{IsFile-inserted}
use Rattle.pw_files.proofs.sorted_file.SortedFileRecordFile.insert.Goals as goal

-- the records after the insertion are a file
is_file : (c : goal.In_ok-insert-in-Err) → IsFile c.self.inside.key c.insert.new.self.items
is_file c =
    let fits = rw (← c.self.view_is) at c.requires in
    let missing = rw (← c.self.view_is) at c.in-Err.ensures.place in
    IsFile-inserted c.self.inside.key c.self.inside.records.items c.in-Err.place c.self.invariant c.args.content fits missing c.insert.new.self.items c.in_ok-insert-in-Err.ensures.items

pub invariant_of-self-in-Err : goal.invariant_of-self-in-Err
invariant_of-self-in-Err c = is_file c

pub returns-in_ok-insert-in-Err-clause-file : goal.returns-in_ok-insert-in-Err-clause-file
returns-in_ok-insert-in-Err-clause-file c = is_file c
