use Rattle.pw_files.specs.Records.{IsFile}
use Rattle.pw_files.proofs.Changes.{IsFile-removed}
use Rattle.pw_files.proofs.sorted_file.SortedFileRecordFile.remove.Goals as goal

-- the records after the removal are a file
is_file : (c : goal.After-drop-remove) → IsFile c.self.inside.key c.remove.new.self.items
is_file c =
    let found = rw (← c.self.view_is) at c.in-Ok.ensures.place in
    IsFile-removed c.self.inside.key c.self.inside.records.items c.in-Ok.place c.self.invariant c.args.key.now found c.remove.new.self.items c.remove.ensures.items

pub invariant_of-self : goal.invariant_of-self
invariant_of-self c = is_file c

pub returns-in-Ok-clause-file : goal.returns-in-Ok-clause-file
returns-in-Ok-clause-file c = is_file c
