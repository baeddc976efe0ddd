use Rattle.std.proofs.Common.{set}
use Rattle.pw_files.specs.Records.{IsFile}
use Rattle.pw_files.proofs.Changes.{IsFile-replaced, replaced_is}
use Rattle.pw_files.proofs.sorted_file.SortedFileRecordFile.replace.Goals as goal

-- the records after the replacement are a file
is_file : (c : goal.After-drop-index_mut) → IsFile c.self.inside.key (set c.self.inside.records.items c.in-Ok.place c.args.content)
is_file c =
    let fits = rw (← c.self.view_is) at c.requires in
    let found = rw (← c.self.view_is) at c.in-Ok.ensures.place in
    IsFile-replaced c.self.inside.key c.self.inside.records.items c.in-Ok.place c.self.invariant c.args.content fits found

pub invariant_of-self : goal.invariant_of-self
invariant_of-self c = is_file c

pub returns-in-Ok-clause-records : goal.returns-in-Ok-clause-records
returns-in-Ok-clause-records c =
    let found = rw (← c.self.view_is) at c.in-Ok.ensures.place in
    rw (← c.self.view_is) (replaced_is c.self.inside.key c.self.inside.records.items c.in-Ok.place c.args.content found)

pub returns-in-Ok-clause-file : goal.returns-in-Ok-clause-file
returns-in-Ok-clause-file c = is_file c
