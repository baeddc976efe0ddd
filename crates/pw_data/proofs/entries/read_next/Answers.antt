use Rattle.std.proofs.Common.{◌≡◌, ◌++◌, ◌∷◌, sym, ap, ◌∙◌}
use Rattle.pw_base.specs.First.{least}
use Rattle.pw_data.specs.Parts.{part_of, parts_from}
use Rattle.pw_data.specs.Entries.{faults_of_parts, data_entries_of}
use Rattle.pw_data.proofs.Readings.{after-heading, after-entry, entries-further, faults-further}
use Rattle.pw_data.proofs.entries.read_next.Goals as goal

heading : (c : goal.After-found-1) → parts_from c.args.cursor.now.text c.args.found.now.linked 0 c.args.cursor.now.tokens
    ≡ parts_from c.args.cursor.now.text c.take_heading-found.result 0 c.take_heading-found.new.cursor.tokens
heading c =
    after-heading c.args.cursor.now c.take_heading-found.new.cursor c.args.found.now.linked c.take_heading-found.result (sym c.is_heading.ensures ∙ c.if-is_heading.true) c.take_heading-found.ensures.linked c.take_heading-found.ensures.left

pub returns-then-is_heading-clause-entries : goal.returns-then-is_heading-clause-entries
returns-then-is_heading-clause-entries c = sym (ap (λ parts. c.args.found.now.entries.items ++ data_entries_of c.args.found.now.server c.args.cursor.now.text parts) (heading c))

pub returns-then-is_heading-clause-faults : goal.returns-then-is_heading-clause-faults
returns-then-is_heading-clause-faults c = sym (ap (λ parts. least c.args.found.now.known (faults_of_parts c.args.found.now.server c.args.cursor.now.text parts)) (heading c))

entry : (c : goal.In_ok-read_part) → parts_from c.args.cursor.now.text c.args.found.now.linked 0 c.args.cursor.now.tokens
    ≡ part_of c.args.found.now.linked c.take_entry-part.result.tokens ∷ parts_from c.args.cursor.now.text c.args.found.now.linked 0 c.take_entry-part.new.cursor.tokens
entry c =
    after-entry c.args.cursor.now c.take_entry-part.result c.take_entry-part.new.cursor c.args.found.now.linked (sym c.is_heading.ensures ∙ c.if-is_heading.false) c.requires
    c.take_entry-part.ensures.tokens c.take_entry-part.ensures.left (c.take_entry-part.ensures.some c.requires)

pub returns-clause-entries : goal.returns-clause-entries
returns-clause-entries c =
    entries-further c.args.found.now.server c.args.cursor.now.text c.take_entry-part.result c.args.found.now.linked c.read_part.new.found.linked c.args.cursor.now.tokens c.take_entry-part.new.cursor.tokens
    (entry c) c.take_entry-part.ensures.text c.read_part.ensures.linked c.args.found.now.entries.items c.read_part.new.found.entries.items c.in_ok-read_part.ensures.entries

pub returns-clause-faults : goal.returns-clause-faults
returns-clause-faults c =
    faults-further c.args.found.now.server c.args.cursor.now.text c.take_entry-part.result c.args.found.now.linked c.read_part.new.found.linked c.args.cursor.now.tokens c.take_entry-part.new.cursor.tokens
    (entry c) c.take_entry-part.ensures.text c.read_part.ensures.linked c.args.found.now.known c.read_part.new.found.known c.in_ok-read_part.ensures.faults
