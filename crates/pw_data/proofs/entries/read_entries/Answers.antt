use Rattle.std.proofs.Common.{◌≡◌, ◌++◌, length, sym, ap, ◌∙◌}
use Rattle.std.proofs.lemmas.Bool.{eqb-true}
use Rattle.std.proofs.lemmas.List.{append-nil}
use Rattle.pw_base.specs.First.{least}
use Rattle.pw_data.specs.Entries.{faults_of_parts, data_entries_of}
use Rattle.pw_data.proofs.Readings.{parts-none}
use Rattle.pw_data.proofs.entries.read_entries.Goals as goal

pub returns-clause-entries : goal.returns-clause-entries
returns-clause-entries c =
    let none : length c.loop-cursor.cursor.tokens ≡ 0 = eqb-true (length c.loop-cursor.cursor.tokens) 0 (sym c.loop-cursor-test.ensures) in
    sym (ap (λ parts. c.loop-cursor.found.entries.items ++ data_entries_of c.args.server c.args.text.now parts) (parts-none c.args.text.now c.loop-cursor.found.linked c.loop-cursor.cursor.tokens none) ∙ append-nil c.loop-cursor.found.entries.items)
    ∙ c.loop-cursor.invariant.entries

pub returns-clause-faults : goal.returns-clause-faults
returns-clause-faults c =
    let none : length c.loop-cursor.cursor.tokens ≡ 0 = eqb-true (length c.loop-cursor.cursor.tokens) 0 (sym c.loop-cursor-test.ensures) in
    sym (ap (λ parts. least c.loop-cursor.found.known (faults_of_parts c.args.server c.args.text.now parts)) (parts-none c.args.text.now c.loop-cursor.found.linked c.loop-cursor.cursor.tokens none))
    ∙ c.loop-cursor.invariant.faults
