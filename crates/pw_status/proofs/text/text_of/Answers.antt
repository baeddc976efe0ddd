use Rattle.std.proofs.Common.{◌∙◌, List, ◌++◌, ap, length}
use Rattle.pw_status.specs.Counts.{unit_counts}
use Rattle.pw_status.specs.declared.counts.UnitCounts.{UnitCounts}
use Rattle.pw_event.specs.declared.event.Event.{Event}
use Rattle.pw_status.specs.Text.{entries_line, lines_to, units_line}
use Rattle.pw_status.proofs.Telling.{joined, units-told}
use Rattle.pw_status.specs.Lines.{class_watch_line, file_of, pair_watch_line, terminal_of}
use Rattle.pw_status.specs.Watching.{sys_in, watched}
use Rattle.pw_status.proofs.text.text_of.Goals as goal

pub returns : goal.returns
returns c =
    let w = c.args.world.now in
    let watch = watched w in
    let sys = sys_in watch in
    let log = w.ledger.log in
    joined (entries_line (length log)) (lines_to (pair_watch_line watch) (length w.keep.system.tcps)) (lines_to (terminal_of watch) (length w.keep.system.terminals))
    (lines_to (class_watch_line watch) (length w.keep.system.classes)) (lines_to (file_of watch) (length w.keep.system.files)) (units_line (unit_counts sys log)) _ _ _ _ _ _ _
    c.new-text.ensures
    (c.in_ok-print_entries.ensures ∙ ap (λ (entries : List Event). c.new-text.result ++ entries_line (length entries)) c.log.ensures.log)
    c.in_ok-print_pairs.ensures c.in_ok-print_terminals.ensures c.in_ok-print_classes.ensures c.in_ok-print_files.ensures
    (c.in_ok-print_units.ensures ∙ ap (λ (units : UnitCounts). c.print_files.new.text ++ units_line units)
    (c.units.ensures ∙ units-told w.keep.system sys log c.args.tally.now c.requires.counted))
