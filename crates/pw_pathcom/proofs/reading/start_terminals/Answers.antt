use Rattle.std.proofs.lemmas.List.Edits.{map_over_more}
use Rattle.pw_pathcom.specs.Reading.{start_terminal}
use Rattle.pw_pathcom.proofs.reading.start_terminals.Goals as goal

pub loop-terminal-preserved : goal.loop-terminal-preserved
loop-terminal-preserved c =
    rw (c.start.ensures, ← c.terminal-item.is)
    (map_over_more (start_terminal c.args.line c.args.name.now) c.deref_mut-terminal-items.result.now c.loop-terminal.terminal-items c.loop-terminal.terminal-index c.terminal-item.result
    c.loop-terminal-test.true c.loop-terminal.invariant c.terminal-item.is)
