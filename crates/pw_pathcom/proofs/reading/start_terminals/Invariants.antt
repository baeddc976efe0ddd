use Rattle.std.proofs.Common.{◌≡◌, ◌++◌, map, take, drop}
use Rattle.pw_pathcom.specs.Reading.{start_terminal}
use Rattle.pw_pathcom.proofs.reading.start_terminals.Given as goal

abbrev pub invariant-loop-terminal : goal.invariant-loop-terminal
invariant-loop-terminal l =
    l.terminal-items ≡ map (start_terminal l.line l.name) (take l.terminal-index l.initial.terminal-items) ++ drop l.terminal-index l.initial.terminal-items
