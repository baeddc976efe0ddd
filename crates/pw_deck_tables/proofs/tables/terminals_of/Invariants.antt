use Rattle.std.proofs.Common.{◌≡◌, map, take}
use Rattle.std.specs.List.{filter}
use Rattle.pw_deck_tables.specs.Tables.{terminal_of, is_started}
use Rattle.pw_deck_tables.proofs.tables.terminals_of.Given as goal

abbrev pub invariant-loop-terminal : goal.invariant-loop-terminal
invariant-loop-terminal l = l.infos ≡ map (terminal_of l.tcps l.programs) (filter is_started (take l.terminal-index l.terminals))
