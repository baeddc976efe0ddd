use Rattle.std.proofs.Common.{◌≡◌, ◌++◌, map, take, drop}
use Rattle.std.specs.List.{IsDistinct}
use Rattle.std.specs.Str.{bytes_eq}
use Rattle.pw_deck_tables.specs.Tables.{with_entries}
use Rattle.pw_deck_tables.proofs.Entering.{names, HasTheirs}
use Rattle.pw_deck_tables.proofs.tables.enter_all.Given as goal

abbrev pub invariant-loop-terminal : goal.invariant-loop-terminal
invariant-loop-terminal l = record {
  done : l.terminal-items ≡ map (with_entries l.initial.sections.items) (take l.terminal-index l.initial.terminal-items) ++ drop l.terminal-index l.initial.terminal-items;
  apart : IsDistinct bytes_eq (names (drop l.terminal-index l.initial.terminal-items));
  theirs : HasTheirs l.sections.items l.initial.sections.items (drop l.terminal-index l.initial.terminal-items);
}
