-- The lines of a status text, by the number of a pair, a terminal, a class or a file.
use Rattle.std.specs.Prelude.{ℕ, List}
use Rattle.pw_status.specs.Counts.{class_counts, file_counts, terminal_counts}
use Rattle.pw_pair.specs.Follows.{mode_as}
use Rattle.pw_status.specs.Text.{class_line, file_line, pair_line, terminal_line}
use Rattle.pw_status.specs.Watching.{WatchState, state_in, sys_in}

-- the line of a pair, by its number
abbrev pub pair_watch_line : WatchState → ℕ → List ℕ
pair_watch_line watch p = pair_line watch.system p (mode_as ((state_in watch).modes p))

-- the line of a terminal, by its number
abbrev pub terminal_of : WatchState → ℕ → List ℕ
terminal_of watch t =
    terminal_line watch.system t ((state_in watch).terms t).ending (terminal_counts (sys_in watch) watch.log t)

-- the line of a class, by its number
abbrev pub class_watch_line : WatchState → ℕ → List ℕ
class_watch_line watch c = class_line watch.system c (class_counts (sys_in watch) watch.log c)

-- the line of a file, by its number
abbrev pub file_of : WatchState → ℕ → List ℕ
file_of watch f = file_line watch.system f (file_counts (sys_in watch) watch.log f)
