-- What STATUS and STATS count in a log.
use Rattle.std.specs.Prelude.{ℕ, zero, suc, ◌+◌, ◌==◌, max, Bool, true, false, List, [], ◌∷◌, count_by, length, Option, Some, None, is_some, if◌then◌else◌}
use Rattle.pw_event.specs.declared.event.Cause.{Cause}
use Rattle.pw_event.specs.declared.event.Cause.TheVariants as cause
use Rattle.pw_event.specs.declared.event.Event.{Event}
use Rattle.pw_event.specs.declared.event.Event.TheVariants.{Begin, Restart, Take}
use Rattle.pw_report_text.specs.Listing.{refreshes_counted_once}
use Rattle.pw_onecopy.specs.Behaviour.{Behaviour}
use Rattle.pw_onecopy.specs.Path.{entries_on}
use Rattle.pw_serial_order.specs.Order.{entry_order}
use Rattle.pw_serial_order.specs.declared.block.Block.{Block}
use Rattle.pw_serial_order.specs.declared.block.Block.TheVariants as block
use Rattle.pw_serial_order.specs.declared.block.How.TheVariants as how
use Rattle.pw_paired.specs.Shown.{refreshes}
use Rattle.pw_paired.specs.State.{State, starting}
use Rattle.pw_paired.specs.Step.{after, effect}
use Rattle.pw_paired.specs.Terminal.{path_of}
use Rattle.pw_status.specs.declared.counts.ClassCounts.{ClassCounts}
use Rattle.pw_status.specs.declared.counts.FileCounts.{FileCounts}
use Rattle.pw_status.specs.declared.counts.TerminalCounts.{TerminalCounts}
use Rattle.pw_status.specs.declared.counts.UnitCounts.{UnitCounts}

-- ---- a terminal

-- it is this one
abbrev pub is_one : ℕ → Option ℕ → Bool
is_one n None = false
is_one n (Some own) = own == n

-- the terminal of a RESTART
abbrev pub restarted_terminal : Event → Option ℕ
restarted_terminal (Restart t n cause) = Some t
restarted_terminal _ = None

-- an entry is a RESTART of this terminal
abbrev pub is_restart_of : ℕ → Event → Bool
is_restart_of t entry = is_one t (restarted_terminal entry)

-- what is counted of a terminal
abbrev pub terminal_counts : Behaviour → List Event → ℕ → TerminalCounts
terminal_counts sys log t = record {
  units = ((after sys log).ended t).number;
  restarts = count_by (is_restart_of t) log;
  entries = entries_on (path_of (after sys log) t);
  shown = length (refreshes_counted_once (refreshes sys log) t);
}

-- ---- a class

-- the class of a TAKE
abbrev pub taken_from : Event → Option ℕ
taken_from (Take c i t) = Some c
taken_from _ = None

-- an entry is a TAKE of this class
abbrev pub is_take_of : ℕ → Event → Bool
is_take_of c entry = is_one c (taken_from entry)

-- how many requests wait for it
abbrev pub waiting : State → ℕ → ℕ
waiting state c = length (state.classes c).waiting

-- how many of its first n processes work
abbrev pub busy_to : State → ℕ → ℕ → ℕ
busy_to state c zero = 0
busy_to state c (suc n) =
    if is_some ((state.classes c).busy (n + 1)) then busy_to state c n + 1 else busy_to state c n

-- the greatest number that waited at once, from a state on
abbrev pub longest_from : Behaviour → State → ℕ → List Event → ℕ
longest_from sys state c [] = waiting state c
longest_from sys state c (entry ∷ log) =
    max (waiting state c) (longest_from sys (effect sys state entry) c log)

-- what is counted of a class
abbrev pub class_counts : Behaviour → List Event → ℕ → ClassCounts
class_counts sys log c = record {
  waiting = waiting (after sys log) c;
  busy = busy_to (after sys log) c (sys.processes c);
  taken = count_by (is_take_of c) log;
  longest = longest_from sys (starting sys) c log;
}

-- ---- a file

-- each FILE entry of an attempt that still runs has a lock
abbrev pub file_counts : Behaviour → List Event → ℕ → FileCounts
file_counts sys log f = record {
  records = length ((after sys log).files f);
  locks = count_by (λ lock. lock.file == f) (after sys log).locks;
}

-- ---- units

-- an entry is a BEGIN
abbrev pub is_begin : Event → Bool
is_begin (Begin t n r) = true
is_begin _ = false

-- a cause is OLDER
abbrev pub is_older : Cause → Bool
is_older (cause.Older o m) = true
is_older _ = false

-- a cause is TAKEOVER
abbrev pub is_takeover : Cause → Bool
is_takeover (cause.Takeover p) = true
is_takeover _ = false

-- a cause is SERVER
abbrev pub is_server : Cause → Bool
is_server (cause.Server k) = true
is_server _ = false

-- a cause is REDO
abbrev pub is_redo : Cause → Bool
is_redo cause.Redo = true
is_redo _ = false

-- RESTART entries with causes of a kind
abbrev pub restarts_by : (Cause → Bool) → Event → Bool
restarts_by kind (Restart t n cause) = kind cause
restarts_by kind _ = false

-- blocks of attempts that are over so
abbrev pub is_committed : Block → Bool
is_committed (block.Ended t n how.Commit) = true
is_committed _ = false

-- a block is of an attempt that was dropped
abbrev pub is_dropped : Block → Bool
is_dropped (block.Ended t n how.Dropped) = true
is_dropped _ = false

-- a block is of an attempt that was left
abbrev pub is_left : Block → Bool
is_left (block.Ended t n how.Left) = true
is_left _ = false

-- the blocks are those that entries give, without those at the end of an unfinished log
abbrev pub unit_counts : Behaviour → List Event → UnitCounts
unit_counts sys log = record {
  begun = count_by is_begin log;
  committed = count_by is_committed (entry_order sys log);
  dropped = count_by is_dropped (entry_order sys log);
  left = count_by is_left (entry_order sys log);
  older = count_by (restarts_by is_older) log;
  takeover = count_by (restarts_by is_takeover) log;
  server = count_by (restarts_by is_server) log;
  redo = count_by (restarts_by is_redo) log;
}
