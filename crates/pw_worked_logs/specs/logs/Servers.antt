-- Worked logs of processes that fail.
use Rattle.std.specs.Prelude.{List, [], ◌∷◌, ◌++◌, codes, false, None}
use Rattle.pw_event.specs.declared.event.Cause.TheVariants as cause
use Rattle.pw_event.specs.declared.event.Ending.TheVariants.{NoEntries}
use Rattle.pw_event.specs.declared.event.Event.{Event}
use Rattle.pw_event.specs.declared.event.Event.TheVariants.{Show, Begin, Send, Take, Reply, Restart, FailTcp, FailServer, End}
use Rattle.pw_event.specs.declared.script.FailLine.TheVariants as line
use Rattle.pw_onecopy.specs.Blocks.{Out, Attempted, Done, Committed, Restarted}
use Rattle.pw_worked_logs.specs.logs.Locks.{increments_a1}
use Rattle.pw_worked_logs.specs.logs.Units.{entries_to_begin, read_and_rewrite, backup_entries}
use Rattle.pw_worked_logs.specs.Worked.{WorkedLog, one_terminal, shown}

-- the entries of a SEND of unit 1, one SEND, up to the end of the terminal
abbrev pub sends_and_ends : List Event
sends_and_ends =
    Send 0 1 0 ∷ Take 0 1 0 ∷ (read_and_rewrite ++ (Reply 0 1 0 None ∷ Show 0 2 0 1 ∷
    End 0 NoEntries ∷ []))

-- The process that works for a unit fails: the unit restarts.
abbrev pub server_failure_restarts_unit : WorkedLog
server_failure_restarts_unit = record {
  setting = one_terminal (increments_a1 ∷ []) (line.Server 0 1 1 ∷ []);
  log =
      entries_to_begin ++ (Send 0 1 0 ∷ Take 0 1 0 ∷ FailServer 0 1 1 ∷
      Restart 0 1 (cause.Server 1) ∷ Begin 0 1 1 ∷ sends_and_ends);
  stock = codes "A10006" ∷ codes "B10007" ∷ [];
  order =
      Out 0 ∷ Attempted 0 1 Restarted 0 ∷ Attempted 0 1 Committed 1 ∷ Out 0 ∷ Done 0 NoEntries ∷ [];
  first = shown 0 2 0 1 (codes "00000000A10006") ∷ [];
  second = [];
}

-- A process that works for none fails: nothing changes.
abbrev pub idle_process_fails : WorkedLog
idle_process_fails = record {
  setting = one_terminal (increments_a1 ∷ []) (line.Server 0 2 1 ∷ []);
  log =
      entries_to_begin ++ (Send 0 1 0 ∷ Take 0 1 0 ∷ FailServer 0 2 1 ∷ (read_and_rewrite
      ++ (Reply 0 1 0 None ∷ Show 0 2 0 1 ∷ End 0 NoEntries ∷ [])));
  stock = codes "A10006" ∷ codes "B10007" ∷ [];
  order = Out 0 ∷ Attempted 0 1 Committed 1 ∷ Out 0 ∷ Done 0 NoEntries ∷ [];
  first = shown 0 2 0 1 (codes "00000000A10006") ∷ [];
  second = [];
}

-- The process of a unit fails, and then the backup: the unit restarts when the pair is Paired
-- again.
abbrev pub server_cause_waits_for_backup : WorkedLog
server_cause_waits_for_backup = record {
  setting = one_terminal (increments_a1 ∷ []) (line.Server 0 1 1 ∷ line.Tcp 0 false 8 ∷ []);
  log =
      entries_to_begin ++ (Send 0 1 0 ∷ Take 0 1 0 ∷ FailServer 0 1 1 ∷ FailTcp 0 false 2 ∷
      (backup_entries ++ (Restart 0 1 (cause.Server 1) ∷ Begin 0 1 1 ∷ sends_and_ends)));
  stock = codes "A10006" ∷ codes "B10007" ∷ [];
  order =
      Out 0 ∷ Attempted 0 1 Restarted 0 ∷ Attempted 0 1 Committed 1 ∷ Out 0 ∷ Done 0 NoEntries ∷ [];
  first = shown 0 2 0 1 (codes "00000000A10006") ∷ [];
  second = [];
}
