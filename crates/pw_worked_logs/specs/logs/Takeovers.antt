-- Worked logs of takeovers, and of backups that fail and are raised again.
use Rattle.std.specs.Prelude.{List, [], ◌∷◌, ◌++◌, codes, true, false, None}
use Rattle.pw_event.specs.declared.event.Cause.TheVariants as cause
use Rattle.pw_event.specs.declared.event.Ending.TheVariants.{Stopped, NoEntries, Suspended}
use Rattle.pw_event.specs.declared.event.Event.{Event}
use Rattle.pw_event.specs.declared.event.Event.TheVariants.{Show, Key, CheckStart, CheckEnd, CheckCopy, Applied, Begin, Send, Take, Reply, Again, Commit, Restart, FailTcp, Takeover, Raise, End}
use Rattle.pw_event.specs.declared.script.FailLine.TheVariants as line
use Rattle.pw_onecopy.specs.Blocks.{Out, Attempted, Done, Committed, Restarted, Left}
use Rattle.pw_worked_logs.specs.Deck.{KeyedLine, Begins, Ends, Redoes}
use Rattle.pw_worked_logs.specs.logs.Locks.{increments_a1}
use Rattle.pw_worked_logs.specs.logs.Units.{two_texts, entries_to_begin, deck_stock, read_and_rewrite, unit_of_one_send, backup_entries, send_inside}
use Rattle.pw_worked_logs.specs.Worked.{WorkedLog, one_terminal, shown, two_terminals}

-- F2, I A1, F3
abbrev pub transaction : List KeyedLine
transaction = Begins ∷ increments_a1 ∷ Ends ∷ []

-- the entries with which a transaction ends
abbrev pub entries_to_commit : List Event
entries_to_commit = Key 0 3 ∷ CheckEnd 0 ∷ Applied 0 ∷ Commit 0 1 ∷ []

-- the entries of the second attempt of a transaction, whose first restarted by a takeover, up to
-- the end of the terminal
abbrev pub second_attempt : List Event
second_attempt =
    Restart 0 1 (cause.Takeover 0) ∷ (backup_entries ++ (Begin 0 1 1 ∷
    (send_inside 1 2 read_and_rewrite 1 ++ (entries_to_commit ++ End 0 NoEntries ∷ []))))

-- The primary fails behind a COMMIT: the takeover goes on behind the unit.
abbrev pub takeover_after_commit : WorkedLog
takeover_after_commit = record {
  setting = one_terminal transaction (line.Tcp 0 true 14 ∷ []);
  log =
      entries_to_begin ++ (send_inside 0 2 read_and_rewrite 1 ++ (entries_to_commit
      ++ (FailTcp 0 true 1 ∷ Takeover 0 ∷ (backup_entries ++ End 0 NoEntries ∷ []))));
  stock = codes "A10006" ∷ codes "B10007" ∷ [];
  order = Out 0 ∷ Attempted 0 1 Committed 6 ∷ Done 0 NoEntries ∷ [];
  first = shown 0 1 0 1 (codes "00000000A10006") ∷ [];
  second = [];
}

-- The primary fails behind a SEND that has committed: the takeover goes back before it, and TMF
-- answers it again.
abbrev pub takeover_answers_kept_reply : WorkedLog
takeover_answers_kept_reply = record {
  setting = one_terminal (increments_a1 ∷ []) (line.Tcp 0 true 9 ∷ []);
  log =
      backup_entries ++ (unit_of_one_send 1 1 read_and_rewrite ++ (FailTcp 0 true 1 ∷ Takeover 0 ∷
      (backup_entries ++ (Again 0 1 ∷ Show 0 2 0 1 ∷ End 0 NoEntries ∷ []))));
  stock = codes "A10006" ∷ codes "B10007" ∷ [];
  order = Out 0 ∷ Attempted 0 1 Committed 1 ∷ Out 0 ∷ Done 0 NoEntries ∷ [];
  first = shown 0 2 0 1 (codes "00000000A10006") ∷ [];
  second = [];
}

-- The primary fails inside a transaction: its unit restarts.
abbrev pub takeover_restarts_open_unit : WorkedLog
takeover_restarts_open_unit = record {
  setting = one_terminal transaction (line.Tcp 0 true 10 ∷ []);
  log =
      entries_to_begin ++ (send_inside 0 2 read_and_rewrite 1 ++ (FailTcp 0 true 1 ∷ Takeover 0 ∷
      second_attempt));
  stock = codes "A10006" ∷ codes "B10007" ∷ [];
  order = Out 0 ∷ Attempted 0 1 Restarted 4 ∷ Attempted 0 1 Committed 6 ∷ Done 0 NoEntries ∷ [];
  first = shown 0 1 0 1 (codes "00000000A10006") ∷ shown 0 1 1 1 (codes "00000000A10006") ∷ [];
  second = [];
}

-- The primary fails when the backup holds the end path of a unit that has not ended: its unit
-- restarts all the same.
abbrev pub takeover_before_commit : WorkedLog
takeover_before_commit = record {
  setting = one_terminal transaction (line.Tcp 0 true 13 ∷ []);
  log =
      entries_to_begin ++ (send_inside 0 2 read_and_rewrite 1 ++ (Key 0 3 ∷ CheckEnd 0 ∷ Applied 0 ∷
      FailTcp 0 true 1 ∷ Takeover 0 ∷ second_attempt));
  stock = codes "A10006" ∷ codes "B10007" ∷ [];
  order = Out 0 ∷ Attempted 0 1 Restarted 5 ∷ Attempted 0 1 Committed 6 ∷ Done 0 NoEntries ∷ [];
  first = shown 0 1 0 1 (codes "00000000A10006") ∷ shown 0 1 1 1 (codes "00000000A10006") ∷ [];
  second = [];
}

-- The primary fails while a server works for it: the request is gone and the process free.
abbrev pub takeover_frees_process : WorkedLog
takeover_frees_process = record {
  setting = one_terminal (increments_a1 ∷ []) (line.Tcp 0 true 8 ∷ []);
  log =
      entries_to_begin ++ (Send 0 1 0 ∷ Take 0 1 0 ∷ FailTcp 0 true 1 ∷ Takeover 0 ∷
      Restart 0 1 (cause.Takeover 0) ∷ (backup_entries ++ (Begin 0 1 1 ∷ Send 0 1 0 ∷ Take 0 1 0 ∷
      (read_and_rewrite ++ (Reply 0 1 0 None ∷ Show 0 2 0 1 ∷ End 0 NoEntries ∷ [])))));
  stock = codes "A10006" ∷ codes "B10007" ∷ [];
  order =
      Out 0 ∷ Attempted 0 1 Restarted 0 ∷ Attempted 0 1 Committed 1 ∷ Out 0 ∷ Done 0 NoEntries ∷ [];
  first = shown 0 2 0 1 (codes "00000000A10006") ∷ [];
  second = [];
}

-- The unit of T2 has restarted for the older one of T1 when the primary fails, and the backup still
-- holds the end path of its attempt: the takeover goes to its start path. T1's unit restarts too
-- and is left; then T2's begins again.
abbrev pub takeover_passes_stale_end : WorkedLog
takeover_passes_stale_end = record {
  setting = two_terminals (Begins ∷ increments_a1 ∷ []) transaction (line.Tcp 0 true 22 ∷ []);
  log =
      Raise 0 ∷ CheckCopy 0 ∷ Applied 0 ∷ CheckCopy 1 ∷ Applied 1 ∷ Key 0 1 ∷ CheckStart 0 ∷
      Applied 0 ∷ Begin 0 1 0 ∷ Key 1 1 ∷ CheckStart 1 ∷ Applied 1 ∷ Begin 1 1 0 ∷ Key 1 2 ∷
      Send 1 1 0 ∷ Take 0 1 1 ∷ (read_and_rewrite ++ (Reply 0 1 1 None ∷ Show 1 1 0 1 ∷ Key 1 3 ∷
      CheckEnd 1 ∷ Applied 1 ∷ Key 0 2 ∷ Send 0 1 0 ∷ Take 0 1 0 ∷ Restart 1 1 (cause.Older 0 1) ∷
      FailTcp 0 true 1 ∷ Takeover 0 ∷ Restart 0 1 (cause.Takeover 0) ∷ Raise 0 ∷ CheckCopy 0 ∷
      Applied 0 ∷ CheckCopy 1 ∷ Applied 1 ∷ Begin 0 1 1 ∷ (send_inside 1 2 read_and_rewrite 1
      ++ (End 0 NoEntries ∷ Begin 1 1 1 ∷ Key 1 2 ∷ Send 1 1 0 ∷ Take 0 1 1 ∷ (read_and_rewrite
      ++ (Reply 0 1 1 None ∷ Show 1 1 1 1 ∷ Key 1 3 ∷ CheckEnd 1 ∷ Applied 1 ∷ Commit 1 1 ∷
      End 1 NoEntries ∷ []))))));
  stock = codes "A10006" ∷ codes "B10007" ∷ [];
  order =
      Out 0 ∷ Out 1 ∷ Attempted 1 1 Restarted 5 ∷ Attempted 0 1 Restarted 2 ∷ Attempted 0 1 Left 4 ∷
      Done 0 NoEntries ∷ Attempted 1 1 Committed 6 ∷ Done 1 NoEntries ∷ [];
  first = shown 0 1 1 1 (codes "00000000A10006") ∷ [];
  second = shown 1 1 0 1 (codes "00000000A10006") ∷ shown 1 1 1 1 (codes "00000000A10006") ∷ [];
}

-- The primary fails outside units: the screen is repeated under its number.
abbrev pub takeover_repeats_screen : WorkedLog
takeover_repeats_screen = record {
  setting = two_texts (line.Tcp 0 true 4 ∷ []);
  log =
      backup_entries ++ (Show 0 0 0 1 ∷ FailTcp 0 true 1 ∷ Takeover 0 ∷ (backup_entries
      ++ (Show 0 0 0 1 ∷ Show 0 0 0 2 ∷ End 0 Stopped ∷ [])));
  stock = deck_stock;
  order = Out 0 ∷ Out 0 ∷ Done 0 Stopped ∷ [];
  first = shown 0 0 0 1 (codes "ONE") ∷ shown 0 0 0 2 (codes "TWO") ∷ [];
  second = [];
}

-- The backup fails outside units: no screen is repeated.
abbrev pub backup_failure_repeats_no_screen : WorkedLog
backup_failure_repeats_no_screen = record {
  setting = two_texts (line.Tcp 0 false 4 ∷ []);
  log =
      backup_entries ++ (Show 0 0 0 1 ∷ FailTcp 0 false 1 ∷ (backup_entries ++ (Show 0 0 0 2 ∷
      End 0 Stopped ∷ [])));
  stock = deck_stock;
  order = Out 0 ∷ Out 0 ∷ Done 0 Stopped ∷ [];
  first = shown 0 0 0 1 (codes "ONE") ∷ shown 0 0 0 2 (codes "TWO") ∷ [];
  second = [];
}

-- The backup fails while a unit runs: the unit goes on and commits, and a new backup is raised.
abbrev pub backup_failure_in_unit : WorkedLog
backup_failure_in_unit = record {
  setting = one_terminal (increments_a1 ∷ []) (line.Tcp 0 false 8 ∷ []);
  log =
      entries_to_begin ++ (Send 0 1 0 ∷ FailTcp 0 false 1 ∷ Take 0 1 0 ∷ (read_and_rewrite
      ++ (Reply 0 1 0 None ∷ (backup_entries ++ (Show 0 2 0 1 ∷ End 0 NoEntries ∷ [])))));
  stock = codes "A10006" ∷ codes "B10007" ∷ [];
  order = Out 0 ∷ Attempted 0 1 Committed 1 ∷ Out 0 ∷ Done 0 NoEntries ∷ [];
  first = shown 0 2 0 1 (codes "00000000A10006") ∷ [];
  second = [];
}

-- The backup fails inside a transaction: the new one is told the start path of the attempt, so the
-- unit begins again without another message.
abbrev pub backup_failure_in_transaction : WorkedLog
backup_failure_in_transaction = record {
  setting = record (one_terminal (Begins ∷ Redoes ∷ []) (line.Tcp 0 false 7 ∷
      [])) { max_restarts = 1 };
  log =
      entries_to_begin ++ (FailTcp 0 false 1 ∷ (backup_entries ++ (Key 0 2 ∷
      Restart 0 1 cause.Redo ∷ Begin 0 1 1 ∷ Key 0 2 ∷ End 0 (Suspended cause.Redo) ∷ [])));
  stock = deck_stock;
  order =
      Out 0 ∷ Attempted 0 1 Restarted 2 ∷ Attempted 0 1 Left 2 ∷ Done 0 (Suspended cause.Redo) ∷ [];
  first = [];
  second = [];
}

-- The primary fails again before the takeover, and the backup when there is none: nothing changes.
-- It fails while it is raised: the pair is Alone again.
abbrev pub failures_without_effect : WorkedLog
failures_without_effect = record {
  setting =
      two_texts (line.Tcp 0 true 3 ∷ line.Tcp 0 true 4 ∷ line.Tcp 0 false 6 ∷ line.Tcp 0 false 8 ∷
      []);
  log =
      backup_entries ++ (FailTcp 0 true 1 ∷ FailTcp 0 true 2 ∷ Takeover 0 ∷ FailTcp 0 false 3 ∷
      Raise 0 ∷ FailTcp 0 false 4 ∷ (backup_entries ++ (Show 0 0 0 1 ∷ Show 0 0 0 2 ∷
      End 0 Stopped ∷ [])));
  stock = deck_stock;
  order = Out 0 ∷ Out 0 ∷ Done 0 Stopped ∷ [];
  first = shown 0 0 0 1 (codes "ONE") ∷ shown 0 0 0 2 (codes "TWO") ∷ [];
  second = [];
}
