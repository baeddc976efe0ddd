-- Worked logs of one terminal without failures: what its operations answer and do, and how its
-- units and the terminal end.
use Rattle.std.specs.Prelude.{ℕ, ◌+◌, List, [], ◌∷◌, ◌++◌, codes, None, Some}
use Rattle.pw_code.specs.declared.file.FileOp.TheVariants.{Read, Next, Write, Rewrite, Delete}
use Rattle.pw_code.specs.declared.lock.LockMode.TheVariants.{Shared, Exclusive}
use Rattle.pw_code.specs.declared.lock.LockRule.TheVariants.{ReadersShare}
use Rattle.pw_event.specs.declared.event.Cause.TheVariants.{Redo}
use Rattle.pw_event.specs.declared.event.Ending.TheVariants.{Stopped, NoEntries, Fault, Suspended}
use Rattle.pw_event.specs.declared.event.Event.{Event}
use Rattle.pw_event.specs.declared.event.Event.TheVariants.{Show, Key, CheckStart, CheckEnd, CheckCopy, Applied, Begin, Send, Take, File, Reply, Commit, Back, Restart, Raise, End}
use Rattle.pw_event.specs.declared.script.FailLine.{FailLine}
use Rattle.pw_onecopy.specs.Blocks.{Out, Attempted, Done, Committed, Aborted, Restarted, Left}
use Rattle.pw_worked_logs.specs.Deck.{Displays, Sends, Begins, Drops, Ends, Redoes, WorkedSetting}
use Rattle.pw_worked_logs.specs.logs.Locks.{increments_a1}
use Rattle.pw_worked_logs.specs.Worked.{WorkedLog, one_terminal, shown}

-- the records of the deck
abbrev pub deck_stock : List (List ℕ)
deck_stock = codes "A10005" ∷ codes "B10007" ∷ []

-- the entries that make the pair of one terminal Paired
abbrev pub backup_entries : List Event
backup_entries = Raise 0 ∷ CheckCopy 0 ∷ Applied 0 ∷ []

-- the entries of a unit that is one SEND, from its entry line on: its number, the line's number,
-- and what the server does
abbrev pub unit_of_one_send : ℕ → ℕ → List Event → List Event
unit_of_one_send n k operations =
    Key 0 k ∷ CheckStart 0 ∷ Applied 0 ∷ Begin 0 n 0 ∷ Send 0 n 0 ∷ Take 0 1 0 ∷ (operations
    ++ Reply 0 1 0 None ∷ Show 0 (n + n) 0 1 ∷ [])

-- the entries with which unit 1, a transaction, begins
abbrev pub entries_to_begin : List Event
entries_to_begin = backup_entries ++ (Key 0 1 ∷ CheckStart 0 ∷ Applied 0 ∷ Begin 0 1 0 ∷ [])

-- the entries of a SEND of unit 1 in it, from entry line k on: the attempt's restarts, what the
-- server does and the refresh
abbrev pub send_inside : ℕ → ℕ → List Event → ℕ → List Event
send_inside r k operations shows =
    Key 0 k ∷ Send 0 1 0 ∷ Take 0 1 0 ∷ (operations ++ Reply 0 1 0 None ∷ Show 0 1 r shows ∷ [])

-- the operations of I A1
abbrev pub read_and_rewrite : List Event
read_and_rewrite = File 0 1 Read Shared 0 0 ∷ File 0 1 Rewrite Exclusive 0 0 ∷ []

-- a program that displays two texts and stops, with these failure lines
abbrev pub two_texts : List FailLine → WorkedSetting
two_texts script = record {
  programs = Displays (codes "ONE" ∷ codes "TWO" ∷ []) ∷ [];
  max_restarts = 5;
  rule = ReadersShare;
  script = script;
}

-- A program displays two texts and stops.
abbrev pub two_displays : WorkedLog
two_displays = record {
  setting = two_texts [];
  log = backup_entries ++ (Show 0 0 0 1 ∷ Show 0 0 0 2 ∷ End 0 Stopped ∷ []);
  stock = deck_stock;
  order = Out 0 ∷ Out 0 ∷ Done 0 Stopped ∷ [];
  first = shown 0 0 0 1 (codes "ONE") ∷ shown 0 0 0 2 (codes "TWO") ∷ [];
  second = [];
}

-- A WRITE of a key that is there has status 10, a DELETE of one that is not 11, a READ NEXT behind
-- the last one 1.
abbrev pub duplicate_missing_and_end_of_file : WorkedLog
duplicate_missing_and_end_of_file = record {
  setting =
      one_terminal (Sends (codes "WA10007") ∷ Sends (codes "DC90007") ∷ Sends (codes "NB10007") ∷
      []) [];
  log =
      backup_entries ++ (unit_of_one_send 1 1 (File 0 1 Write Exclusive 0 10 ∷ [])
      ++ (unit_of_one_send 2 2 (File 0 1 Delete Exclusive 0 11 ∷ [])
      ++ (unit_of_one_send 3 3 (File 0 1 Next Shared 0 1 ∷ []) ++ End 0 NoEntries ∷ [])));
  stock = deck_stock;
  order =
      Out 0 ∷ Attempted 0 1 Committed 1 ∷ Out 0 ∷ Out 0 ∷ Attempted 0 2 Committed 1 ∷ Out 0 ∷
      Out 0 ∷ Attempted 0 3 Committed 1 ∷ Out 0 ∷ Done 0 NoEntries ∷ [];
  first =
      shown 0 2 0 1 (codes "00000010      ") ∷ shown 0 4 0 1 (codes "00000011      ") ∷
      shown 0 6 0 1 (codes "00000001      ") ∷ [];
  second = [];
}

-- A READ, a REWRITE and a READ WITH LOCK of a key that is not there have status 11, a READ NEXT
-- WITH LOCK behind the last one 1.
abbrev pub missing_records : WorkedLog
missing_records = record {
  setting =
      one_terminal (Sends (codes "RC90000") ∷ Sends (codes "UC90001") ∷ Sends (codes "LC90000") ∷
      Sends (codes "MB10000") ∷ []) [];
  log =
      backup_entries ++ (unit_of_one_send 1 1 (File 0 1 Read Shared 0 11 ∷ [])
      ++ (unit_of_one_send 2 2 (File 0 1 Rewrite Exclusive 0 11 ∷ [])
      ++ (unit_of_one_send 3 3 (File 0 1 Read Exclusive 0 11 ∷ [])
      ++ (unit_of_one_send 4 4 (File 0 1 Next Exclusive 0 1 ∷ []) ++ End 0 NoEntries ∷ []))));
  stock = deck_stock;
  order =
      Out 0 ∷ Attempted 0 1 Committed 1 ∷ Out 0 ∷ Out 0 ∷ Attempted 0 2 Committed 1 ∷ Out 0 ∷
      Out 0 ∷ Attempted 0 3 Committed 1 ∷ Out 0 ∷ Out 0 ∷ Attempted 0 4 Committed 1 ∷ Out 0 ∷
      Done 0 NoEntries ∷ [];
  first =
      shown 0 2 0 1 (codes "00000011      ") ∷ shown 0 4 0 1 (codes "00000011      ") ∷
      shown 0 6 0 1 (codes "00000011      ") ∷ shown 0 8 0 1 (codes "00000001      ") ∷ [];
  second = [];
}

-- A record is written in its place, found as the next one, replaced, read and deleted.
abbrev pub each_operation : WorkedLog
each_operation = record {
  setting =
      one_terminal (Sends (codes "WA50001") ∷ Sends (codes "NA10000") ∷ Sends (codes "UA50002") ∷
      Sends (codes "LA50000") ∷ Sends (codes "DA10000") ∷ []) [];
  log =
      backup_entries ++ (unit_of_one_send 1 1 (File 0 1 Write Exclusive 0 0 ∷ [])
      ++ (unit_of_one_send 2 2 (File 0 1 Next Shared 0 0 ∷ [])
      ++ (unit_of_one_send 3 3 (File 0 1 Rewrite Exclusive 0 0 ∷ [])
      ++ (unit_of_one_send 4 4 (File 0 1 Read Exclusive 0 0 ∷ [])
      ++ (unit_of_one_send 5 5 (File 0 1 Delete Exclusive 0 0 ∷ []) ++ End 0 NoEntries ∷ [])))));
  stock = codes "A50002" ∷ codes "B10007" ∷ [];
  order =
      Out 0 ∷ Attempted 0 1 Committed 1 ∷ Out 0 ∷ Out 0 ∷ Attempted 0 2 Committed 1 ∷ Out 0 ∷
      Out 0 ∷ Attempted 0 3 Committed 1 ∷ Out 0 ∷ Out 0 ∷ Attempted 0 4 Committed 1 ∷ Out 0 ∷
      Out 0 ∷ Attempted 0 5 Committed 1 ∷ Out 0 ∷ Done 0 NoEntries ∷ [];
  first =
      shown 0 2 0 1 (codes "00000000      ") ∷ shown 0 4 0 1 (codes "00000000A50001") ∷
      shown 0 6 0 1 (codes "00000000      ") ∷ shown 0 8 0 1 (codes "00000000A50002") ∷
      shown 0 10 0 1 (codes "00000000      ") ∷ [];
  second = [];
}

-- A unit that is open at the end of the entry lines is left: its change is undone.
abbrev pub open_unit_is_left : WorkedLog
open_unit_is_left = record {
  setting = one_terminal (Begins ∷ increments_a1 ∷ []) [];
  log = entries_to_begin ++ (send_inside 0 2 read_and_rewrite 1 ++ End 0 NoEntries ∷ []);
  stock = deck_stock;
  order = Out 0 ∷ Attempted 0 1 Left 4 ∷ Done 0 NoEntries ∷ [];
  first = shown 0 1 0 1 (codes "00000000A10006") ∷ [];
  second = [];
}

-- A transaction ends and its change stays.
abbrev pub committed_transaction : WorkedLog
committed_transaction = record {
  setting = one_terminal (Begins ∷ increments_a1 ∷ Ends ∷ []) [];
  log =
      entries_to_begin ++ (send_inside 0 2 read_and_rewrite 1 ++ (Key 0 3 ∷ CheckEnd 0 ∷ Applied 0 ∷
      Commit 0 1 ∷ End 0 NoEntries ∷ []));
  stock = codes "A10006" ∷ codes "B10007" ∷ [];
  order = Out 0 ∷ Attempted 0 1 Committed 6 ∷ Done 0 NoEntries ∷ [];
  first = shown 0 1 0 1 (codes "00000000A10006") ∷ [];
  second = [];
}

-- A transaction is dropped: the record that it wrote is gone, and the one that it deleted is there
-- again.
abbrev pub dropped_transaction : WorkedLog
dropped_transaction = record {
  setting =
      one_terminal (Begins ∷ Sends (codes "WC90001") ∷ Sends (codes "DA10000") ∷ Drops ∷ []) [];
  log =
      entries_to_begin ++ (send_inside 0 2 (File 0 1 Write Exclusive 0 0 ∷ []) 1
      ++ (send_inside 0 3 (File 0 1 Delete Exclusive 0 0 ∷ []) 2 ++ (Key 0 4 ∷ CheckEnd 0 ∷
      Applied 0 ∷ Back 0 1 ∷ End 0 NoEntries ∷ [])));
  stock = deck_stock;
  order = Out 0 ∷ Attempted 0 1 Aborted 9 ∷ Done 0 NoEntries ∷ [];
  first = shown 0 1 0 1 (codes "00000000      ") ∷ shown 0 1 0 2 (codes "00000000      ") ∷ [];
  second = [];
}

-- A program restarts its transaction each time, with MAXTMFRESTARTS 1.
abbrev pub redo_until_suspended : WorkedLog
redo_until_suspended = record {
  setting = record (one_terminal (Begins ∷ increments_a1 ∷ Redoes ∷ []) []) { max_restarts = 1 };
  log =
      entries_to_begin ++ (send_inside 0 2 read_and_rewrite 1 ++ (Key 0 3 ∷ Restart 0 1 Redo ∷
      Begin 0 1 1 ∷ (send_inside 1 2 read_and_rewrite 1 ++ (Key 0 3 ∷ End 0 (Suspended Redo) ∷
      []))));
  stock = deck_stock;
  order = Out 0 ∷ Attempted 0 1 Restarted 5 ∷ Attempted 0 1 Left 5 ∷ Done 0 (Suspended Redo) ∷ [];
  first = shown 0 1 0 1 (codes "00000000A10006") ∷ shown 0 1 1 1 (codes "00000000A10006") ∷ [];
  second = [];
}

-- A transaction that begins inside another is run fault 205; the unit is left.
abbrev pub begins_within : WorkedLog
begins_within = record {
  setting = one_terminal (Begins ∷ Begins ∷ []) [];
  log = entries_to_begin ++ (Key 0 2 ∷ End 0 (Fault 205) ∷ []);
  stock = deck_stock;
  order = Out 0 ∷ Attempted 0 1 Left 2 ∷ Done 0 (Fault 205) ∷ [];
  first = [];
  second = [];
}

-- A server has a run fault: its program has it too, and the unit is left.
abbrev pub server_breaks : WorkedLog
server_breaks = record {
  setting = one_terminal (Sends (codes "XA10000") ∷ []) [];
  log =
      backup_entries ++ (Key 0 1 ∷ CheckStart 0 ∷ Applied 0 ∷ Begin 0 1 0 ∷ Send 0 1 0 ∷
      Take 0 1 0 ∷ Reply 0 1 0 (Some 204) ∷ End 0 (Fault 204) ∷ []);
  stock = deck_stock;
  order = Out 0 ∷ Attempted 0 1 Left 1 ∷ Done 0 (Fault 204) ∷ [];
  first = [];
  second = [];
}
