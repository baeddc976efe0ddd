-- Worked logs of two units that lock the same records. T1 is terminal 0, T2 is terminal 1, TCP-1 is
-- pair 0, STORE is class 0 and STOCK is file 0.
use Rattle.std.specs.Prelude.{ℕ, List, [], ◌∷◌, ◌++◌, codes, take, None}
use Rattle.pw_code.specs.declared.file.FileOp.TheVariants.{Read, Next, Rewrite}
use Rattle.pw_code.specs.declared.lock.LockMode.TheVariants.{Shared, Exclusive}
use Rattle.pw_code.specs.declared.lock.LockRule.{LockRule}
use Rattle.pw_code.specs.declared.lock.LockRule.TheVariants.{ReadersShare, AllExclusive}
use Rattle.pw_event.specs.declared.event.Cause.TheVariants.{Older}
use Rattle.pw_event.specs.declared.event.Ending.TheVariants.{NoEntries, Suspended}
use Rattle.pw_event.specs.declared.event.Event.{Event}
use Rattle.pw_event.specs.declared.event.Event.TheVariants.{Show, Key, CheckStart, CheckCopy, Applied, Begin, Send, Take, File, Reply, Restart, Raise, End}
use Rattle.pw_onecopy.specs.Blocks.{SerialBlock, Out, Attempted, Done, Committed, Restarted, Left}
use Rattle.pw_worked_logs.specs.Deck.{Keys, KeyedLine, Sends, Begins, WorkedSetting}
use Rattle.pw_worked_logs.specs.Worked.{WorkedLog, shown, two_terminals}

-- the entry line I A1
abbrev pub increments_a1 : KeyedLine
increments_a1 = Sends (codes "IA10000")

-- T1 and T2 both read_and_rewrite A1, with this MAXTMFRESTARTS and rule
abbrev pub two_increment : ℕ → LockRule → WorkedSetting
two_increment max_restarts rule = record {
  programs = Keys (increments_a1 ∷ []) ∷ Keys (increments_a1 ∷ []) ∷ [];
  max_restarts = max_restarts;
  rule = rule;
  script = [];
}

-- the younger unit restarts, T1 commits, and T2 begins again and commits
abbrev pub younger_behind_older : List SerialBlock
younger_behind_older =
    Out 0 ∷ Out 1 ∷ Attempted 1 1 Restarted 0 ∷ Attempted 0 1 Committed 1 ∷ Out 0 ∷
    Attempted 1 1 Committed 1 ∷ Out 1 ∷ Done 0 NoEntries ∷ Done 1 NoEntries ∷ []

-- the entries with which both units have entries_to_begin and are at a process
abbrev pub entries_to_two_takes : List Event
entries_to_two_takes =
    Raise 0 ∷ CheckCopy 0 ∷ Applied 0 ∷ CheckCopy 1 ∷ Applied 1 ∷ Key 0 1 ∷ Key 1 1 ∷
    CheckStart 0 ∷ CheckStart 1 ∷
    Applied 0 ∷ Applied 1 ∷ Begin 0 1 0 ∷ Begin 1 1 0 ∷ Send 0 1 0 ∷ Send 1 1 0 ∷ Take 0 1 0 ∷
    Take 0 2 1 ∷ []

-- Under AllExclusive the younger unit restarts where its lock would conflict, and begins again when
-- the older one has ended.
abbrev pub older_unit_wins : WorkedLog
older_unit_wins = record {
  setting = two_increment 5 AllExclusive;
  log =
      entries_to_two_takes ++ (File 0 1 Read Exclusive 0 0 ∷ Restart 1 1 (Older 0 1) ∷
      File 0 1 Rewrite Exclusive 0 0 ∷ Reply 0 1 0 None ∷ Show 0 2 0 1 ∷ Begin 1 1 1 ∷ Send 1 1 0 ∷
      Take 0 1 1 ∷ File 0 1 Read Exclusive 0 0 ∷ File 0 1 Rewrite Exclusive 0 0 ∷ Reply 0 1 1 None ∷
      Show 1 2 0 1 ∷ End 0 NoEntries ∷ End 1 NoEntries ∷ []);
  stock = codes "A10007" ∷ codes "B10007" ∷ [];
  order = younger_behind_older;
  first = shown 0 2 0 1 (codes "00000000A10006") ∷ [];
  second = shown 1 2 0 1 (codes "00000000A10007") ∷ [];
}

-- Under ReadersShare both units read A1, and the younger one restarts where the older one would
-- rewrite it.
abbrev pub shared_readers : WorkedLog
shared_readers = record {
  setting = two_increment 5 ReadersShare;
  log =
      entries_to_two_takes ++ (File 0 1 Read Shared 0 0 ∷ File 0 2 Read Shared 0 0 ∷
      Restart 1 1 (Older 0 1) ∷ File 0 1 Rewrite Exclusive 0 0 ∷ Reply 0 1 0 None ∷ Show 0 2 0 1 ∷
      Begin 1 1 1 ∷ Send 1 1 0 ∷ Take 0 1 1 ∷ File 0 1 Read Shared 0 0 ∷
      File 0 1 Rewrite Exclusive 0 0 ∷ Reply 0 1 1 None ∷ Show 1 2 0 1 ∷ End 0 NoEntries ∷
      End 1 NoEntries ∷ []);
  stock = codes "A10007" ∷ codes "B10007" ∷ [];
  order = younger_behind_older;
  first = shown 0 2 0 1 (codes "00000000A10006") ∷ [];
  second = shown 1 2 0 1 (codes "00000000A10007") ∷ [];
}

-- With MAXTMFRESTARTS 0 T2 is suspended where it would restart.
abbrev pub suspended_at_limit : LockRule → List Event → WorkedLog
suspended_at_limit rule log = record {
  setting = two_increment 0 rule;
  log = log ++ End 1 (Suspended (Older 0 1)) ∷ [];
  stock = codes "A10005" ∷ codes "B10007" ∷ [];
  order =
      Out 0 ∷ Out 1 ∷ Attempted 1 1 Left 0 ∷ Done 1 (Suspended (Older 0 1)) ∷ Attempted 0 1 Left 0 ∷
      [];
  first = [];
  second = [];
}

abbrev pub suspended_version_1 : WorkedLog
suspended_version_1 = suspended_at_limit AllExclusive (take 18 older_unit_wins.log)

abbrev pub suspended_version_2 : WorkedLog
suspended_version_2 = suspended_at_limit ReadersShare (take 19 shared_readers.log)

-- T1 has read the record after A1, B1, and so locks all keys up to it: the younger unit of T2
-- cannot write A5.
abbrev pub span_lock : WorkedLog
span_lock = record {
  setting = record (two_terminals (Begins ∷ Sends (codes "NA10000") ∷
      []) (Sends (codes "WA50001") ∷ []) []) { rule = AllExclusive };
  log =
      Raise 0 ∷ CheckCopy 0 ∷ Applied 0 ∷ CheckCopy 1 ∷ Applied 1 ∷ Key 0 1 ∷ CheckStart 0 ∷
      Applied 0 ∷ Begin 0 1 0 ∷ Key 0 2 ∷ Send 0 1 0 ∷ Take 0 1 0 ∷ File 0 1 Next Exclusive 0 0 ∷
      Key 1 1 ∷ CheckStart 1 ∷ Applied 1 ∷ Begin 1 1 0 ∷ Send 1 1 0 ∷ Take 0 2 1 ∷
      Restart 1 1 (Older 0 1) ∷ [];
  stock = codes "A10005" ∷ codes "B10007" ∷ [];
  order = Out 0 ∷ Out 1 ∷ Attempted 1 1 Restarted 0 ∷ Attempted 0 1 Left 2 ∷ [];
  first = [];
  second = [];
}

-- A unit keeps its locks behind a reply: the younger unit cannot read A1.
abbrev pub locks_outlive_reply : WorkedLog
locks_outlive_reply = record {
  setting = two_terminals (Begins ∷ increments_a1 ∷ []) (increments_a1 ∷ []) [];
  log =
      Raise 0 ∷ CheckCopy 0 ∷ Applied 0 ∷ CheckCopy 1 ∷ Applied 1 ∷ Key 0 1 ∷ CheckStart 0 ∷
      Applied 0 ∷ Begin 0 1 0 ∷ Key 0 2 ∷ Send 0 1 0 ∷ Take 0 1 0 ∷ File 0 1 Read Shared 0 0 ∷
      File 0 1 Rewrite Exclusive 0 0 ∷ Reply 0 1 0 None ∷ Key 1 1 ∷ CheckStart 1 ∷ Applied 1 ∷
      Begin 1 1 0 ∷ Send 1 1 0 ∷ Take 0 1 1 ∷ Restart 1 1 (Older 0 1) ∷ [];
  stock = codes "A10005" ∷ codes "B10007" ∷ [];
  order = Out 0 ∷ Out 1 ∷ Attempted 1 1 Restarted 0 ∷ Attempted 0 1 Left 3 ∷ [];
  first = [];
  second = [];
}

-- A READ WITH LOCK locks exclusively: the younger unit cannot read A1.
abbrev pub with_lock_reads_exclusive : WorkedLog
with_lock_reads_exclusive = record {
  setting = two_terminals (Sends (codes "KA10000") ∷ []) (Sends (codes "KA10000") ∷ []) [];
  log = entries_to_two_takes ++ (File 0 1 Read Exclusive 0 0 ∷ Restart 1 1 (Older 0 1) ∷ []);
  stock = codes "A10005" ∷ codes "B10007" ∷ [];
  order = Out 0 ∷ Out 1 ∷ Attempted 1 1 Restarted 0 ∷ Attempted 0 1 Left 0 ∷ [];
  first = [];
  second = [];
}

-- A READ NEXT WITH LOCK behind A1 locks exclusively up to the record that it finds, B1: the younger
-- unit cannot read B1.
abbrev pub next_with_lock_reaches_the_found : WorkedLog
next_with_lock_reaches_the_found = record {
  setting = two_terminals (Begins ∷ Sends (codes "MA10000") ∷ []) (Sends (codes "RB10000") ∷ []) [];
  log =
      Raise 0 ∷ CheckCopy 0 ∷ Applied 0 ∷ CheckCopy 1 ∷ Applied 1 ∷ Key 0 1 ∷ CheckStart 0 ∷
      Applied 0 ∷ Begin 0 1 0 ∷ Key 0 2 ∷ Send 0 1 0 ∷ Take 0 1 0 ∷ File 0 1 Next Exclusive 0 0 ∷
      Reply 0 1 0 None ∷ Show 0 1 0 1 ∷ Key 1 1 ∷ CheckStart 1 ∷ Applied 1 ∷ Begin 1 1 0 ∷
      Send 1 1 0 ∷ Take 0 1 1 ∷ Restart 1 1 (Older 0 1) ∷ [];
  stock = codes "A10005" ∷ codes "B10007" ∷ [];
  order = Out 0 ∷ Out 1 ∷ Attempted 1 1 Restarted 0 ∷ Attempted 0 1 Left 4 ∷ [];
  first = shown 0 1 0 1 (codes "00000000B10007") ∷ [];
  second = [];
}

-- And no further: the younger unit reads B2, where there is none.
abbrev pub next_with_lock_goes_no_further : WorkedLog
next_with_lock_goes_no_further = record {
  setting = two_terminals (Begins ∷ Sends (codes "MA10000") ∷ []) (Sends (codes "RB20000") ∷ []) [];
  log =
      take 21 next_with_lock_reaches_the_found.log ++ (File 0 1 Read Shared 0 11 ∷
      Reply 0 1 1 None ∷ Show 1 2 0 1 ∷ End 1 NoEntries ∷ []);
  stock = codes "A10005" ∷ codes "B10007" ∷ [];
  order =
      Out 0 ∷ Out 1 ∷ Attempted 1 1 Committed 1 ∷ Out 1 ∷ Done 1 NoEntries ∷ Attempted 0 1 Left 4 ∷
      [];
  first = shown 0 1 0 1 (codes "00000000B10007") ∷ [];
  second = shown 1 2 0 1 (codes "00000011      ") ∷ [];
}
