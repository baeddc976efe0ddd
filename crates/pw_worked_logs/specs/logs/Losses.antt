-- Worked logs of pairs that are lost.
use Rattle.std.specs.Prelude.{[], ◌∷◌, ◌++◌, codes, true, false}
use Rattle.pw_event.specs.declared.event.Ending.TheVariants.{Lost}
use Rattle.pw_event.specs.declared.event.Event.TheVariants.{Key, CheckStart, CheckCopy, Applied, Begin, Send, Take, FailTcp, FailServer, Takeover, Raise, End}
use Rattle.pw_event.specs.declared.script.FailLine.TheVariants as line
use Rattle.pw_onecopy.specs.Blocks.{Out, Attempted, Done, Committed, Left}
use Rattle.pw_worked_logs.specs.Deck.{Begins}
use Rattle.pw_worked_logs.specs.logs.Locks.{increments_a1}
use Rattle.pw_worked_logs.specs.logs.Takeovers.{entries_to_commit, transaction}
use Rattle.pw_worked_logs.specs.logs.Units.{two_texts, entries_to_begin, deck_stock, read_and_rewrite, send_inside}
use Rattle.pw_worked_logs.specs.Worked.{WorkedLog, one_terminal, shown, two_terminals}

-- The primary fails before there is a backup.
abbrev pub primary_fails_before_backup : WorkedLog
primary_fails_before_backup = record {
  setting = two_texts (line.Tcp 0 true 0 ∷ []);
  log = FailTcp 0 true 1 ∷ End 0 Lost ∷ [];
  stock = deck_stock;
  order = Done 0 Lost ∷ [];
  first = [];
  second = [];
}

-- The new primary fails before the next backup is up to date.
abbrev pub pair_lost_while_raising : WorkedLog
pair_lost_while_raising = record {
  setting = one_terminal transaction (line.Tcp 0 true 14 ∷ line.Tcp 0 true 17 ∷ []);
  log =
      entries_to_begin ++ (send_inside 0 2 read_and_rewrite 1 ++ (entries_to_commit
      ++ (FailTcp 0 true 1 ∷ Takeover 0 ∷ Raise 0 ∷ FailTcp 0 true 2 ∷ End 0 Lost ∷ [])));
  stock = codes "A10006" ∷ codes "B10007" ∷ [];
  order = Out 0 ∷ Attempted 0 1 Committed 6 ∷ Done 0 Lost ∷ [];
  first = shown 0 1 0 1 (codes "00000000A10006") ∷ [];
  second = [];
}

-- The backup fails before it has taken over: the open unit is left, and its change is undone.
abbrev pub pair_lost_while_down : WorkedLog
pair_lost_while_down = record {
  setting =
      one_terminal (Begins ∷ increments_a1 ∷ []) (line.Tcp 0 true 9 ∷ line.Tcp 0 false 10 ∷ []);
  log =
      entries_to_begin ++ (Key 0 2 ∷ Send 0 1 0 ∷ Take 0 1 0 ∷ (read_and_rewrite
      ++ (FailTcp 0 true 1 ∷ FailTcp 0 false 2 ∷ End 0 Lost ∷ [])));
  stock = deck_stock;
  order = Out 0 ∷ Attempted 0 1 Left 2 ∷ Done 0 Lost ∷ [];
  first = [];
  second = [];
}

-- A pair is lost while the cause SERVER is pending: it goes with the path, and the unit is left.
abbrev pub pair_lost_with_cause : WorkedLog
pair_lost_with_cause = record {
  setting =
      one_terminal (increments_a1 ∷ [])
      (line.Server 0 1 1 ∷ line.Tcp 0 false 8 ∷ line.Tcp 0 true 9 ∷ []);
  log =
      entries_to_begin ++ (Send 0 1 0 ∷ Take 0 1 0 ∷ FailServer 0 1 1 ∷ FailTcp 0 false 2 ∷
      FailTcp 0 true 3 ∷ End 0 Lost ∷ []);
  stock = deck_stock;
  order = Out 0 ∷ Attempted 0 1 Left 0 ∷ Done 0 Lost ∷ [];
  first = [];
  second = [];
}

-- A pair is lost with two open units, of which T2's is the older: they are left in the order of
-- terminals, and later failures change nothing.
abbrev pub pair_lost_with_two_units : WorkedLog
pair_lost_with_two_units = record {
  setting =
      two_terminals (Begins ∷ []) (Begins ∷ []) (line.Tcp 0 false 13 ∷ line.Tcp 0 true 14 ∷
      line.Tcp 0 true 15 ∷ line.Tcp 0 false 16 ∷ []);
  log =
      Raise 0 ∷ CheckCopy 0 ∷ Applied 0 ∷ CheckCopy 1 ∷ Applied 1 ∷ Key 1 1 ∷ CheckStart 1 ∷
      Applied 1 ∷ Begin 1 1 0 ∷ Key 0 1 ∷ CheckStart 0 ∷ Applied 0 ∷ Begin 0 1 0 ∷
      FailTcp 0 false 1 ∷ FailTcp 0 true 2 ∷ FailTcp 0 true 3 ∷ FailTcp 0 false 4 ∷ End 0 Lost ∷
      End 1 Lost ∷ [];
  stock = deck_stock;
  order =
      Out 1 ∷ Out 0 ∷ Attempted 0 1 Left 1 ∷ Attempted 1 1 Left 1 ∷ Done 0 Lost ∷ Done 1 Lost ∷ [];
  first = [];
  second = [];
}
