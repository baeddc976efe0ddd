-- All that is counted of a log entry by entry, but for the refresh numbers.
use Rattle.std.specs.Prelude.{◌≡◌, ℕ, ◌++◌, ◌∷◌, List, [], length, Some}
use Rattle.pw_code.specs.declared.system.System.{System}
use Rattle.pw_status.specs.Attempts.{AreAttemptsOf, AttemptsState, IsStart, attempts_behind}
use Rattle.pw_status.specs.Counters.{AreCountersOf, CountersState, counters_behind}
use Rattle.pw_status.specs.Counts.{waiting}
use Rattle.pw_status.specs.Longest.{AreLongestOf, longest_with, sent_to}
use Rattle.pw_status.specs.Over.{ends_at}
use Rattle.pw_status.specs.declared.counts.UnitCounts.{UnitCounts}
use Rattle.pw_status.specs.declared.tally.Met.{Met}
use Rattle.pw_event.specs.declared.event.Event.{Event}
use Rattle.pw_onecopy.specs.Behaviour.{Behaviour}
use Rattle.pw_paired.specs.Step.{after}

-- all that is counted of a log entry by entry, but for the refresh numbers
pub record TallyState : Type 0 where
  pub counters : CountersState
  pub longest : List ℕ
  pub attempts : AttemptsState

-- what is counted of units
abbrev pub units_in : TallyState → UnitCounts
units_in tally = record {
  begun = tally.counters.begun;
  committed = tally.attempts.committed;
  dropped = tally.attempts.dropped;
  left = tally.attempts.left;
  older = tally.counters.older;
  takeover = tally.counters.takeover;
  server = tally.counters.server;
  redo = tally.counters.redo;
}

-- what is counted before the first entry of a log of the system
pub record IsFirstTally (system : System) (tally : TallyState) : Type 0 where
  pub restarts : length tally.counters.restarts ≡ length system.terminals
  pub taken : length tally.counters.taken ≡ length system.classes
  pub counters : AreCountersOf [] tally.counters
  pub classes : length tally.longest ≡ length system.classes
  pub longest : (sys : Behaviour) → AreLongestOf sys [] tally.longest
  pub attempts : IsStart system tally.attempts

-- what an entry meets behind a log
pub record EntryMeets (sys : Behaviour) (log : List Event) (entry : Event) (met : Met) : Type 0 where
  pub ends : met.ends ≡ ends_at sys (after sys log) entry
  pub waiting : (c : ℕ) → sent_to entry ≡ Some c → met.waiting ≡ waiting (after sys (log ++ entry ∷ [])) c

-- the entry is counted too, which meets this
pub record IsNotedIn (entry : Event) (met : Met) (old new : TallyState) : Type 0 where
  pub counters : new.counters ≡ counters_behind entry old.counters
  pub longest : new.longest ≡ longest_with (sent_to entry) met.waiting old.longest
  pub attempts : new.attempts ≡ attempts_behind met.ends entry old.attempts

-- all is counted of the log, and of the system's terminals and classes
pub record IsTallyOf (system : System) (sys : Behaviour) (log : List Event) (tally : TallyState) : Type 0 where
  pub restarts : length tally.counters.restarts ≡ length system.terminals
  pub taken : length tally.counters.taken ≡ length system.classes
  pub counters : AreCountersOf log tally.counters
  pub classes : length tally.longest ≡ length system.classes
  pub longest : AreLongestOf sys log tally.longest
  pub attempts : AreAttemptsOf sys log tally.attempts
