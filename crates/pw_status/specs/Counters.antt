-- The counters that change by an entry's words alone are those of a log.
use Rattle.std.specs.Prelude.{◌≡◌, ℕ, ◌+◌, ◌-◌, ◌^◌, ◌<◌, Bool, List, count_by, length, min, Option, Some, None, slice_index_or, slice_set, if◌then◌else◌}
use Rattle.pw_status.specs.Counts.{is_begin, is_older, is_redo, is_restart_of, is_server, is_take_of, is_takeover, restarted_terminal, restarts_by, taken_from}
use Rattle.pw_event.specs.declared.event.Cause.{Cause}
use Rattle.pw_event.specs.declared.event.Event.{Event}

-- counters: BEGIN entries, and RESTART entries by their cause
pub record CountersState : Type 0 where
  pub begun : ℕ
  pub older : ℕ
  pub takeover : ℕ
  pub server : ℕ
  pub redo : ℕ
  -- RESTART entries of each terminal, and TAKE entries of each class
  pub restarts : List ℕ
  pub taken : List ℕ

-- one more, as far as a counter goes, where there is one
abbrev pub more : ℕ → ℕ
more n = min (n + 1) (2 ^ 32 - 1)

-- one more where it counts
abbrev pub more_if : Bool → ℕ → ℕ
more_if one n = if one then more n else n

-- one more at a place, if there is one
abbrev pub more_at : Option ℕ → List ℕ → List ℕ
more_at None counts = counts
more_at (Some place) counts = slice_set counts place (more (slice_index_or counts place 0))

-- behind an entry
abbrev pub counters_behind : Event → CountersState → CountersState
counters_behind entry counters = record {
  begun = more_if (is_begin entry) counters.begun;
  older = more_if (restarts_by is_older entry) counters.older;
  takeover = more_if (restarts_by is_takeover entry) counters.takeover;
  server = more_if (restarts_by is_server entry) counters.server;
  redo = more_if (restarts_by is_redo entry) counters.redo;
  restarts = more_at (restarted_terminal entry) counters.restarts;
  taken = more_at (taken_from entry) counters.taken;
}

-- behind a RESTART with this cause, but for its terminal
abbrev pub caused : Cause → CountersState → CountersState
caused why counters = record counters {
  older = more_if (is_older why) counters.older;
  takeover = more_if (is_takeover why) counters.takeover;
  server = more_if (is_server why) counters.server;
  redo = more_if (is_redo why) counters.redo;
}

-- the counters are those of a log
pub record AreCountersOf (log : List Event) (counters : CountersState) : Type 0 where
  pub begun : counters.begun ≡ count_by is_begin log
  pub older : counters.older ≡ count_by (restarts_by is_older) log
  pub takeover : counters.takeover ≡ count_by (restarts_by is_takeover) log
  pub server : counters.server ≡ count_by (restarts_by is_server) log
  pub redo : counters.redo ≡ count_by (restarts_by is_redo) log
  pub restarts : (t : ℕ) → t < length counters.restarts
      → slice_index_or counters.restarts t 0 ≡ count_by (is_restart_of t) log
  pub taken : (c : ℕ) → c < length counters.taken
      → slice_index_or counters.taken c 0 ≡ count_by (is_take_of c) log
