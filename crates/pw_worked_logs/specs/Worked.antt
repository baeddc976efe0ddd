-- What is said of a worked log, and of an entry that is none.
use Rattle.std.specs.Prelude.{◌≡◌, ℕ, List, [], ◌∷◌, take}
use Rattle.pw_code.specs.declared.lock.LockRule.TheVariants.{ReadersShare}
use Rattle.pw_event.specs.declared.event.Event.{Event}
use Rattle.pw_event.specs.declared.script.FailLine.{FailLine}
use Rattle.pw_onecopy.specs.declared.refresh.Refresh.{Refresh}
use Rattle.pw_onecopy.specs.OneCopy.{IsSerial, LegalBlock, one_copy}
use Rattle.pw_onecopy.specs.Refreshes.{once, refreshes_of}
use Rattle.pw_paired.specs.Shown.{refreshes}
use Rattle.pw_onecopy.specs.Blocks.{SerialBlock}
use Rattle.pw_paired.specs.Serial.{blocks}
use Rattle.pw_paired.specs.State.{State}
use Rattle.pw_paired.specs.Step.{IsRun, Legal, after}
use Rattle.pw_paired.specs.Units.{committed_files}
use Rattle.pw_worked_logs.specs.Deck.{Keys, KeyedLine, WorkedSetting, deck}

-- deck C with one terminal that has these entry lines, and with these failure lines
abbrev pub one_terminal : List KeyedLine → List FailLine → WorkedSetting
one_terminal lines script =
    record { programs = Keys lines ∷ []; max_restarts = 5; rule = ReadersShare; script = script }

-- deck C with two terminals
abbrev pub two_terminals : List KeyedLine → List KeyedLine → List FailLine → WorkedSetting
two_terminals first second script =
    record (one_terminal first script) { programs = Keys first ∷ Keys second ∷ [] }

-- a refresh of a terminal with this number, and this row 24
abbrev pub shown : ℕ → ℕ → ℕ → ℕ → List ℕ → Refresh
shown t phase attempt k row =
    record { terminal = t; phase = phase; attempt = attempt; k = k; image = row }

-- A log with its deck, and what was worked out by hand: the committed records of STOCK behind it,
-- its serial order, and the refreshes of T1 and of T2, each number counted once.
pub record WorkedLog : Type 0 where
  pub setting : WorkedSetting
  pub log : List Event
  pub stock : List (List ℕ)
  pub order : List SerialBlock
  pub first : List Refresh
  pub second : List Refresh

-- The log is a run, with these records, this serial order and these refreshes. The one-copy machine
-- is defined on the order, and has the same records and refreshes.
pub record WorksOut (w : WorkedLog) : Type 0 where
  pub is_run : IsRun (deck w.setting) w.log
  pub stock : committed_files (deck w.setting) (after (deck w.setting) w.log) 0 ≡ w.stock
  pub order : blocks (deck w.setting) w.log ≡ w.order
  pub first : once (refreshes_of 0 (refreshes (deck w.setting) w.log)) ≡ w.first
  pub second : once (refreshes_of 1 (refreshes (deck w.setting) w.log)) ≡ w.second
  pub is_serial : IsSerial (deck w.setting) w.order
  pub copy_stock : (one_copy (deck w.setting) w.order).files 0 ≡ w.stock
  pub copy_first : ((one_copy (deck w.setting) w.order).terms 0).refreshes ≡ w.first
  pub copy_second : ((one_copy (deck w.setting) w.order).terms 1).refreshes ≡ w.second

-- the state behind a log of a worked deck
abbrev pub worked_state : WorkedSetting → List Event → State
worked_state setting log = after (deck setting) log

-- the state behind the first n entries of a worked log
abbrev pub state_at : WorkedLog → ℕ → State
state_at w n = worked_state w.setting (take n w.log)

-- behind a log of a worked deck the entry is no step
abbrev pub IsIllegalEntry : WorkedSetting → List Event → Event → Type 0
IsIllegalEntry setting log entry = ¬ Legal (deck setting) (worked_state setting log) entry

-- behind the first n entries of a worked log the entry is no step
abbrev pub IsNoStep : WorkedLog → ℕ → Event → Type 0
IsNoStep w n entry = IsIllegalEntry w.setting (take n w.log) entry

-- behind a list of blocks the block is none that the one-copy machine of a worked deck runs
abbrev pub IsBarred : WorkedSetting → List SerialBlock → SerialBlock → Type 0
IsBarred setting order block = ¬ LegalBlock (deck setting) (one_copy (deck setting) order) block
