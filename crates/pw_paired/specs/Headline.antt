-- What is claimed of the log of a run.
use Rattle.std.specs.Prelude.{◌≡◌, ℕ, ◌≤◌, ◌==◌, ◌&&◌, Bool, true, false, List, length, filter}
use Rattle.pw_event.specs.declared.event.Event.{Event}
use Rattle.pw_onecopy.specs.Behaviour.{Behaviour}
use Rattle.pw_onecopy.specs.Blocks.{SerialBlock, Out, Attempted, Done, AttemptEnding, Committed, Aborted, Restarted, Left}
use Rattle.pw_onecopy.specs.OneCopy.{IsSerial, one_copy}
use Rattle.pw_onecopy.specs.Refreshes.{once, refreshes_of}
use Rattle.pw_paired.specs.Serial.{blocks}
use Rattle.pw_paired.specs.Shown.{refreshes}
use Rattle.pw_paired.specs.Step.{after}
use Rattle.pw_paired.specs.Units.{committed_files}

-- The log reads as a serial order: the one-copy machine is defined on the whole of it, and each
-- terminal's screens, each numbered refresh counted once, and the records are the machine's. (The
-- endings are more than the headline asks.)
pub record IsSerializable (sys : Behaviour) (log : List Event) : Type 0 where
  pub legal : IsSerial sys (blocks sys log)
  pub screens : (t : ℕ)
      → once (refreshes_of t (refreshes sys log))
      ≡ ((one_copy sys (blocks sys log)).terms t).refreshes
  pub records : (f : ℕ)
      → committed_files sys (after sys log) f ≡ (one_copy sys (blocks sys log)).files f
  pub endings : (t : ℕ)
      → ((after sys log).terms t).ending ≡ ((one_copy sys (blocks sys log)).terms t).ending

-- an attempt that is over so was its unit's last
abbrev pub ends_unit : AttemptEnding → Bool
ends_unit Committed = true
ends_unit Aborted = true
ends_unit Restarted = false
ends_unit Left = true

-- the block ends unit n of t
abbrev pub is_end_of : ℕ → ℕ → SerialBlock → Bool
is_end_of t n (Out own) = false
is_end_of t n (Attempted own number how j) = own == t && (number == n && ends_unit how)
is_end_of t n (Done own ending) = false

-- each unit number of a terminal ends at most once
abbrev pub EndsOnce : Behaviour → List Event → Type 0
EndsOnce sys log = (t n : ℕ) → length (filter (is_end_of t n) (blocks sys log)) ≤ 1
