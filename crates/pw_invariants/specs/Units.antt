-- The units that a log has committed, and what it is that one of them runs alone.
use Rattle.std.specs.Prelude.{◌≡◌, ℕ, ◌≤◌, List, [], ◌∷◌, ◌++◌}
use Rattle.pw_event.specs.declared.event.Event.{Event}
use Rattle.pw_laws.specs.locking.Seen.{AreFiles}
use Rattle.pw_onecopy.specs.Attempt.{IsAttempt, attempt}
use Rattle.pw_onecopy.specs.Behaviour.{Behaviour}
use Rattle.pw_onecopy.specs.Blocks.{SerialBlock, Attempted, Committed}
use Rattle.pw_onecopy.specs.IsBehaviour.{IsPath}
use Rattle.pw_onecopy.specs.OneCopy.{EndsCommitted, Machine, beginning, next_attempt, run_block}
use Rattle.pw_onecopy.specs.Path.{PathAnswer, unit_number}
use Rattle.pw_paired.specs.Serial.{blocks}
use Rattle.pw_paired.specs.Step.{after}
use Rattle.pw_paired.specs.Units.{committed_files}

-- the records of each file, by its number
abbrev pub FileRecords : Type 0
FileRecords = ℕ → List (List ℕ)

-- a unit that has committed: its terminal, the path on which it began, and the path that it left
pub record CommittedUnit : Type 0 where
  pub terminal : ℕ
  pub start : List PathAnswer
  pub path : List PathAnswer

-- The unit runs alone on these records, commits, and leaves those: while nothing else runs, its terminal's program, which has
-- come so far, is answered verb by verb, and the last answer commits.
pub record RunsAlone (sys : Behaviour) (unit : CommittedUnit) (records left : FileRecords) : Type 0 where
  pub is_path : IsPath sys unit.terminal unit.start
  pub are_files : AreFiles sys records
  pub restarts : ℕ
  pub few : restarts ≤ sys.max_restarts unit.terminal
  pub answers : ℕ
  pub is_attempt : IsAttempt sys unit.terminal unit.start records restarts answers
  pub commits : EndsCommitted (sys.ask unit.terminal unit.start)
      (attempt sys unit.terminal unit.start records restarts answers).last
  pub path : unit.path ≡ (attempt sys unit.terminal unit.start records restarts answers).path
  pub leaves : left ≡ (attempt sys unit.terminal unit.start records restarts answers).files

-- the unit that a block commits in the one-copy machine, if any
abbrev pub unit_in : Behaviour → Machine → SerialBlock → List CommittedUnit
unit_in sys machine (Attempted t n Committed j) = record {
  terminal = t;
  start = (machine.terms t).path;
  path = (next_attempt sys machine t j).path;
} ∷ []
unit_in sys machine _ = []

-- the units that blocks commit, in order
abbrev pub units_in : Behaviour → Machine → List SerialBlock → List CommittedUnit
units_in sys machine [] = []
units_in sys machine (block ∷ rest) =
    unit_in sys machine block ++ units_in sys (run_block sys machine block) rest

-- the units that a log has committed, in its serial order
abbrev pub committed_units : Behaviour → List Event → List CommittedUnit
committed_units sys log = units_in sys (beginning sys) (blocks sys log)

-- the units run one after the other, each alone on the records that the one before it left: from these records to those
abbrev pub RunInTurn : Behaviour → FileRecords → List CommittedUnit → FileRecords → Type 0
RunInTurn sys records [] left = left ≡ records
RunInTurn sys records (unit ∷ units) left =
    (next : FileRecords) × RunsAlone sys unit records next × RunInTurn sys next units left

-- what has committed between two moments of a run: these units behind those of before, and they run in turn from the
-- committed records of the first moment to those of the second
pub record CommitsBetween (sys : Behaviour) (log more : List Event) : Type 0 where
  pub units : List CommittedUnit
  pub added : committed_units sys (log ++ more) ≡ committed_units sys log ++ units
  pub in_turn : RunInTurn sys (committed_files sys (after sys log)) units
      (committed_files sys (after sys (log ++ more)))

-- the entry commits unit n of the terminal, and no other
pub record CommitsNext (sys : Behaviour) (log : List Event) (entry : Event) (t n : ℕ) : Type 0 where
  pub unit : CommittedUnit
  pub added : committed_units sys (log ++ entry ∷ []) ≡ committed_units sys log ++ unit ∷ []
  pub terminal : unit.terminal ≡ t
  pub number : unit_number unit.start ≡ n
