-- How many answers a running attempt has had, where its terminal has its path, and what a commit
-- leaves.
use Rattle.std.specs.Prelude.{◌≡◌, ℕ, List, [], ◌∷◌, Bool, true, false, Some}
use Rattle.pw_event.specs.declared.event.Event.{Event}
use Rattle.pw_onecopy.specs.Attempt.{attempt}
use Rattle.pw_onecopy.specs.Behaviour.{Behaviour}
use Rattle.pw_onecopy.specs.Path.{PathAnswer}
use Rattle.pw_paired.specs.Serial.{answers_behind, reading_starts}
use Rattle.pw_paired.specs.State.{Alone, Down, Gone, PairMode, OpenUnit, Paired, Raising, State, starting}
use Rattle.pw_paired.specs.Step.{effect}
use Rattle.pw_paired.specs.Units.{committed_files}

-- the answers that entries have put on the paths since their attempts began, behind more entries
abbrev pub answers_from : Behaviour → State → (ℕ → ℕ) → List Event → ℕ → ℕ
answers_from sys state answers [] = answers
answers_from sys state answers (entry ∷ log) =
    answers_from sys (effect sys state entry) (answers_behind sys state entry answers) log

-- the same behind a log
abbrev pub answers_after : Behaviour → List Event → ℕ → ℕ
answers_after sys = answers_from sys (starting sys) reading_starts.answers

-- a member of the pair works, so that its terminals have their paths
abbrev pub has_paths : PairMode → Bool
has_paths Alone = true
has_paths Raising = true
has_paths Paired = true
has_paths Down = false
has_paths Gone = false

-- The terminal's unit has committed: the committed records are the files of its attempt alone, with
-- so many answers.
pub record CommitsAlone (sys : Behaviour) (before after : State) (t answers : ℕ) : Type 0 where
  pub unit : OpenUnit
  pub is_open : before.units t ≡ Some unit
  pub start : List PathAnswer
  pub runs : unit.running ≡ Some start
  pub files : (f : ℕ)
      → committed_files sys after f
      ≡ (attempt sys t start (committed_files sys before) unit.restarts answers).files f
