-- What a finished run of a deck that counts its entries has left.
use Rattle.std.specs.Prelude.{◌≡◌, ℕ, ◌<◌, true, List, [], ◌∷◌, ◌++◌, codes, Some}
use Rattle.pw_event.specs.declared.event.Ending.TheVariants.{NoEntries}
use Rattle.pw_event.specs.declared.event.Event.{Event}
use Rattle.pw_event.specs.declared.script.FailLine.{FailLine}
use Rattle.pw_event.specs.declared.script.FailLine.TheVariants as fail_line
use Rattle.pw_generated_runs.specs.Counts.{asked_for, stock_with}
use Rattle.pw_generated_runs.specs.Keys.{terminal_digits}
use Rattle.pw_onecopy.specs.Behaviour.{Behaviour}
use Rattle.pw_onecopy.specs.OneCopy.{one_copy}
use Rattle.pw_paired.specs.Serial.{blocks}
use Rattle.pw_paired.specs.Step.{after}
use Rattle.pw_paired.specs.Units.{committed_files}
use Rattle.pw_report_text.specs.Lines.{line, record_lines}

-- the one failure line of a generated deck: of the primary of the first pair, behind 200 entries of that pair
abbrev pub one_failure : List FailLine
one_failure = fail_line.Tcp 0 true 200 ∷ []

-- Each terminal has taken all its entries: none has stopped, had a run fault, or been suspended or lost. The record of each key
-- has the number of the entries of that key, in the committed records and in the ones that a report prints.
pub record LeavesCounts (sys : Behaviour) (digits : ℕ → List ℕ) (log : List Event) : Type 0 where
  pub endings : (t : ℕ) → t < sys.terminals → ((after sys log).terms t).ending ≡ Some NoEntries
  pub committed : committed_files sys (after sys log) 0 ≡ stock_with (asked_for sys.terminals digits)
  pub reported : (one_copy sys (blocks sys log)).files 0 ≡ stock_with (asked_for sys.terminals digits)

-- what is printed as FILES of a finished run of the deck of a seed and so many terminals: the one file, and each key with the
-- number of the entries of that key
abbrev pub counted_text : ℕ → ℕ → List ℕ
counted_text seed terminals =
    line (codes "FILES") ++ (line (codes "FILE STOCK") ++ record_lines (stock_with (asked_for terminals (terminal_digits seed))))
