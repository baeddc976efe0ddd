-- What the run of a system over a disc pair comes to.
use Rattle.std.specs.Prelude.{◌≡◌, ◌≢◌, ℕ, false, true, List, [], length}
use Rattle.pw_base.specs.Outside.{Rose}
use Rattle.pw_code.specs.declared.system.System.{System}
use Rattle.pw_disc.specs.Lines.{may_lose}
use Rattle.pw_disc.specs.Pair.{PairKept, state_of}
use Rattle.pw_disc.specs.declared.script.DiscLine.{DiscLine}
use Rattle.pw_deck_runs.specs.declared.disc.ending.PairRan.{PairRan}
use Rattle.pw_deck_runs.specs.declared.disc.ending.PairRan.TheVariants.{Ended, Lost}
use Rattle.pw_event.specs.declared.event.Event.{Event}
use Rattle.pw_event.specs.declared.script.FailLine.{FailLine}
use Rattle.pw_code_meaning.specs.OfSystem.{behaviour}
use Rattle.pw_onecopy.specs.Behaviour.{Behaviour}
use Rattle.pw_paired.specs.Step.{after, is_finished}
use Rattle.pw_workers.specs.Endings.{IsReportOfRun}
use Rattle.pw_deck_runs.specs.WrittenRuns.{IsLeft}
use Rattle.pw_tmf.specs.Starting.{told_at_start}

-- A run of the system has stopped at the loss of its pair: the pair has failed since it was made, and tells the state behind
-- a log that is neither finished nor as long as it may be. A pair is lost only where a PRIMARY AFTER line stands directly
-- behind a PRIMARY AFTER or BACKUP AFTER line.
pub record HasLost (sys : Behaviour) (system : System) (events : ℕ) (lines : List DiscLine) (pair : PairKept) : Type 0 where
  pub may : may_lose lines ≡ true
  pub rose : Rose 0 pair.faults
  pub log : List Event
  pub left : IsLeft sys events (told_at_start system) log (state_of pair).told
  pub unfinished : is_finished sys (after sys log) ≡ false
  pub short : length log ≢ events

-- the report of a run, as over any disc; or the pair was lost, and the text is empty
abbrev pub RunsOver : System → List FailLine → ℕ → List DiscLine → PairRan → List ℕ → Type 0
RunsOver system script events lines (Ended ended) text = IsReportOfRun (behaviour script system) system events ended text
RunsOver system script events lines (Lost pair) text =
    HasLost (behaviour script system) system events lines pair × (text ≡ [])
