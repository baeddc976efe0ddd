-- What a run over any disc comes to, with its report.
use Rattle.std.specs.Prelude.{◌≡◌, ◌≢◌, ℕ, false, List, length}
use Rattle.pw_base.specs.Outside.{Rose}
use Rattle.pw_code.specs.declared.system.System.{System}
use Rattle.pw_code_meaning.specs.OfSystem.{behaviour}
use Rattle.pw_deck_runs.specs.WrittenRuns.{IsLeft}
use Rattle.pw_deck_runs.specs.declared.reported.ReportedRun.{ReportedRun}
use Rattle.pw_deck_runs.specs.declared.reported.ReportedRun.TheVariants.{Ended, Failed}
use Rattle.pw_event.specs.declared.event.Event.{Event}
use Rattle.pw_event.specs.declared.script.FailLine.{FailLine}
use Rattle.pw_onecopy.specs.Behaviour.{Behaviour}
use Rattle.pw_paired.specs.Step.{after, is_finished}
use Rattle.pw_tmf.specs.Told.{Told}
use Rattle.pw_workers.specs.Endings.{IsReportOfRun}

-- The disc has failed and counted that, and tells the state behind a log that is neither finished nor as long as it may be.
pub record StopsAtFault (sys : Behaviour) (events : ℕ) (disc left : Told) : Type 0 where
  pub rose : Rose disc.faults left.faults
  pub log : List Event
  pub left_is : IsLeft sys events disc log left
  pub unfinished : is_finished sys (after sys log) ≡ false
  pub short : length log ≢ events

-- the report of a run of the system, or what a run left of a disc that has failed
abbrev pub RunsReported : {D : Type 0} → (D → Told) → System → List FailLine → ℕ → D → ReportedRun D → Type 0
RunsReported told system lines events disc (Ended ended text) = IsReportOfRun (behaviour lines system) system events ended text
RunsReported told system lines events disc (Failed left) =
    StopsAtFault (behaviour lines system) events (told disc) (told left)
