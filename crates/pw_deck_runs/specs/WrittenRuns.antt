-- What a run whose report is written comes to.
use Rattle.std.specs.Prelude.{◌≡◌, ◌≢◌, ◌⊎◌, ◌-◌, ◌^◌, ℕ, ◌≤◌, false, List, length, min, Option, None, Some}
use Rattle.pw_base.specs.Outside.{Rose}
use Rattle.pw_input_output.specs.Numbers.{status_number}
use Rattle.pw_input_output.specs.Outputs.{EndsWriting, IsWrittenWhole}
use Rattle.pw_input_output.specs.declared.status.Status.{Status}
use Rattle.pw_input_output.specs.declared.status.Status.TheVariants.{DiscFault, Memory}
use Rattle.pw_code.specs.declared.system.System.{System}
use Rattle.pw_event.specs.declared.event.Event.{Event}
use Rattle.pw_event.specs.declared.script.FailLine.{FailLine}
use Rattle.pw_code_meaning.specs.OfSystem.{behaviour}
use Rattle.pw_report_text.specs.Meaning.{report_text}
use Rattle.pw_onecopy.specs.Behaviour.{Behaviour}
use Rattle.pw_paired.specs.Step.{IsRun, after, is_finished}
use Rattle.pw_workers.specs.Endings.{EndsAs, status_of}
use Rattle.pw_workers.specs.declared.ending.LogEnding.{LogEnding}
use Rattle.pw_deck_runs.specs.declared.written.Ran.{Ran}
use Rattle.pw_tmf.specs.Tells.{Tells}
use Rattle.pw_tmf.specs.Told.{Told}

-- ---- the sink

-- what a sink tells before and behind a call: the bytes that were written to it, and its faults
pub record Writing : Type 0 where
  pub before : Option (List ℕ)
  pub now : Option (List ℕ)
  pub faults : ℕ
  pub faults_then : ℕ

-- nothing is written, and no fault is counted
pub record IsSinkUntouched (sink : Writing) : Type 0 where
  pub text : sink.now ≡ sink.before
  pub count : sink.faults_then ≡ sink.faults

-- ---- the disc

-- The log is a run, of at most so many entries, and the disc tells the state behind it. Its count of faults has not
-- fallen, as far as its type goes.
pub record IsLeft (sys : Behaviour) (events : ℕ) (disc : Told) (log : List Event) (left : Told) : Type 0 where
  pub run : IsRun sys log
  pub room : length log ≤ events
  pub tells : Tells sys (after sys log) left
  pub terminals : left.terminals ≡ disc.terminals
  pub files : left.file_count ≡ disc.file_count
  pub count : min disc.faults (2 ^ 64 - 1) ≤ left.faults

-- ---- how it ends

-- the disc has failed, and counted that, before the log was finished or full; nothing is written
pub record IsFailed (sys : Behaviour) (events : ℕ) (disc : Told) (log : List Event) (left : Told)
    (status : Status) (sink : Writing) : Type 0 where
  pub status_is : status ≡ DiscFault
  pub rose : Rose disc.faults left.faults
  pub unfinished : is_finished sys (after sys log) ≡ false
  pub short : length log ≢ events
  pub idle : IsSinkUntouched sink

-- the run has ended so, and its report is written, or a beginning of it where the sink has failed
pub record IsReported (sys : Behaviour) (system : System) (events : ℕ) (log : List Event) (status : Status)
    (sink : Writing) : Type 0 where
  pub ended : LogEnding
  pub ends : EndsAs ended events sys log
  pub written : EndsWriting (status_of ended) status (report_text system sys log)
      sink.before sink.now sink.faults sink.faults_then

-- ---- the whole

-- the run left this of the disc
pub record HasLeft (sys : Behaviour) (system : System) (events : ℕ) (disc left : Told) (status : Status)
    (sink : Writing) : Type 0 where
  pub log : List Event
  pub left_is : IsLeft sys events disc log left
  pub ends : IsFailed sys events disc log left status sink ⊎ IsReported sys system events log status sink

-- memory ran out, and nothing is written; or the run left a disc
abbrev pub LeavesIfAny : {D : Type 0} → (D → Told) → System → List FailLine → ℕ → D → Status → Writing → Option D
    → Type 0
LeavesIfAny told system lines events disc status sink None = (status ≡ Memory) × IsSinkUntouched sink
LeavesIfAny told system lines events disc status sink (Some left) =
    HasLeft (behaviour lines system) system events (told disc) (told left) status sink

-- what a run over a disc comes to, at its sink
pub record RunsWith {D : Type 0} (told : D → Told) (system : System) (lines : List FailLine) (events : ℕ)
    (disc : D) (ran : Ran D) (sink : Writing) : Type 0 where
  pub status : Status
  pub number : ran.status ≡ status_number status
  pub leaves : LeavesIfAny told system lines events disc status sink ran.disc

-- ---- a run without faults

-- the disc that is left, if there is one, has counted no fault
abbrev pub IsUncounted : {D : Type 0} → (D → Told) → D → Option D → Type 0
IsUncounted told disc None = Unit {0}
IsUncounted told disc (Some left) = ¬ Rose (told disc).faults (told left).faults

-- the run has ended as the number of its status says, and its report is written whole
pub record HasEnded (sys : Behaviour) (system : System) (events number : ℕ) (sink : Writing) : Type 0 where
  pub log : List Event
  pub run : IsRun sys log
  pub ended : LogEnding
  pub ends : EndsAs ended events sys log
  pub number_is : number ≡ status_number (status_of ended)
  pub whole : IsWrittenWhole (report_text system sys log) sink.before sink.now sink.faults sink.faults_then

-- where neither the disc nor the sink has counted a fault, the run has ended so, or memory ran out
abbrev pub IsSure : {D : Type 0} → (D → Told) → System → List FailLine → ℕ → D → Ran D → Writing → Type 0
IsSure told system lines events disc ran sink =
    IsUncounted told disc ran.disc → ¬ Rose sink.faults sink.faults_then
    → (ran.status ≡ 6) ⊎ HasEnded (behaviour lines system) system events ran.status sink
