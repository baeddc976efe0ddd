-- A world that was new before its run is one of the run's system, script, limit and disc.
use Rattle.std.proofs.Common.{◌≡◌, ◌∙◌, ◌-◌, ◌^◌, ◌≤◌, ℕ, false, List, [], min, ap, length, refl, subst, sym}
use Rattle.pw_base.specs.Outside.{Rose}
use Rattle.pw_input_output.specs.Outputs.{EndsWriting}
use Rattle.pw_input_output.specs.declared.status.Status.{Status}
use Rattle.pw_input_output.specs.declared.status.Status.TheVariants.{DiscFault}
use Rattle.pw_code.specs.declared.system.System.{System}
use Rattle.pw_event.specs.declared.script.FailLine.{FailLine}
use Rattle.pw_code_meaning.specs.OfSystem.{behaviour}
use Rattle.pw_report_text.specs.Meaning.{report_text}
use Rattle.pw_world_model.specs.Answers.{HasFailed}
use Rattle.pw_world_model.specs.Seen.{Seen, sys_of}
use Rattle.pw_world_model.specs.Worlds.{Books, IsDiscOf, IsNew, IsWorld}
use Rattle.pw_onecopy.specs.Behaviour.{Behaviour}
use Rattle.pw_paired.specs.Step.{IsRun, after, is_finished}
use Rattle.pw_workers.specs.Endings.{EndsAs, status_of}
use Rattle.pw_deck_runs.specs.WrittenRuns.{IsFailed, IsSinkUntouched, IsLeft, IsReported, Writing}
use Rattle.pw_workers.specs.declared.ending.LogEnding.{LogEnding}
use Rattle.pw_tmf.specs.Tells.{Tells}
use Rattle.pw_tmf.specs.Told.{Told}
use Rattle.pw_workers.specs.Ends.{RunGoesOn, IsFor}

pub for-new : (system : System) (lines : List FailLine) (disc : Told) (events : ℕ) (first world : Seen)
    → IsNew system lines disc events first
    → IsFor first.system first.script first.log first.limit first.faults world
    → IsFor system lines [] events disc.faults world
for-new system lines disc events first world new same = record {
  system_is = same.system_is ∙ new.system_is;
  script_is = same.script_is ∙ new.script_is;
  begins = refl;
  limit_is = same.limit_is ∙ new.limit_is;
  count = same.count ∙ new.count;
}

module _ (system : System) (lines : List FailLine) (events : ℕ) (disc : Told) (world : Seen)
    (same : IsFor system lines [] events disc.faults world) where
  pub sys-same : sys_of world ≡ behaviour lines system
  sys-same =
      ap (λ ls. behaviour ls world.system) same.script_is ∙ ap (λ (s : System). behaviour lines s) same.system_is

  pub ends-same : (ended : LogEnding) → EndsAs ended world.limit (sys_of world) world.log
      → EndsAs ended events (behaviour lines system) world.log
  ends-same ended ends =
      subst (λ n. EndsAs ended n (behaviour lines system) world.log) same.limit_is
      (subst (λ (b : Behaviour). EndsAs ended world.limit b world.log) sys-same ends)

  pub left-is : (books : Books) → IsDiscOf system lines disc → IsWorld world books
      → IsLeft (behaviour lines system) events disc world.log world.kept.disc
  left-is books of is = record {
    run = subst (λ (b : Behaviour). IsRun b world.log) sys-same is.run;
    room = subst (λ n. length world.log ≤ n) same.limit_is is.room;
    tells = subst (λ (b : Behaviour). Tells b (after b world.log) world.kept.disc) sys-same is.stands.disc;
    terminals = is.terminals ∙ (ap (λ (s : System). length s.terminals) same.system_is ∙ sym of.terminals);
    files = is.files ∙ (ap (λ (s : System). length s.files) same.system_is ∙ sym of.files);
    count = subst (λ n. min n (2 ^ 64 - 1) ≤ world.kept.disc.faults) same.count is.count;
  }

  pub failed : (sink : Writing) → HasFailed world → RunGoesOn world → IsSinkUntouched sink
      → IsFailed (behaviour lines system) events disc world.log world.kept.disc DiscFault sink
  failed sink has on idle = record {
    status_is = refl;
    rose = subst (λ n. Rose n world.kept.disc.faults) same.count has.1;
    unfinished = subst (λ (b : Behaviour). is_finished b (after b world.log) ≡ false) sys-same on.unfinished;
    short = λ most. on.room (most ∙ sym same.limit_is, on.unfinished);
    idle = idle;
  }

  pub reported : (sink : Writing) (ended : LogEnding) (status : Status) (text : List ℕ)
      → EndsAs ended events (behaviour lines system) world.log
      → text ≡ report_text world.system (sys_of world) world.log
      → EndsWriting (status_of ended) status text sink.before sink.now sink.faults sink.faults_then
      → IsReported (behaviour lines system) system events world.log status sink
  reported sink ended status text ends is written = record {
    ended = ended;
    ends = ends;
    written = subst (λ (t : List ℕ). EndsWriting (status_of ended) status t sink.before sink.now sink.faults sink.faults_then)
        (is ∙ (ap (λ (b : Behaviour). report_text world.system b world.log) sys-same
        ∙ ap (λ (s : System). report_text s (behaviour lines system) world.log) same.system_is)) written;
  }
