-- What a run over a trail leaves on its disk.
use Rattle.std.proofs.Common.{◌≡◌, ◌≤◌, ◌∙◌, ℕ, Bool, true, false, List, [], ◌++◌, length, refl, sym, ap, subst, arith}
use Rattle.std.proofs.lemmas.List.{append-nil}
use Rattle.pw_code.specs.Limits.{most_log_lines}
use Rattle.pw_code.specs.declared.file.FileInfo.{FileInfo}
use Rattle.pw_code.specs.declared.system.System.{System}
use Rattle.pw_code_meaning.specs.OfSystem.{behaviour}
use Rattle.pw_deck_runs.proofs.Counting.{commits-are}
use Rattle.pw_deck_runs.specs.recovery.Commits.{commits}
use Rattle.pw_event.specs.declared.script.FailLine.{FailLine}
use Rattle.pw_group_commit.specs.Discs.{DiscState, IsGroupDisc, told_in}
use Rattle.pw_group_commit.specs.Followed.{names_of}
use Rattle.pw_group_commit.specs.Grouped.{HasOrWithGroup, IsGroupLog, settled_units, waiting_units}
use Rattle.pw_group_commit.specs.declared.follower.UnitName.{UnitName}
use Rattle.pw_onecopy.specs.Behaviour.{Behaviour}
use Rattle.pw_paired.specs.State.{starting}
use Rattle.pw_paired.specs.Step.{IsRun, after}
use Rattle.pw_paired.specs.Units.{committed_files}
use Rattle.pw_report_text.specs.Meaning.{report_text}
use Rattle.pw_store_runs.specs.Left.{HasCommitted, RanStored, StoppedStored}
use Rattle.pw_tmf.specs.Committed.{committed}
use Rattle.pw_tmf.specs.Told.{Told}
use Rattle.pw_trail.specs.Files.{files_after}
use Rattle.pw_trail.specs.Format.{units_in}
use Rattle.pw_trail.specs.declared.changes.UnitChanges.{UnitChanges}
use Rattle.pw_workers.specs.Endings.{EndsAs}
use Rattle.pw_workers.specs.Ends.{IsFor}
use Rattle.pw_workers.specs.declared.ending.LogEnding.{LogEnding}
use Rattle.pw_world_model.proofs.Counted.{commits-within}
use Rattle.pw_world_model.specs.Answers.{HasFailed}
use Rattle.pw_world_model.specs.Commits.{commits_in}
use Rattle.pw_world_model.specs.Seen.{Seen, state_of, sys_of}

module _ {S : Type 0} (held : S → List ℕ) (images : S → List ℕ → Type 0) (settled : S → List ℕ) (faulted : S → ℕ)
    (files : List FileInfo) (before : List UnitChanges) (least : ℕ) (disc : DiscState S)
    (kept : IsGroupLog held images settled faulted files before least disc.log) (own : IsGroupDisc settled before disc)
    (was_told : List UnitName → Type 0) (followed : was_told (names_of (settled_units settled before disc.log))) where
  abbrev first : List UnitChanges
  first = settled_units settled before disc.log

  abbrev waiting : List UnitChanges
  waiting = waiting_units disc.log

  -- those that were added lead to what is told as committed
  lead-there : files_after files (before ++ (first ++ waiting)) ≡ committed (told_in disc)
  lead-there = ap (λ (fs : List FileInfo). files_after fs (before ++ (first ++ waiting))) (sym kept.files_are) ∙ own.leads

  module _ (system : System) (script : List FailLine) (events faults : ℕ) (few : events ≤ most_log_lines) (world : Seen)
      (same : IsFor system script [] events faults world) (run : IsRun (sys_of world) world.log)
      (tells : told_in disc ≡ world.kept.disc)
      (are : committed (told_in disc) ≡ committed_files (sys_of world) (state_of world))
      (room : length world.log ≤ world.limit)
      (counts : world.kept.disc.commits ≡ commits_in (sys_of world) world.log) where
    abbrev sys : Behaviour
    sys = behaviour script system

    of-system : sys_of world ≡ sys
    of-system =
        ap (λ (s : List FailLine). behaviour s world.system) same.script_is
        ∙ ap (λ (s : System). behaviour script s) same.system_is

    is-run : IsRun sys world.log
    is-run = subst (λ (b : Behaviour). IsRun b world.log) of-system run

    many : length (first ++ waiting) ≡ commits sys world.log
    many =
        let within : commits_in (sys_of world) world.log ≤ length world.log = commits-within (sys_of world) (starting (sys_of world)) world.log in
        let told : disc.tmf.commits ≡ commits_in (sys_of world) world.log = ap (λ (t : Told). t.commits) tells ∙ counts in
        omega (arith, told, own.commits, within, room, same.limit_is, few)
        ∙ sym (commits-are (sys_of world) world.log)
        ∙ ap (λ (b : Behaviour). commits b world.log) of-system

    leads : files_after files (before ++ (first ++ waiting)) ≡ committed_files sys (after sys world.log)
    leads = lead-there ∙ (are ∙ ap (λ (b : Behaviour). committed_files b (after b world.log)) of-system)

    -- none waits, and the disk has not failed
    module _ (none : waiting ≡ []) (goes : disc.log.is_broken ≡ false) where
      all : first ++ waiting ≡ first
      all = ap (λ (l : List UnitChanges). first ++ l) none ∙ append-nil first

      has-committed : HasCommitted files before sys world.log (images disc.log.disk) was_told
      has-committed = record {
        units = first;
        many = ap length (sym all) ∙ many;
        lead = ap (λ (l : List UnitChanges). files_after files (before ++ l)) (sym all) ∙ leads;
        leaves = λ image there.
            ap (λ (fs : List FileInfo). units_in fs image) (sym kept.files_are) ∙ (kept.goes goes).leaves image there;
        followed = followed;
      }

      pub ran-stored : (ended : LogEnding) (text : List ℕ) → EndsAs ended events sys world.log
          → text ≡ report_text world.system (sys_of world) world.log
          → RanStored files before sys system events ended text (images disc.log.disk) was_told
      ran-stored ended text ends is = record {
        log = world.log;
        run = is-run;
        ends = ends;
        is =
            is ∙ ap (λ (s : System). report_text s (sys_of world) world.log) same.system_is
            ∙ ap (λ (b : Behaviour). report_text system b world.log) of-system;
        left = has-committed;
      }

    -- a call has failed, so the disk has
    pub has-failed : faults ≡ 0 → HasFailed world → disc.log.is_broken ≡ true
    has-failed none failed = by disc.log.is_broken refl
      where
        by : (b : Bool) → disc.log.is_broken ≡ b → disc.log.is_broken ≡ true
        by true broken = broken
        by false goes = absurd (omega (arith, own.sound goes, ap (λ (t : Told). t.faults) tells, failed.1, same.count, none))

    -- the disk has failed
    pub stopped-stored : disc.log.is_broken ≡ true → StoppedStored files before sys (images disc.log.disk) was_told least (faulted disc.log.disk)
    stopped-stored broken = record {
      log = world.log;
      run = is-run;
      left = record {
        settled = first;
        waiting = waiting;
        many = many;
        few = omega (arith, kept.count, kept.few);
        lead = leads;
        leaves = λ image there.
            subst (λ (fs : List FileInfo). HasOrWithGroup fs (before ++ first) waiting image) kept.files_are ((kept.stops broken).leaves image there);
        followed = followed;
      };
      rose = (kept.stops broken).rose;
    }
