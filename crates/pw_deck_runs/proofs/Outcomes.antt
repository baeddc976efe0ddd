-- How a run over a trail has ended.
use Rattle.std.proofs.Common.{◌≡◌, ◌≢◌, ℕ, zero, suc, ◌-◌, ◌/◌, ◌<◌, ◌≤◌, Bool, true, false, List, [], ◌++◌, length, refl, sym, ◌∙◌, ap, subst, arith}
use Rattle.std.specs.Prelude.{Ok}
use Rattle.pw_code.specs.Limits.{most_log_lines}
use Rattle.pw_code.specs.declared.file.FileInfo.{FileInfo}
use Rattle.pw_code.specs.declared.system.System.{System}
use Rattle.pw_event.specs.declared.event.Event.{Event}
use Rattle.pw_event.specs.declared.script.FailLine.{FailLine}
use Rattle.pw_code_meaning.specs.OfSystem.{behaviour}
use Rattle.pw_report_text.specs.Listing.{files_part}
use Rattle.pw_report_text.specs.Meaning.{files_text}
use Rattle.pw_world_model.proofs.Counted.{commits-within}
use Rattle.pw_world_model.specs.Answers.{HasFailed}
use Rattle.pw_world_model.specs.Commits.{commits_in}
use Rattle.pw_world_model.specs.Seen.{Seen, state_of, sys_of}
use Rattle.pw_onecopy.specs.Behaviour.{Behaviour}
use Rattle.pw_paired.specs.State.{starting}
use Rattle.pw_paired.specs.Step.{IsRun, after, is_finished}
use Rattle.pw_paired.specs.Units.{committed_files}
use Rattle.pw_deck_runs.proofs.Counting.{commits-are}
use Rattle.pw_deck_runs.specs.recovery.Commits.{commits}
use Rattle.pw_deck_runs.specs.recovery.Kept.{EndsBehind, HasStopped, IsKept, TrailState, life_to, told_in, units_since}
use Rattle.pw_deck_runs.specs.recovery.Ran.{EndsOver, RanOverTrail}
use Rattle.pw_deck_runs.specs.recovery.Runs.{AreAfter, EndsRecoveredRun, RecoversTo, as_recovered}
use Rattle.pw_deck_runs.specs.declared.recovery.ending.Recovered.{Recovered}
use Rattle.pw_deck_runs.specs.declared.recovery.ending.Recovered.TheVariants.{Full, Irregular, Regular, Stopped}
use Rattle.pw_workers.specs.Endings.{EndsAs}
use Rattle.pw_workers.specs.declared.ending.LogEnding.{LogEnding}
use Rattle.pw_workers.specs.declared.ending.LogEnding.TheVariants as ended
use Rattle.pw_tmf.specs.Committed.{committed}
use Rattle.pw_tmf.specs.Told.{Told}
use Rattle.pw_trail.specs.Committing.{LeadsTo}
use Rattle.pw_trail.specs.Files.{files_after, files_read}
use Rattle.pw_trail.specs.declared.changes.UnitChanges.{UnitChanges}
use Rattle.pw_volume.specs.Life.{Life}
use Rattle.pw_workers.specs.Ends.{RunGoesOn, IsFor}

over : (files : List FileInfo) (before : List UnitChanges) (life : Life) (events : ℕ) (sys : Behaviour) (log : List Event)
    (ended : LogEnding) → EndsAs ended events sys log → EndsOver (as_recovered ended) before life files events sys log
over files before life events sys log ended.Regular h = h
over files before life events sys log ended.Irregular h = h
over files before life events sys log ended.Full h = h

module _ (files : List FileInfo) (before : List UnitChanges) (life : Life) (system : System) (lines : List FailLine) (events faults : ℕ)
    (world : Seen) (records : ℕ → List (List ℕ)) (same : IsFor system lines [] events faults world)
    (run : IsRun (sys_of world) world.log)
    (are : records ≡ committed_files (sys_of world) (state_of world)) where
  abbrev sys : Behaviour
  sys = behaviour lines system

  of-system : sys_of world ≡ sys
  of-system =
      ap (λ (s : List FailLine). behaviour s world.system) same.script_is
      ∙ ap (λ (s : System). behaviour lines s) same.system_is

  is-run : IsRun sys world.log
  is-run = subst (λ (b : Behaviour). IsRun b world.log) of-system run

  are-committed : records ≡ committed_files sys (after sys world.log)
  are-committed = are ∙ ap (λ (b : Behaviour). committed_files b (after b world.log)) of-system

  -- as its log says
  pub ran-ended : (ended : LogEnding) → EndsAs ended events sys world.log
      → RanOverTrail files before life sys events (as_recovered ended) records
  ran-ended ended ends = record {
    log = world.log;
    run = is-run;
    ends = over files before life events sys world.log ended ends;
    are = are-committed;
  }

  -- by a fault of the disk
  module _ {S : Type 0} (held : S → List ℕ) (images : S → List ℕ → Type 0) (settled : S → List ℕ) (lasts : S → Life)
      (trail : TrailState S) (kept : IsKept held images settled lasts files before life trail)
      (tells : told_in trail ≡ world.kept.disc) (is : records ≡ committed (told_in trail))
      (leads : LeadsTo trail.files (told_in trail) (settled trail.disk)) where
    has-failed : faults ≡ 0 → HasFailed world → trail.is_broken ≡ true
    has-failed none failed = by trail.is_broken refl
      where
        by : (b : Bool) → trail.is_broken ≡ b → trail.is_broken ≡ true
        by true broken = broken
        by false goes =
            absurd (omega (arith, (kept.goes goes).faults, ap (λ (t : Told). t.faults) tells, failed.1, same.count, none))

    are-after : (units : List UnitChanges) → HasStopped images settled before life units trail
        → AreAfter before (length units) files (committed_files sys (after sys world.log))
    are-after units stop =
        let read : files_read trail.files (Ok (before ++ units)) ≡ Ok (committed (told_in trail)) =
        ap (files_read trail.files) (sym stop.synced) ∙ leads in
        let own : committed (told_in trail) ≡ files_after trail.files (before ++ units) = cc in
        record {
          units = units;
          many = refl;
          are = sym are-committed ∙ (is ∙ (own ∙ ap (λ (fs : List FileInfo). files_after fs (before ++ units)) kept.files_are));
        }

    pub ran-stopped : faults ≡ 0 → HasFailed world → RunGoesOn world → length world.log ≤ world.limit → events ≤ most_log_lines
        → world.kept.disc.commits ≡ commits_in (sys_of world) world.log → RanOverTrail files before life sys events Stopped records
    ran-stopped none failed on room few counts =
        let units : List UnitChanges = units_since settled before trail in
        let stop : HasStopped images settled before life units trail = kept.stopped (has-failed none failed) in
        let within : commits_in (sys_of world) world.log ≤ length world.log = commits-within (sys_of world) (starting (sys_of world)) world.log in
        let told : trail.tmf.commits ≡ commits_in (sys_of world) world.log = ap (λ (t : Told). t.commits) tells ∙ counts in
        let open_end : length world.log ≢ world.limit = λ full. on.room (full, on.unfinished) in
        record {
          log = world.log;
          run = is-run;
          ends = record {
            unfinished = ap (λ (b : Behaviour). is_finished b (after b world.log)) (sym of-system) ∙ on.unfinished;
            room = omega (arith, room, same.limit_is, open_end);
            count = length units;
            commit =
                ap (λ (b : Behaviour). commits b world.log) (sym of-system)
                ∙ (commits-are (sys_of world) world.log ∙ omega (arith, told, kept.counts, within, room, same.limit_is, few));
            ends = stop.ends;
            records = are-after units stop;
          };
          are = are-committed;
        }

-- ---- the call of the disk that is the first to fail

pub ends-so : (n at : ℕ) → EndsBehind n (life_to at) → (0 < at) × (n ≡ (at - 1) / 4)
ends-so n zero ends = absurd ends
ends-so n (suc calls) ends = (omega arith, omega (arith, ends.0, ends.1))

pub so : (recovered : Recovered) (at : ℕ) (files : List FileInfo) (events : ℕ) (deck : Behaviour) (log : List Event)
    → EndsOver recovered [] (life_to at) files events deck log → EndsRecoveredRun recovered at files events deck log
so Regular at files events deck log h = h
so Irregular at files events deck log h = h
so Full at files events deck log h = h
so Stopped at files events deck log h =
    let e = ends-so h.count at h.ends in
    record {
      some = e.0;
      unfinished = h.unfinished;
      room = h.room;
      commit = h.commit ∙ e.1;
      records = subst (λ (n : ℕ). AreAfter [] n files (committed_files deck (after deck log))) e.1 h.records;
    }

-- what a run over a trail comes to, whose records are listed
pub recovers-to : (system : System) (sys : Behaviour) (events at : ℕ) (life : Life) (files : List FileInfo)
    (recovered : Recovered) (records : ℕ → List (List ℕ)) (text : List ℕ)
    → ((log : List Event) → IsRun sys log → files_part system (committed_files sys (after sys log)) ≡ files_text system sys log)
    → life ≡ life_to at → files ≡ system.files → RanOverTrail files [] life sys events recovered records
    → text ≡ files_part system records → RecoversTo sys system events at recovered text
recovers-to system sys events at life files recovered records text printed lives own ran is = record {
  log = ran.log;
  run = ran.run;
  ends =
      so recovered at system.files events sys ran.log
      (subst (λ (fs : List FileInfo). EndsOver recovered [] (life_to at) fs events sys ran.log) own
      (subst (λ (l : Life). EndsOver recovered [] l files events sys ran.log) lives ran.ends));
  is = is ∙ (ap (files_part system) ran.are ∙ printed ran.log ran.run);
}
