-- What is said of a system that was read is said of its deck, over the records of a store.
use Rattle.std.proofs.Common.{◌≡◌, ◌∙◌, ◌≤◌, ℕ, List, All, ap, arith, length, subst, sym}
use Rattle.pw_code.specs.Limits.{most_fail_lines, most_log_lines}
use Rattle.pw_code.specs.Valid.{IsValid}
use Rattle.pw_code.specs.declared.file.FileInfo.{FileInfo}
use Rattle.pw_code.specs.declared.lock.LockRule.TheVariants.{ReadersShare}
use Rattle.pw_code.specs.declared.system.System.{System}
use Rattle.pw_code_meaning.specs.OfSystem.{behaviour}
use Rattle.pw_compiled_deck.proofs.Decks.{IsOf}
use Rattle.pw_compiled_deck.specs.Named.{IsFailNamed}
use Rattle.pw_compiled_deck.specs.declared.deck.Deck.{Deck}
use Rattle.pw_deck_runs.proofs.Lifts.{AreLawful}
use Rattle.pw_deck_runs.specs.Meaning.{meaning, named}
use Rattle.pw_event.specs.declared.event.Event.{Event}
use Rattle.pw_event.specs.declared.script.FailLine.{FailLine}
use Rattle.pw_group_commit.specs.declared.follower.UnitName.{UnitName}
use Rattle.pw_onecopy.specs.Behaviour.{Behaviour}
use Rattle.pw_onecopy.specs.IsBehaviour.{IsBehaviour}
use Rattle.pw_paired.specs.Step.{IsRun}
use Rattle.pw_read_back.specs.ReadFrom.{IsReadFrom}
use Rattle.pw_read_back.specs.Runs.{IsRunOf}
use Rattle.pw_records.specs.Records.{AreAlike, AreRecordsOf, over_records, with_records}
use Rattle.pw_report_text.specs.Meaning.{report_text}
use Rattle.pw_store_runs.proofs.Setting.{BehavesOver, IsSameOver, KeepsValid, behaves-on, lines-on}
use Rattle.pw_store_runs.specs.Left.{HasCommitted, HasSettled, RanStored, RunsStored, StoppedStored}
use Rattle.pw_store_runs.specs.Stores.{AreFilesOf, EndsInStore, ReportsOver, StopsInStore, StoreRuns, meaning_over, named_over}
use Rattle.pw_store_runs.specs.Systems.{RunsOverTrail}
use Rattle.pw_store_runs.specs.declared.ending.Stored.{Stored}
use Rattle.pw_store_runs.specs.declared.ending.Stored.TheVariants.{Ended, Failed}
use Rattle.pw_trail.specs.Files.{files_after}
use Rattle.pw_trail.specs.Format.{units_in}
use Rattle.pw_trail.specs.declared.changes.UnitChanges.{UnitChanges}
use Rattle.pw_workers.specs.Endings.{EndsAs}
use Rattle.pw_workers.specs.declared.ending.LogEnding.{LogEnding}
use Rattle.pw_world_state.specs.May.{IsLineThere}

-- every run of a system is read back from its report
abbrev pub AreReadBack : Type 0
AreReadBack = (system : System) (script : List FailLine) (log : List Event) → IsRunOf system script log
    → IsReadFrom system (report_text system (behaviour script system) log) log

-- failure lines that are named are there
abbrev pub AreLinesThere : Type 0
AreLinesThere = (system : System) (lines : List FailLine) → All (IsFailNamed system) lines → All (IsLineThere system) lines

module _ (lawful : AreLawful) (back : AreReadBack) (there : AreLinesThere) (keeps : KeepsValid) (same-over : IsSameOver) (over : BehavesOver)
    (bytes : List ℕ) (whole : Deck) (of : IsOf bytes whole) (valid : IsValid whole.system)
    (behaves : IsBehaviour (behaviour whole.script.lines whole.system))
    (same : behaviour whole.script.lines whole.system ≡ meaning ReadersShare of.deck)
    (lines : All (IsFailNamed whole.system) whole.script.lines) (few : length whole.script.lines ≤ most_fail_lines)
    (events : ℕ) (most : events ≤ most_log_lines) where
  abbrev script : List FailLine
  script = whole.script.lines

  system-is : whole.system ≡ named ReadersShare of.deck
  system-is = ap (λ (w : Deck). w.system) of.is

  module _ (files : List FileInfo) (units : List UnitChanges) (are : AreRecordsOf whole.system (files_after files units)) where
    abbrev records : ℕ → List (List ℕ)
    records = files_after files units

    abbrev sys : Behaviour
    sys = over_records (behaviour script whole.system) records

    abbrev own : System
    own = with_records whole.system records

    sys-is : sys ≡ meaning_over of.deck records
    sys-is = ap (λ (b : Behaviour). over_records b records) same

    own-is : own ≡ named_over of.deck records
    own-is = ap (λ (s : System). with_records s records) system-is

    run-of : (log : List Event) → IsRun sys log → length log ≤ most_log_lines → IsRunOf own script log
    run-of log run short = record {
      valid = keeps whole.system records valid are;
      deck = behaves-on same-over over script whole.system records are behaves;
      lines = there own script (lines-on whole.system records script lines);
      few = omega (arith, few);
      run = subst (λ (b : Behaviour). IsRun b log) (sym (same-over script whole.system records are)) run;
      short = short;
    }

    read-from : (log : List Event) (text : List ℕ) → IsRun sys log → length log ≤ most_log_lines → text ≡ report_text own sys log
        → IsReadFrom own text log
    read-from log text run short is =
        subst (λ (t : List ℕ). IsReadFrom own t log)
        (ap (λ (b : Behaviour). report_text own b log) (same-over script whole.system records are) ∙ sym is)
        (back own script log (run-of log run short))

    reports-over : (ended : LogEnding) (text : List ℕ) (images : List ℕ → Type 0) (told : List UnitName → Type 0)
        → RanStored files units sys own events ended text images told
        → ReportsOver files units of.deck events ended text images told
    reports-over ended text images told ran = record {
      log = ran.log;
      prints = record {
        promises = lawful (meaning_over of.deck records) (subst IsBehaviour sys-is (over script whole.system records are behaves)) ran.log
            (subst (λ (b : Behaviour). IsRun b ran.log) sys-is ran.run);
        is =
            ran.is ∙ (ap (λ (s : System). report_text s sys ran.log) own-is
            ∙ ap (λ (b : Behaviour). report_text (named_over of.deck records) b ran.log) sys-is);
        read =
            subst (λ (s : System). IsReadFrom s text ran.log) own-is
            (read-from ran.log text ran.run (omega (arith, ran.ends.room, most)) ran.is);
      };
      ends = subst (λ (b : Behaviour). EndsAs ended events b ran.log) sys-is ran.ends;
      left = subst (λ (b : Behaviour). HasCommitted files units b ran.log images told) sys-is ran.left;
    }

    stops-over : (images : List ℕ → Type 0) (told : List UnitName → Type 0) (least faults : ℕ)
        → StoppedStored files units sys images told least faults → StopsInStore files units of.deck images told least faults
    stops-over images told least faults stopped = record {
      log = stopped.log;
      promises = lawful (meaning_over of.deck records) (subst IsBehaviour sys-is (over script whole.system records are behaves)) stopped.log
          (subst (λ (b : Behaviour). IsRun b stopped.log) sys-is stopped.run);
      left = subst (λ (b : Behaviour). HasSettled files units b stopped.log images told) sys-is stopped.left;
      rose = stopped.rose;
    }

    ends-over : {S F : Type 0} (images : S → List ℕ → Type 0) (faulted : S → ℕ) (was_told : F → List UnitName → Type 0) (least : ℕ)
        (stored : Stored S F) → RunsStored images faulted was_told files units least sys own events stored
        → EndsInStore images faulted was_told files units least of.deck events stored
    ends-over images faulted was_told least (Ended ended text disk follower) ran = reports-over ended text (images disk) (was_told follower) ran
    ends-over images faulted was_told least (Failed disk follower) stopped = stops-over (images disk) (was_told follower) least (faulted disk) stopped

  -- a run over the store
  pub store-runs : {S F : Type 0} (images : S → List ℕ → Type 0) (faulted : S → ℕ) (was_told : F → List UnitName → Type 0)
      (first trail : List ℕ) (least : ℕ) (files : List FileInfo) (stored : Stored S F) → AreFilesOf first files → AreAlike files whole.system.files
      → RunsOverTrail images faulted was_told files trail least script whole.system events stored
      → StoreRuns images faulted was_told first trail least bytes events stored
  store-runs images faulted was_told first trail least files stored own alike runs = record {
    base = own.deck;
    units = runs.units;
    store = record {
      began = own.says;
      has = ap (λ (fs : List FileInfo). units_in fs trail) (sym own.are) ∙ runs.has;
    };
    deck = of.deck;
    says = of.says;
    alike =
        subst (λ (fs : List FileInfo). AreAlike fs of.deck.told.system.files) own.are
        (subst (λ (s : System). AreAlike files s.files) system-is alike);
    ends =
        subst (λ (fs : List FileInfo). EndsInStore images faulted was_told fs runs.units least of.deck events stored) own.are
        (ends-over files runs.units runs.are images faulted was_told least stored runs.ends);
  }
