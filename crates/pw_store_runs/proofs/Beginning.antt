-- What a run over a store begins with.
use Rattle.std.proofs.Common.{◌≡◌, ◌≤◌, ◌∙◌, ℕ, List, Ok, Result, sym, ap, subst, arith}
use Rattle.pw_code.specs.declared.file.FileInfo.{FileInfo}
use Rattle.pw_code.specs.declared.system.System.{System}
use Rattle.pw_code_meaning.specs.OfSystem.{behaviour}
use Rattle.pw_deck_runs.specs.recovery.Kept.{TrailState, told_in}
use Rattle.pw_event.specs.declared.script.FailLine.{FailLine}
use Rattle.pw_files.specs.Records.{IsFile}
use Rattle.pw_group_commit.specs.declared.follower.UnitName.{UnitName}
use Rattle.pw_onecopy.specs.Behaviour.{Behaviour}
use Rattle.pw_records.specs.Records.{AreAlike, AreRecordsOf, over_records, with_records}
use Rattle.pw_store_runs.proofs.Setting.{IsSameOver}
use Rattle.pw_store_runs.specs.Left.{RunsStored}
use Rattle.pw_store_runs.specs.Systems.{BeginsStored, RunsOverTrail}
use Rattle.pw_store_runs.specs.declared.ending.Stored.{Stored}
use Rattle.pw_store_runs.specs.declared.ending.Stored.TheVariants.{Ended, Failed}
use Rattle.pw_tmf.specs.Committed.{committed}
use Rattle.pw_tmf.specs.Faulty.{with_faults}
use Rattle.pw_tmf.specs.Starting.{told_at_start}
use Rattle.pw_tmf.specs.Tmf.{told_of}
use Rattle.pw_trail.specs.Calls.{DiskHoldsUnits, moment}
use Rattle.pw_trail.specs.Committing.{LeadsTo}
use Rattle.pw_trail.specs.Files.{files_after, files_read, keys_of, told_with}
use Rattle.pw_trail.specs.Format.{units_in}
use Rattle.pw_trail.specs.Restoring.{IsReadBack}
use Rattle.pw_trail.specs.Stored.{those}
use Rattle.pw_trail.specs.declared.changes.UnitChanges.{UnitChanges}
use Rattle.pw_world_model.proofs.Starts as disc
use Rattle.pw_world_model.specs.Worlds.{IsDiscOf}

-- what the laws of records say
abbrev pub FindsRecords : Type 0
FindsRecords = (files : List FileInfo) (system : System) (bytes : List ℕ) (units : List UnitChanges)
    → AreAlike files system.files → units_in files bytes ≡ Ok units
    → ((f : ℕ) → IsFile (keys_of files f) (files_after files units f)) → AreRecordsOf system (files_after files units)

abbrev pub TellsRecords : Type 0
TellsRecords = (files : List FileInfo) (system : System) (records : ℕ → List (List ℕ)) → AreAlike files system.files
    → AreRecordsOf system records → told_with (record system { files = files }) records ≡ told_at_start (with_records system records)

module _ {S : Type 0} (held : S → List ℕ) (images : S → List ℕ → Type 0) (own system : System) (bytes : List ℕ) (trail : TrailState S)
    (finds : FindsRecords) (tells : TellsRecords) (alike : AreAlike own.files system.files)
    (is : own ≡ record system { files = own.files }) (files : trail.files ≡ own.files)
    (back : IsReadBack own (units_in own.files bytes) (told_of trail.tmf)) (none : trail.faults ≡ 0)
    (stands : DiskHoldsUnits held images (moment trail.files trail.disk trail.is_broken) (units_in own.files bytes))
    (leads : LeadsTo trail.files (told_of trail.tmf) (held trail.disk)) where
  abbrev pub found : ℕ → List (List ℕ)
  found = files_after own.files back.units

  pub found-are : AreRecordsOf system found
  found-are = finds own.files system bytes back.units alike back.reads back.restored.files

  -- what is committed is what was found
  pub committed-found : committed (told_in trail) ≡ found
  committed-found =
      let read : files_read own.files (Ok back.units) ≡ Ok (committed (told_of trail.tmf)) =
      ap (files_read own.files) (sym (stands.holds ∙ back.reads))
      ∙ ap (λ (fs : List FileInfo). files_read fs (units_in trail.files (held trail.disk))) (sym files) ∙ leads in
      let same : found ≡ committed (told_of trail.tmf) = cc in
      sym same

  pub begins-stored : (now : System) → now ≡ with_records system (committed (told_in trail))
      → BeginsStored held images own.files bytes system now trail
  begins-stored now now_is =
      let with : now ≡ with_records system found = now_is ∙ ap (with_records system) committed-found in
      record {
        units = back.units;
        has = back.reads;
        are = found-are;
        now_is = with;
        tells =
            ap (λ (n : ℕ). with_faults n (told_of trail.tmf)) none
            ∙ (ap (with_faults 0) back.restored.is
            ∙ (ap (λ (s : System). told_with s found) is
            ∙ (tells own.files system found alike found-are ∙ ap told_at_start (sym with))));
        files_are = files;
        stands = subst (λ (r : Result (List UnitChanges) ℕ). DiskHoldsUnits held images (moment trail.files trail.disk trail.is_broken) r) back.reads stands;
        faults = none;
      }

-- the units with which a trail begins are those that its last sync left
pub begins-stands : {S : Type 0} (held : S → List ℕ) (images : S → List ℕ → Type 0) (settled : S → List ℕ)
    (files : List FileInfo) (bytes : List ℕ) (system now : System) (trail : TrailState S)
    → images trail.disk (settled trail.disk) → BeginsStored held images files bytes system now trail
    → DiskHoldsUnits held images (moment trail.files trail.disk trail.is_broken) (Ok (those (units_in trail.files (settled trail.disk))))
begins-stands held images settled files bytes system now trail stays b =
    subst (λ (us : List UnitChanges). DiskHoldsUnits held images (moment trail.files trail.disk trail.is_broken) (Ok us))
    (ap those (sym (b.stands.leaves (settled trail.disk) stays))) b.stands

pub begins-units : {S : Type 0} (held : S → List ℕ) (images : S → List ℕ → Type 0) (settled : S → List ℕ)
    (files : List FileInfo) (bytes : List ℕ) (system now : System) (trail : TrailState S)
    → images trail.disk (settled trail.disk) → (b : BeginsStored held images files bytes system now trail)
    → those (units_in trail.files (settled trail.disk)) ≡ b.units
begins-units held images settled files bytes system now trail stays b = ap those (b.stands.leaves (settled trail.disk) stays)

-- a count that has risen since the trail was opened has risen since before
earlier : {S F : Type 0} (images : S → List ℕ → Type 0) (faulted : S → ℕ) (was_told : F → List UnitName → Type 0) (files : List FileInfo) (units : List UnitChanges) (first least : ℕ)
    (sys : Behaviour) (system : System) (events : ℕ) (stored : Stored S F) → first ≤ least
    → RunsStored images faulted was_told files units least sys system events stored → RunsStored images faulted was_told files units first sys system events stored
earlier images faulted was_told files units first least sys system events (Ended ended text disk follower) le ran = ran
earlier images faulted was_told files units first least sys system events (Failed disk follower) le stopped =
    record { log = stopped.log; run = stopped.run; left = stopped.left; rose = omega (arith, le, stopped.rose) }

-- the run over such a trail is one over the records that it leads to
pub runs-over : {S F : Type 0} (held : S → List ℕ) (images : S → List ℕ → Type 0) (settled : S → List ℕ) (faulted : S → ℕ)
    (was_told : F → List UnitName → Type 0) (files : List FileInfo)
    (bytes : List ℕ) (first : ℕ) (script : List FailLine) (system now : System) (trail : TrailState S) (events : ℕ) (stored : Stored S F)
    → IsSameOver → images trail.disk (settled trail.disk) → first ≤ faulted trail.disk
    → BeginsStored held images files bytes system now trail
    → RunsStored images faulted was_told trail.files (those (units_in trail.files (settled trail.disk))) (faulted trail.disk) (behaviour script now) now events stored
    → RunsOverTrail images faulted was_told files bytes first script system events stored
runs-over held images settled faulted was_told files bytes first script system now trail events stored over stays le b runs =
    let records : ℕ → List (List ℕ) = files_after files b.units in
    let own : System = with_records system records in
    let sys : behaviour script now ≡ over_records (behaviour script system) records =
    ap (behaviour script) b.now_is ∙ over script system records b.are in
    let since : RunsStored images faulted was_told trail.files (those (units_in trail.files (settled trail.disk))) first (behaviour script now) now events stored =
    earlier images faulted was_told trail.files (those (units_in trail.files (settled trail.disk))) first (faulted trail.disk) (behaviour script now) now events stored le runs in
    let of-files : RunsStored images faulted was_told files (those (units_in trail.files (settled trail.disk))) first (behaviour script now) now events stored =
    subst (λ (fs : List FileInfo). RunsStored images faulted was_told fs (those (units_in trail.files (settled trail.disk))) first (behaviour script now) now events stored)
    b.files_are since in
    let of-units : RunsStored images faulted was_told files b.units first (behaviour script now) now events stored =
    subst (λ (us : List UnitChanges). RunsStored images faulted was_told files us first (behaviour script now) now events stored)
    (begins-units held images settled files bytes system now trail stays b) of-files in
    record {
      units = b.units;
      has = b.has;
      are = b.are;
      ends =
          subst (λ (s : System). RunsStored images faulted was_told files b.units first (over_records (behaviour script system) records) s events stored) b.now_is
          (subst (λ (m : Behaviour). RunsStored images faulted was_told files b.units first m now events stored) sys of-units);
    }

-- the trail is a disc of the system with its records
pub begins-disc : {S : Type 0} (held : S → List ℕ) (images : S → List ℕ → Type 0) (files : List FileInfo) (bytes : List ℕ)
    (system now : System) (script : List FailLine) (trail : TrailState S) → BeginsStored held images files bytes system now trail
    → IsDiscOf now script (told_in trail)
begins-disc held images files bytes system now script trail b = subst (IsDiscOf now script) (sym b.tells) (disc.starts now script)
