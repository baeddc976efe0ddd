-- What a call leaves of what a trail keeps.
use Rattle.std.proofs.Common.{◌≡◌, ◌⊎◌, inl, inr, ℕ, ◌+◌, ◌-◌, ◌*◌, Bool, true, false, List, [], ◌∷◌, ◌++◌, length, refl, sym, ◌∙◌, ap, subst, arith, length-append}
use Rattle.std.specs.Prelude.{◌^◌, IfErr, IsErrOf, OnOk, Result, Ok, Err, drop, min}
use Rattle.std.proofs.Math.Seq.{drop-append_seam}
use Rattle.std.proofs.lemmas.Bool.{false≢true}
use Rattle.std.proofs.lemmas.List.{append_assoc, append-nil}
use Rattle.pw_base.specs.Outside.{counted}
use Rattle.pw_code.specs.declared.file.FileCall.{FileCall}
use Rattle.pw_code.specs.declared.file.FileInfo.{FileInfo}
use Rattle.pw_code.specs.declared.unit.Unit as own
use Rattle.pw_deck_runs.specs.recovery.Kept.{EndsBehind, Goes, HasOrOneMore, HasStopped, IsKept, TrailState, told_in, units_since}
use Rattle.pw_tmf.specs.Answers.{Leaves, Operates}
use Rattle.pw_tmf.specs.Told.{Told}
use Rattle.pw_tmf.specs.Units.{all_backed_out, backed_out}
use Rattle.pw_tmf.specs.declared.answer.DiscFault.{DiscFault}
use Rattle.pw_tmf.specs.declared.answer.DiscFault.TheVariants as fault
use Rattle.pw_tmf.specs.declared.answer.FileAnswer.{FileAnswer}
use Rattle.pw_tmf.specs.declared.answer.FileAnswer.TheVariants as operated
use Rattle.pw_trail.specs.Calls.{Commits, FailsAt, Moment, DiskHoldsUnits, moment}
use Rattle.pw_trail.specs.Format.{units_in}
use Rattle.pw_trail.specs.Stored.{those}
use Rattle.pw_trail.specs.declared.changes.UnitChanges.{UnitChanges}
use Rattle.pw_volume.specs.Life.{Calls, Endless, OneCallFails, Life, Passes, Untold}

-- ---- lives

passes-none : (life : Life) → Passes 0 life life
passes-none Untold = tt
passes-none Endless = refl
passes-none (Calls left) = (omega arith, ap Calls (omega arith))

-- calls behind others
pass-more : (m n : ℕ) (first mid last : Life) → Passes m first mid → Passes n mid last → Passes (m + n) first last
pass-more m n Untold mid last before behind = tt
pass-more m n Endless mid last before behind = subst (λ (l : Life). Passes n l last) before behind
pass-more m n (Calls left) mid last before behind =
    let then : Passes n (Calls (left - m)) last = subst (λ (l : Life). Passes n l last) before.1 behind in
    (omega (arith, before.0, then.0), then.1 ∙ ap Calls (omega arith))

-- a life that fails within four calls behind those of so many records
ends-behind : (n : ℕ) (life mid last : Life) → Passes (4 * n) life mid → OneCallFails 4 mid last → EndsBehind n life
ends-behind n Untold mid last passes fails = tt
ends-behind n Endless mid last passes fails = subst (λ (l : Life). OneCallFails 4 l last) passes fails
ends-behind n (Calls left) mid last passes fails =
    let then : OneCallFails 4 (Calls (left - 4 * n)) last = subst (λ (l : Life). OneCallFails 4 l last) passes.1 fails in
    (passes.0, omega (arith, passes.0, then.0))

-- ---- counts

-- a refusal counts none
refused : (answer : Result Unit DiscFault) (old new : Told) → answer ≡ Err fault.Failed → IfErr answer (λ fault. Leaves fault old new)
    → new.commits ≡ old.commits
refused answer old new is err =
    let left : Leaves fault.Failed old new = subst (λ (a : Result Unit DiscFault). IfErr a (λ fault. Leaves fault old new)) is err in
    ap (λ (t : Told). t.commits) left.stays

-- a call that leaves this, where it is done, counts none
pub none-counted : (answer : Result Unit DiscFault) (old next new : Told) → next.commits ≡ old.commits → OnOk answer (new ≡ next)
    → IfErr answer (λ fault. Leaves fault old new) → new.commits ≡ old.commits
none-counted (Ok done) old next new same ok err = ap (λ (t : Told). t.commits) ok ∙ same
none-counted (Err fault.Failed) old next new same ok err = ap (λ (t : Told). t.commits) err.stays
none-counted (Err fault.Memory) old next new same ok err = ap (λ (t : Told). t.commits) err

-- an operation
pub operation-counted : (answer : FileAnswer) (old new : Told) (u : own.Unit) (call : FileCall) → Operates answer old u call new → new.commits ≡ old.commits
operation-counted (operated.Done status content) old new u call done = ap (λ (t : Told). t.commits) done.2
operation-counted (operated.Conflict holder) old new u call done = ap (λ (t : Told). t.commits) done.1
operation-counted operated.Failed old new u call done = ap (λ (t : Told). t.commits) done.stays
operation-counted operated.Memory old new u call done = ap (λ (t : Told). t.commits) done

-- units that are backed out
pub back-counted : (ends : Bool) (told : Told) (units : List own.Unit) → (all_backed_out ends told units).commits ≡ told.commits
back-counted ends told [] = refl
back-counted true told (u ∷ units) = back-counted true (backed_out true told u) units
back-counted false told (u ∷ units) = back-counted false (backed_out false told u) units

-- ---- what a call leaves

-- behind an Ok
pub on-ok : {P Q : Type 0} (answer : Result Unit DiscFault) → OnOk answer P → (P → Q) → OnOk answer Q
on-ok (Ok done) h then = then h
on-ok (Err fault) h then = tt

module _ {S : Type 0} (held : S → List ℕ) (images : S → List ℕ → Type 0) (settled : S → List ℕ) (lasts : S → Life)
    (files : List FileInfo) (before : List UnitChanges) (life : Life) where
  -- what it is that is kept
  abbrev Keeps : TrailState S → Type 0
  Keeps trail = IsKept held images settled lasts files before life trail

  abbrev since : TrailState S → List UnitChanges
  since trail = units_since settled before trail

  -- the units behind those from before are these
  these : (trail : TrailState S) (units : List UnitChanges) → units_in trail.files (settled trail.disk) ≡ Ok (before ++ units)
      → since trail ≡ units
  these trail units is = ap (λ r. drop (length before) (those r)) is ∙ drop-append_seam before units

  -- ---- a trail whose disk works, and one whose disk has failed

  module _ (trail : TrailState S) (units : List UnitChanges)
      (is : trail.files ≡ files) (counts : min (length units) (2 ^ 64 - 1) ≡ trail.tmf.commits) where
    going : images trail.disk (settled trail.disk) → Goes held images lasts before life units trail → Keeps trail
    going stays goes =
        let same : since trail ≡ units = these trail units (goes.stands.leaves (settled trail.disk) stays) in
        record {
          files_are = is;
          counts = ap (λ (us : List UnitChanges). min (length us) (2 ^ 64 - 1)) same ∙ counts;
          goes = λ h. subst (λ (us : List UnitChanges). Goes held images lasts before life us trail) (sym same) goes;
          stopped = λ broken. absurd (false≢true (sym goes.stands.goes ∙ broken));
        }

    stopped : trail.is_broken ≡ true → HasStopped images settled before life units trail → Keeps trail
    stopped broken stop =
        let same : since trail ≡ units = these trail units stop.synced in
        record {
          files_are = is;
          counts = ap (λ (us : List UnitChanges). min (length us) (2 ^ 64 - 1)) same ∙ counts;
          goes = λ goes. absurd (false≢true (sym goes ∙ broken));
          stopped = λ h. subst (λ (us : List UnitChanges). HasStopped images settled before life us trail) (sym same) stop;
        }

  -- ---- calls

  module _ (old new : TrailState S) (stays : images new.disk (settled new.disk)) (k : Keeps old) where
    -- a call that leaves the log
    pub keeps-other : new.files ≡ old.files → new.disk ≡ old.disk → new.is_broken ≡ old.is_broken
        → (old.is_broken ≡ false → new.faults ≡ old.faults) → new.tmf.commits ≡ old.tmf.commits → Keeps new
    keeps-other same_files same_disk same_broken steady same_count = by old.is_broken refl
      where
        by : (b : Bool) → old.is_broken ≡ b → Keeps new
        by false is =
            let goes : Goes held images lasts before life (since old) old = k.goes is in
            going new (since old) (same_files ∙ k.files_are) (k.counts ∙ sym same_count) stays
            (record {
              stands =
                  subst (λ (fs : List FileInfo). DiskHoldsUnits held images (moment fs new.disk new.is_broken) (Ok (before ++ since old))) (sym same_files)
                  (subst (λ (d : S). DiskHoldsUnits held images (moment old.files d new.is_broken) (Ok (before ++ since old))) (sym same_disk)
                  (subst (λ (b : Bool). DiskHoldsUnits held images (moment old.files old.disk b) (Ok (before ++ since old))) (sym same_broken) goes.stands));
              passed = subst (λ (d : S). Passes (4 * length (since old)) life (lasts d)) (sym same_disk) goes.passed;
              faults = steady is ∙ goes.faults;
            })
        by true is =
            let stop : HasStopped images settled before life (since old) old = k.stopped is in
            stopped new (since old) (same_files ∙ k.files_are) (k.counts ∙ sym same_count) (same_broken ∙ is)
            (record {
              synced =
                  ap (λ (fs : List FileInfo). units_in fs (settled new.disk)) same_files
                  ∙ (ap (λ (d : S). units_in old.files (settled d)) same_disk ∙ stop.synced);
              leaves =
                  subst (λ (fs : List FileInfo). (image : List ℕ) → images new.disk image → HasOrOneMore fs (before ++ since old) image) (sym same_files)
                  (subst (λ (d : S). (image : List ℕ) → images d image → HasOrOneMore old.files (before ++ since old) image) (sym same_disk) stop.leaves);
              ends = stop.ends;
            })

    module _ (unit : UnitChanges) where
      -- once the disk has failed
      broken-on : (answer : Result Unit DiscFault)
          → Commits held images (moment old.files old.disk old.is_broken) unit answer
          (moment new.files new.disk new.is_broken)
          → IfErr answer (λ fault. Leaves fault (told_in old) (told_in new))
          → old.is_broken ≡ true → Keeps new
      broken-on answer commits err broken =
          let same : moment new.files new.disk new.is_broken ≡ moment old.files old.disk old.is_broken =
          (commits.broken broken).1 in
          keeps-other (ap (λ (m : Moment S). m.files) same) (ap (λ (m : Moment S). m.disk) same)
          (ap (λ (m : Moment S). m.is_broken) same) (λ goes. absurd (false≢true (sym goes ∙ broken)))
          (refused answer (told_in old) (told_in new) (commits.broken broken).0 err)

      -- an image at a commit at which the disk fails
      either : (units : List UnitChanges) (image : List ℕ)
          → FailsAt images (moment new.files new.disk new.is_broken) (Ok units) unit
          → images new.disk image → HasOrOneMore new.files units image
      either units image fails left = by (fails.leaves image left)
        where
          by : (units_in new.files image ≡ Ok units) ⊎ (units_in new.files image ≡ Ok (units ++ unit ∷ [])) → HasOrOneMore new.files units image
          by (inl is) = inl is
          by (inr is) = inr (unit, is)

      -- before that
      goes-on : (answer : Result Unit DiscFault)
          → Commits held images (moment old.files old.disk old.is_broken) unit answer
          (moment new.files new.disk new.is_broken)
          → OnOk answer (new.faults ≡ old.faults)
          → OnOk answer (new.tmf.commits ≡ counted old.tmf.commits)
          → IfErr answer (λ fault. Leaves fault (told_in old) (told_in new))
          → (IsErrOf answer fault.Failed → (new.is_broken ≡ true)
          × (units_in old.files (settled new.disk) ≡ units_in old.files (held old.disk)))
          → OnOk answer (Passes 4 (lasts old.disk) (lasts new.disk))
          → (IsErrOf answer fault.Failed → OneCallFails 4 (lasts old.disk) (lasts new.disk))
          → (IsErrOf answer fault.Memory → lasts new.disk ≡ lasts old.disk)
          → old.is_broken ≡ false → Keeps new
      goes-on (Ok done) commits ok count err unsettled passes fails uncounted is =
          let us : List UnitChanges = since old in
          let goes : Goes held images lasts before life us old = k.goes is in
          let more : 4 * length us + 4 ≡ 4 * length (us ++ unit ∷ []) = omega (arith, length-append us (unit ∷ [])) in
          going new (us ++ unit ∷ []) (commits.files ∙ k.files_are) (omega (arith, length-append us (unit ∷ []), k.counts, count)) stays
          (record {
            stands =
                subst (λ (whole : List UnitChanges). DiskHoldsUnits held images (moment new.files new.disk new.is_broken) (Ok whole))
                (append_assoc before us (unit ∷ [])) (commits.stands (Ok (before ++ us)) goes.stands);
            passed =
                subst (λ (n : ℕ). Passes n life (lasts new.disk)) more
                (pass-more (4 * length us) 4 life (lasts old.disk) (lasts new.disk) goes.passed passes);
            faults = ok ∙ goes.faults;
          })
      goes-on (Err fault.Failed) commits ok count err unsettled passes fails uncounted is =
          let us : List UnitChanges = since old in
          let goes : Goes held images lasts before life us old = k.goes is in
          let left = unsettled refl in
          stopped new us (commits.files ∙ k.files_are) (k.counts ∙ sym (ap (λ (t : Told). t.commits) err.stays)) left.0
          (record {
            synced = ap (λ (fs : List FileInfo). units_in fs (settled new.disk)) commits.files ∙ (left.1 ∙ goes.stands.holds);
            leaves = λ image there. either (before ++ us) image (commits.stands (Ok (before ++ us)) goes.stands) there;
            ends = ends-behind (length us) life (lasts old.disk) (lasts new.disk) goes.passed (fails refl);
          })
      goes-on (Err fault.Memory) commits ok count err unsettled passes fails uncounted is =
          let us : List UnitChanges = since old in
          let goes : Goes held images lasts before life us old = k.goes is in
          going new us (commits.files ∙ k.files_are) (k.counts ∙ sym (ap (λ (t : Told). t.commits) err)) stays
          (record {
            stands = commits.stands (Ok (before ++ us)) goes.stands;
            passed = subst (λ (l : Life). Passes (4 * length us) life l) (sym (uncounted refl)) goes.passed;
            faults = omega (arith, ap (λ (t : Told). t.faults) err, goes.faults);
          })

      pub keeps-commit : (answer : Result Unit DiscFault)
          → Commits held images (moment old.files old.disk old.is_broken) unit answer
          (moment new.files new.disk new.is_broken)
          → OnOk answer (new.faults ≡ old.faults)
          → OnOk answer (new.tmf.commits ≡ counted old.tmf.commits)
          → IfErr answer (λ fault. Leaves fault (told_in old) (told_in new))
          → (old.is_broken ≡ false → IsErrOf answer fault.Failed → (new.is_broken ≡ true)
          × (units_in old.files (settled new.disk) ≡ units_in old.files (held old.disk)))
          → OnOk answer (Passes 4 (lasts old.disk) (lasts new.disk))
          → (old.is_broken ≡ false → IsErrOf answer fault.Failed
          → OneCallFails 4 (lasts old.disk) (lasts new.disk))
          → (IsErrOf answer fault.Memory → lasts new.disk ≡ lasts old.disk)
          → Keeps new
      keeps-commit answer commits ok count err unsettled passes fails uncounted = by old.is_broken refl
        where
          by : (b : Bool) → old.is_broken ≡ b → Keeps new
          by false is = goes-on answer commits ok count err (unsettled is) passes (fails is) uncounted is
          by true is = broken-on answer commits err is

-- at the start, with the units that are there
pub starts : {S : Type 0} (held : S → List ℕ) (images : S → List ℕ → Type 0) (settled : S → List ℕ) (lasts : S → Life)
    (before : List UnitChanges) (trail : TrailState S) → images trail.disk (settled trail.disk)
    → DiskHoldsUnits held images (moment trail.files trail.disk trail.is_broken) (Ok before)
    → trail.faults ≡ 0 → trail.tmf.commits ≡ 0
    → IsKept held images settled lasts trail.files before (lasts trail.disk) trail
starts held images settled lasts before trail stays stands none new =
    going held images settled lasts trail.files before (lasts trail.disk) trail [] refl (omega (arith, new)) stays
    (record {
      stands = subst (λ (us : List UnitChanges). DiskHoldsUnits held images (moment trail.files trail.disk trail.is_broken) (Ok us)) (sym (append-nil before)) stands;
      passed = passes-none (lasts trail.disk);
      faults = none;
    })
