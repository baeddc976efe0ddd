-- What a disc over a log of groups keeps, call by call.
use Rattle.std.proofs.Common.{◌≡◌, ◌∙◌, ℕ, false, List, [], ◌∷◌, ◌++◌, length, Option, sym, ap, subst, arith, length-append}
use Rattle.std.proofs.lemmas.List.{append_assoc}
use Rattle.pw_code.specs.declared.file.FileInfo.{FileInfo}
use Rattle.pw_code.specs.declared.unit.Unit as unit
use Rattle.pw_group_commit.specs.Discs.{DiscState, IsGroupDisc, disc_state}
use Rattle.pw_group_commit.specs.Grouped.{GroupState, added_units}
use Rattle.pw_tmf.specs.Committed.{committed}
use Rattle.pw_tmf.specs.Tmf.{TmfState, told_of}
use Rattle.pw_tmf.specs.Told.{Told}
use Rattle.pw_tmf.specs.Units.{after_commit}
use Rattle.pw_trail.specs.Committing.{record_of}
use Rattle.pw_trail.specs.Files.{files_after}
use Rattle.pw_trail.specs.Orderly.{IsOrderly}
use Rattle.pw_trail.specs.Restoring.{HasFiles}
use Rattle.pw_trail.specs.declared.changes.UnitChanges.{UnitChanges}
use Rattle.pw_trail.proofs.Keeping.{Keeps, commit-files, keeps-commit, recorded-units}

module _ {S : Type 0} (settled : S → List ℕ) (before : List UnitChanges) (disc : DiscState S) (k : IsGroupDisc settled before disc) where
  -- a call that leaves the log, the committed records and their count
  pub keeps-call : (tmf : TmfState) → Keeps (told_of disc.tmf) (told_of tmf) → IsGroupDisc settled before (disc_state disc.log disc.faults tmf)
  keeps-call tmf same = record {
    of = same.files disc.log.files k.of;
    orderly = same.orderly;
    leads = k.leads ∙ sym same.same;
    commits = k.commits ∙ sym same.commits;
    sound = k.sound;
  }

  -- one that leaves what is told, and of the log what was added
  pub keeps-told : (log : GroupState S) (faults : ℕ) (tmf : TmfState) → log.files ≡ disc.log.files
      → added_units settled before log ≡ added_units settled before disc.log
      → (log.is_broken ≡ false → faults ≡ 0) → told_of tmf ≡ told_of disc.tmf
      → IsGroupDisc settled before (disc_state log faults tmf)
  keeps-told log faults tmf files added sound told = record {
    of = subst (λ (fs : List FileInfo). HasFiles fs (told_of tmf)) (sym files) (subst (HasFiles disc.log.files) (sym told) k.of);
    orderly = subst (λ (t : Told). ∥ IsOrderly t ∥₁) (sym told) k.orderly;
    leads =
        ap (λ (fs : List FileInfo). files_after fs (before ++ added_units settled before log)) files
        ∙ ap (λ (us : List UnitChanges). files_after disc.log.files (before ++ us)) added ∙ k.leads ∙ ap committed (sym told);
    commits = omega (arith, ap length added, k.commits, ap (λ (t : Told). t.commits) told);
    sound = sound;
  }

  -- a commit
  pub keeps-unit : (u : unit.Unit) (reply : Option (List ℕ)) (log : GroupState S) (tmf : TmfState) (made : UnitChanges)
      → made ≡ record_of (told_of disc.tmf) u → log.files ≡ disc.log.files
      → added_units settled before log ≡ added_units settled before disc.log ++ made ∷ []
      → disc.log.is_broken ≡ false → told_of tmf ≡ after_commit (told_of disc.tmf) u reply
      → IsGroupDisc settled before (disc_state log disc.faults tmf)
  keeps-unit u reply log tmf made made_is files added goes is = record {
    of = subst (λ (fs : List FileInfo). HasFiles fs (told_of tmf)) (sym files) (commit-files disc.log.files (told_of disc.tmf) (told_of tmf) u reply k.of is);
    orderly = keeps-commit (told_of disc.tmf) (told_of tmf) u reply k.orderly is;
    leads =
        ap (λ (fs : List FileInfo). files_after fs (before ++ added_units settled before log)) files
        ∙ ap (λ (us : List UnitChanges). files_after disc.log.files (before ++ us)) added
        ∙ ap (files_after disc.log.files) (sym (append_assoc before (added_units settled before disc.log) (made ∷ [])))
        ∙ recorded-units disc.log.files (told_of disc.tmf) k.of k.orderly u reply (before ++ added_units settled before disc.log) k.leads made made_is
        ∙ ap committed (sym is);
    commits =
        omega (arith, ap length added, length-append (added_units settled before disc.log) (made ∷ []), k.commits, ap (λ (t : Told). t.commits) is);
    sound = λ still. k.sound goes;
  }
