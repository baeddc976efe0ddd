-- What a trail of files that are alike tells is what the system with its records begins with.
use Rattle.std.proofs.Common.{◌≡◌, ◌∙◌, ℕ, List, [], ◌∷◌, Option, Some, None, Ok, refl, sym, subst, arith, slice_get, fold}
use Rattle.pw_code.specs.declared.file.FileInfo.{FileInfo}
use Rattle.pw_code.specs.declared.system.System.{System}
use Rattle.pw_files.specs.Records.{IsFile, with_record}
use Rattle.pw_records.proofs.Fitting.{none-behind}
use Rattle.pw_records.proofs.Places.{alike-with, as-many, keys-same}
use Rattle.pw_records.proofs.Served.{records-are}
use Rattle.pw_records.specs.Records.{AreAlike, AreRecordsOf, files_with, with_records}
use Rattle.pw_tmf.specs.Starting.{all_put, key_of_file, records_of_file, told_at_start}
use Rattle.pw_trail.specs.Files.{files_after, keys_of, told_with}
use Rattle.pw_trail.specs.Format.{units_in}
use Rattle.pw_trail.specs.declared.changes.UnitChanges.{UnitChanges}
use Rattle.pw_tree_meaning.specs.OfDeck.{records_by}
use Rattle.pw_tree_meaning.specs.Program.{key_length_by}

key-is : (file : Option FileInfo) → key_of_file file ≡ key_length_by file
key-is None = refl
key-is (Some file) = refl

put-all : (n : ℕ) (records contents : List (List ℕ)) → all_put n records contents ≡ fold (with_record n) records contents
put-all n records [] = refl
put-all n records (content ∷ contents) = put-all n (with_record n records content) contents

put-by : (file : Option FileInfo) → records_of_file file ≡ records_by file
put-by None = refl
put-by (Some file) = put-all file.key [] file.records

module _ (files : List FileInfo) (system : System) (alike : AreAlike files system.files) where
  -- what a trail of these files leads to
  pub found-records : (bytes : List ℕ) (units : List UnitChanges) → units_in files bytes ≡ Ok units
      → ((f : ℕ) → IsFile (keys_of files f) (files_after files units f)) → AreRecordsOf system (files_after files units)
  found-records bytes units is are = record {
    files = λ f.
        subst (λ (n : ℕ). IsFile n (files_after files units f)) (key-is (slice_get files f) ∙ keys-same files system.files alike f) (are f);
    none = λ f past. none-behind files bytes units is f (omega (arith, as-many files system.files alike, past));
  }

  pub told-same : (records : ℕ → List (List ℕ)) → AreRecordsOf system records
      → told_with (record system { files = files }) records ≡ told_at_start (with_records system records)
  told-same records are i =
      let own : List FileInfo = files_with system.files records in
      let kept : AreAlike own system.files = alike-with system.files records in
      record (told_at_start system) {
        file_count = (as-many files system.files alike ∙ sym (as-many own system.files kept)) i;
        key_length = λ f.
            ((key-is (slice_get files f) ∙ keys-same files system.files alike f)
            ∙ sym (key-is (slice_get own f) ∙ keys-same own system.files kept f)) i;
        files = λ f. (sym (records-are system records are f) ∙ sym (put-by (slice_get own f))) i;
      }
