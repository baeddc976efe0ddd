-- The records that are found again.
use Rattle.std.proofs.Common.{◌≡◌, ℕ, ◌<◌, List, ◌++◌, length, sym, ◌∙◌, ap, subst}
use Rattle.std.specs.Prelude.{Result, Ok, Err, codes}
use Rattle.pw_code.specs.declared.file.FileInfo.{FileInfo}
use Rattle.pw_code.specs.declared.system.System.{System}
use Rattle.pw_report_text.proofs.Printed.{files-same}
use Rattle.pw_report_text.specs.Lines.{line}
use Rattle.pw_report_text.specs.Listing.{files_part, records_in}
use Rattle.pw_tmf.specs.Committed.{committed}
use Rattle.pw_tmf.specs.Told.{Told}
use Rattle.pw_trail.specs.Committing.{LeadsTo}
use Rattle.pw_trail.specs.Files.{files_read}
use Rattle.pw_trail.specs.Format.{units_in}

-- what leads to records can be read
pub whole : (files own : List FileInfo) (bytes : List ℕ) (told : Told) → own ≡ files → LeadsTo own told bytes
    → (at : ℕ) → units_in files bytes ≡ Err at → ⊥
whole files own bytes told same leads at bad =
    let read : files_read files (units_in files bytes) ≡ Ok (committed told) =
    subst (λ (fs : List FileInfo). LeadsTo fs told bytes) same leads in
    let none : files_read files (Err at) ≡ Ok (committed told) = ap (files_read files) (sym bad) ∙ read in
    cc

-- two discs to which bytes with the same units lead
pub found-same : (files own other : List FileInfo) (bytes again : List ℕ) (told next : Told) → own ≡ files → other ≡ files
    → units_in other again ≡ units_in files bytes → LeadsTo own told bytes → LeadsTo other next again
    → committed next ≡ committed told
found-same files own other bytes again told next same same_too units leads leads_too =
    let first : files_read files (units_in files bytes) ≡ Ok (committed told) =
    subst (λ (fs : List FileInfo). LeadsTo fs told bytes) same leads in
    let second : files_read files (units_in files bytes) ≡ Ok (committed next) =
    ap (files_read files) (sym units)
    ∙ (ap (λ (fs : List FileInfo). files_read fs (units_in other again)) (sym same_too) ∙ leads_too) in
    let joined : ◌≡◌ {A = Result (ℕ → List (List ℕ)) ℕ} (Ok (committed told)) (Ok (committed next)) = sym first ∙ second in
    cc

-- the FILES of lists that have the records of each file
pub part-same : (system : System) (files : List (List (List ℕ))) (records : ℕ → List (List ℕ))
    → ((f : ℕ) → f < length system.files → records_in files f ≡ records f) → files_part system (records_in files) ≡ files_part system records
part-same system files records same =
    ap (λ (text : List ℕ). line (codes "FILES") ++ text) (files-same system (records_in files) records (length system.files) same)
