-- The text of the files with one more.
use Rattle.std.proofs.Common.{◌≡◌, ℕ, ◌+◌, ◌<◌, List, [], ◌∷◌, ◌++◌, length, get_or, ap, append_assoc, add-one, ◌∙◌}
use Rattle.std.specs.Prelude.{codes}
use Rattle.std.proofs.lemmas.List.{get_or_default}
use Rattle.pw_code.specs.declared.system.System.{System}
use Rattle.pw_event.specs.Line.{file_name, sentence}
use Rattle.pw_report_text.specs.Lines.{file_part, line, record_lines}
use Rattle.pw_report_text.specs.Listing.{files_to, records_in}

pub file-step : (system : System) (files : List (List (List ℕ))) (f : ℕ) (records : List (List ℕ)) (name : List ℕ) (first before named behind : List ℕ) → f < length files
    → records ≡ get_or files f records → name ≡ file_name system f → before ≡ first ++ files_to system (records_in files) f
    → named ≡ before ++ line (sentence (codes "FILE" ∷ name ∷ [])) → behind ≡ named ++ record_lines records
    → behind ≡ first ++ files_to system (records_in files) (f + 1)
file-step system files f records name first before named behind within item name_is so is_named is =
    rw add-one
    (is ∙ (ap (λ (text : List ℕ). text ++ record_lines records) is_named
    ∙ (append_assoc before (line (sentence (codes "FILE" ∷ name ∷ []))) (record_lines records)
    ∙ (ap (λ (text : List ℕ). text ++ (line (sentence (codes "FILE" ∷ name ∷ [])) ++ record_lines records)) so
    ∙ (append_assoc first (files_to system (records_in files) f) (line (sentence (codes "FILE" ∷ name ∷ [])) ++ record_lines records)
    ∙ (ap (λ (n : List ℕ). first ++ (files_to system (records_in files) f ++ (line (sentence (codes "FILE" ∷ n ∷ [])) ++ record_lines records))) name_is
    ∙ ap (λ (r : List (List ℕ)). first ++ (files_to system (records_in files) f ++ file_part system f r)) (item ∙ get_or_default files f records [] within)))))))
