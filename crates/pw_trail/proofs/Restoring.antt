-- Changes that are made for good, one after the other.
use Rattle.std.proofs.Common.{◌≡◌, ℕ, ◌+◌, ◌<◌, ◌∙◌, refl, ap, sym, subst, arith, true, List, [], ◌∷◌, ◌++◌, length, take, get_or, Option, Some, None}
use Rattle.std.specs.Prelude.{nat_le, slice_get, All}
use Rattle.std.specs.List.{AllByRecursion}
use Rattle.std.proofs.lemmas.Bool.{and_parts, false≢true, leb-true}
use Rattle.std.proofs.lemmas.List.{take_more}
use Rattle.std.proofs.lemmas.List.Elements.{All-get_or, recursion_from_All}
use Rattle.std.proofs.lemmas.Option.{slice_get-get_or, slice_get_within}
use Rattle.pw_base.specs.Limits.{most_content}
use Rattle.pw_code.specs.declared.file.FileInfo.{FileInfo}
use Rattle.pw_code.specs.declared.system.System.{System}
use Rattle.pw_code.specs.Valid.{IsDeckFile, IsValid}
use Rattle.pw_files.proofs.RecordLemmas.{IsFile-empty, IsFile-with_record, IsFile-without_key}
use Rattle.pw_files.specs.Records.{IsContent, IsFile, with_record}
use Rattle.pw_onecopy.proofs.Update.{upd_elim}
use Rattle.pw_tmf.specs.Starting.{all_put, key_of_file, records_of_file, told_at_start}
use Rattle.pw_tmf.specs.Told.{Told}
use Rattle.pw_trail.specs.Body.{fits, fits_file}
use Rattle.pw_trail.specs.Files.{changed_by, files_after, keys_of, deck_file_records, told_with, with_change, with_changes, with_units}
use Rattle.pw_trail.specs.Restoring.{HasFiles, IsRestored}
use Rattle.pw_trail.specs.declared.changes.Change.{Change}
use Rattle.pw_trail.specs.declared.changes.ChangeKind.{ChangeKind}
use Rattle.pw_trail.specs.declared.changes.ChangeKind.TheVariants.{Put, Remove}
use Rattle.pw_trail.specs.declared.changes.UnitChanges.{UnitChanges}

-- the file of a change that fits is there
pub fit-within : (files : List FileInfo) (f : ℕ) (kind : ChangeKind) (bytes : List ℕ) → fits_file (slice_get files f) kind bytes ≡ true → f < length files
fit-within files f kind bytes fit = by (slice_get files f) refl fit
  where
    by : (file : Option FileInfo) → slice_get files f ≡ file → fits_file file kind bytes ≡ true → f < length files
    by None is wrong = absurd (false≢true wrong)
    by (Some file) is fits = slice_get_within files f file is

-- a put that fits has a record of its file
pub fit-content : (file : Option FileInfo) (bytes : List ℕ) → fits_file file Put bytes ≡ true → IsContent (key_of_file file) bytes
fit-content None bytes wrong = absurd (false≢true wrong)
fit-content (Some file) bytes fits =
    let parts = and_parts (nat_le file.key (length bytes)) (nat_le (length bytes) most_content) fits in
    (leb-true file.key (length bytes) parts.0, leb-true (length bytes) most_content parts.1)

-- one change more
pub changes-more : (key_length : ℕ → ℕ) (before after : List Change) (files : ℕ → List (List ℕ))
    → with_changes key_length files (before ++ after) ≡ with_changes key_length (with_changes key_length files before) after
changes-more key_length [] after files = refl
changes-more key_length (change ∷ before) after files = changes-more key_length before after (with_change key_length files change)

-- one unit more
pub units-more : (key_length : ℕ → ℕ) (units : List UnitChanges) (unit : UnitChanges) (files : ℕ → List (List ℕ))
    → with_units key_length files (units ++ unit ∷ []) ≡ with_changes key_length (with_units key_length files units) unit.changes
units-more key_length [] unit files = refl
units-more key_length (first ∷ units) unit files = units-more key_length units unit (with_changes key_length files first.changes)

-- the files are the same where the records of some are others
pub files-stay : (files : List FileInfo) (told : Told) (others : ℕ → List (List ℕ)) → HasFiles files told → HasFiles files (record told { files = others })
files-stay files told others h = record { count = h.count; keys = h.keys }

-- a change that fits leaves files that are files
change-leaves : (files : List FileInfo) (now : ℕ → List (List ℕ)) (change : Change) → fits files change ≡ true → ((f : ℕ) → IsFile (keys_of files f) (now f))
    → (f : ℕ) → IsFile (keys_of files f) (with_change (keys_of files) now change f)
change-leaves files now change fit are f =
    let n : ℕ = keys_of files change.file in
    upd_elim now change.file (changed_by change.kind n (now change.file) change.bytes) f (λ (records : List (List ℕ)). IsFile (keys_of files f) records)
    (λ same. subst (λ g. IsFile (keys_of files g) (changed_by change.kind n (now change.file) change.bytes)) (sym same) (by change.kind fit))
    (λ other. are f)
  where
    by : (kind : ChangeKind) → fits_file (slice_get files change.file) kind change.bytes ≡ true
        → IsFile (keys_of files change.file) (changed_by kind (keys_of files change.file) (now change.file) change.bytes)
    by Put fit = IsFile-with_record (keys_of files change.file) (now change.file) (are change.file) change.bytes (fit-content (slice_get files change.file) change.bytes fit)
    by Remove fit = IsFile-without_key (keys_of files change.file) (now change.file) (are change.file) change.bytes

changes-leave : (files : List FileInfo) (now : ℕ → List (List ℕ)) (changes : List Change) → AllByRecursion (λ change. fits files change ≡ true) changes → ((f : ℕ) → IsFile (keys_of files f) (now f))
    → (f : ℕ) → IsFile (keys_of files f) (with_changes (keys_of files) now changes f)
changes-leave files now [] fit are = are
changes-leave files now (change ∷ changes) fit are = changes-leave files (with_change (keys_of files) now change) changes fit.1 (change-leaves files now change fit.0 are)

-- the records after one unit more
pub restored-more : (system : System) (units : List UnitChanges) (unit : UnitChanges) (old new : Told) → All (λ change. fits system.files change ≡ true) unit.changes
    → new ≡ record old { files = with_changes old.key_length old.files unit.changes } → IsRestored system units old → IsRestored system (units ++ unit ∷ []) new
restored-more system units unit old new fit made h = record {
  is = made
      ∙ ap (λ (t : Told). record t { files = with_changes t.key_length t.files unit.changes }) h.is
      ∙ ap (told_with system) (sym (units-more (keys_of system.files) units unit (deck_file_records system.files)));
  files = λ f. subst (λ (g : ℕ → List (List ℕ)). IsFile (keys_of system.files f) (g f)) (sym (units-more (keys_of system.files) units unit (deck_file_records system.files)))
      (changes-leave system.files (files_after system.files units) unit.changes (recursion_from_All (λ change. fits system.files change ≡ true) unit.changes fit) h.files f);
}

-- the records of a deck's file are a file
all-put : (n : ℕ) (records contents : List (List ℕ)) → IsFile n records → AllByRecursion (IsContent n) contents → IsFile n (all_put n records contents)
all-put n records [] file all = file
all-put n records (content ∷ contents) file all = all-put n (with_record n records content) contents (IsFile-with_record n records file content all.0) all.1

start-files : (system : System) → IsValid system → (f : ℕ) → IsFile (keys_of system.files f) (deck_file_records system.files f)
start-files system valid f = by (slice_get system.files f) refl
  where
    by : (file : Option FileInfo) → slice_get system.files f ≡ file → IsFile (key_of_file file) (records_of_file file)
    by None is = IsFile-empty 1 (omega arith, omega arith)
    by (Some file) is =
        let lt : f < length system.files = slice_get_within system.files f file is in
        let there : slice_get system.files f ≡ Some (get_or system.files f file) = slice_get-get_or system.files f file lt in
        let same : get_or system.files f file ≡ file = cc (there, is) in
        let deck : IsDeckFile file = subst IsDeckFile same (All-get_or IsDeckFile system.files f file lt valid.files) in
        all-put file.key [] file.records (IsFile-empty file.key deck.key) (recursion_from_All (IsContent file.key) file.records deck.contents)

-- the files are there at the start
pub files-at-start : (system : System) (told : Told) → told ≡ told_at_start system → HasFiles system.files told
files-at-start system told is = record {
  count = ap (λ (t : Told). t.file_count) is;
  keys = ap (λ (t : Told). t.key_length) is;
}

-- and no change is made yet
pub none-restored : (system : System) (told : Told) → IsValid system → told ≡ told_at_start system → IsRestored system [] told
none-restored system told valid is = record { is = is; files = start-files system valid }

-- one change more is made
pub one-more : (old now next : Told) (changes : List Change) (i : ℕ) (change : Change) → i < length changes → change ≡ get_or changes i change
    → now ≡ record old { files = with_changes old.key_length old.files (take i changes) }
    → next ≡ record now { files = with_change now.key_length now.files change }
    → next ≡ record old { files = with_changes old.key_length old.files (take (i + 1) changes) }
one-more old now next changes i change lt here so_far made =
    let more : take (i + 1) changes ≡ take i changes ++ change ∷ [] = take_more changes i change lt ∙ ap (λ (c : Change). take i changes ++ c ∷ []) (sym here) in
    made
    ∙ ap (λ (t : Told). record t { files = with_change t.key_length t.files change }) so_far
    ∙ ap (λ (g : ℕ → List (List ℕ)). record old { files = g }) (sym (ap (with_changes old.key_length old.files) more ∙ changes-more old.key_length (take i changes) (change ∷ []) old.files))
