-- What a commit writes leads from the committed records before it to those behind it.
use Rattle.std.proofs.Common.{◌≡◌, ℕ, ◌<◌, ◌∙◌, refl, sym, ap, subst, subst₂, Bool, true, false, not, ◌&&◌, ◌||◌, ◌==◌, cond, List, [], ◌∷◌, ◌++◌, length, map, filter, Option, Some, None, Result, Ok, Err}
use Rattle.std.specs.Prelude.{nat_le, reverse, slice_get, All}
use Rattle.std.specs.List.{AllByRecursion, list_any}
use Rattle.std.specs.Str.{bytes_eq}
use Rattle.std.proofs.Math.Path.{fun_ext}
use Rattle.std.proofs.lemmas.Bool.{and_from, eq-eqb, eqb-true, false_from_ne_true, false≢true, le-leb}
use Rattle.std.proofs.lemmas.List.Elements.{All-cons, All-contains, All-map, All-nil}
use Rattle.std.proofs.lemmas.Option.{slice_get-get_or}
use Rattle.std.proofs.lemmas.Slice.Eq.{bytes_eq-Decides}
use Rattle.pw_base.proofs.Plain.{and-first, and-second}
use Rattle.pw_base.specs.Limits.{most_content}
use Rattle.pw_code.specs.declared.file.FileInfo.{FileInfo}
use Rattle.pw_code.specs.declared.unit.Unit as unit
use Rattle.pw_files.proofs.Lookups.{record_at-found}
use Rattle.pw_files.specs.Records.{IsContent, IsFile, record_at}
use Rattle.pw_laws.proofs.records.Images.{ImageOk, dropped, is_at, kept, restored-at, restored-file, stands_at}
use Rattle.pw_laws.proofs.records.Withdrawn.{any-image}
use Rattle.pw_laws.proofs.seeing.SameFiles.{same_files}
use Rattle.pw_onecopy.specs.Update.{upd}
use Rattle.pw_paired.specs.State.{BeforeImage}
use Rattle.pw_paired.specs.Units.{committed_files, only, put_back, restored_files}
use Rattle.pw_laws.proofs.Tests.{all-filter, any-filter}
use Rattle.pw_tmf.specs.Committed.{committed, images_of}
use Rattle.pw_tmf.specs.Restored.{changed_in, changes_of}
use Rattle.pw_tmf.specs.Starting.{key_of_file}
use Rattle.pw_tmf.specs.Tells.{images_by}
use Rattle.pw_tmf.specs.Told.{Told}
use Rattle.pw_tmf.specs.Units.{after_commit}
use Rattle.pw_tmf.proofs.Reversed.{All-reverse, list_any-reverse}
use Rattle.pw_tmf.proofs.Together.{images-told}
use Rattle.pw_trail.specs.Body.{fits}
use Rattle.pw_trail.specs.Committing.{LeadsTo, change_of, change_to, record_of}
use Rattle.pw_trail.specs.Files.{files_after, files_read, keys_of, deck_file_records, with_change, with_changes}
use Rattle.pw_trail.specs.Format.{units_in, with_last}
use Rattle.pw_trail.specs.Orderly.{IsOrderly, IsImagePlaced}
use Rattle.pw_trail.specs.Restoring.{HasFiles}
use Rattle.pw_trail.specs.declared.changes.Change.{Change}
use Rattle.pw_trail.specs.declared.changes.UnitChanges.{UnitChanges}
use Rattle.pw_trail.proofs.Orderly.{committed-are, committed-file, ended-committed, records-ok}
use Rattle.pw_trail.proofs.Restoring.{units-more}

-- what is at the key of an image in these files, as an image
abbrev redo : (ℕ → ℕ) → (ℕ → List (List ℕ)) → BeforeImage → BeforeImage
redo k files image = record image { content = record_at (k image.file) (files image.file) image.key }

abbrev redone : (ℕ → ℕ) → (ℕ → List (List ℕ)) → List BeforeImage → List BeforeImage
redone k files images = map (redo k files) images

-- the changes that lead there
abbrev changes-to : (ℕ → ℕ) → (ℕ → List (List ℕ)) → List BeforeImage → List Change
changes-to k files images = map change_to (map (changed_in k files) images)

-- to make them is to put those images back
one-made : (k : ℕ → ℕ) (files : ℕ → List (List ℕ)) (file : ℕ) (key : List ℕ) (content : Option (List ℕ))
    → with_change k files (change_of file key content) ≡ upd files file (put_back (k file) (files file) key content)
one-made k files file key None = refl
one-made k files file key (Some c) = refl

all-made : (k : ℕ → ℕ) (now : ℕ → List (List ℕ)) (images : List BeforeImage) (files : ℕ → List (List ℕ))
    → with_changes k files (changes-to k now images) ≡ restored_files k (redone k now images) files
all-made k now [] files = refl
all-made k now (image ∷ images) files =
    let content : Option (List ℕ) = record_at (k image.file) (now image.file) image.key in
    ap (λ (g : ℕ → List (List ℕ)). with_changes k g (changes-to k now images)) (one-made k files image.file image.key content)
    ∙ all-made k now images (upd files image.file (put_back (k image.file) (files image.file) image.key content))

-- an image of a key has its file and its key
at-key : (f : ℕ) (key : List ℕ) (image : BeforeImage) → is_at f key image ≡ true → (image.file ≡ f) × (image.key ≡ key)
at-key f key image is = (
  eqb-true image.file f (and-first (image.file == f) (bytes_eq image.key key) is),
  (bytes_eq-Decides image.key key).0 (and-second (image.file == f) (bytes_eq image.key key) is),
)

-- what stands at a key behind them: what is there now, where one is of the key
redone-at : (k : ℕ → ℕ) (now : ℕ → List (List ℕ)) (images : List BeforeImage) (f : ℕ) (key : List ℕ) (before : Option (List ℕ))
    → stands_at (redone k now images) f key before ≡ cond (list_any (is_at f key) images) (record_at (k f) (now f) key) before
redone-at k now [] f key before = refl
redone-at k now (image ∷ images) f key before =
    let here : Option (List ℕ) = record_at (k image.file) (now image.file) image.key in
    redone-at k now images f key (cond (is_at f key image) here before)
    ∙ elim (is_at f key image) as (λ b. is_at f key image ≡ b
    → cond (list_any (is_at f key) images) (record_at (k f) (now f) key) (cond b here before) ≡ cond (b || list_any (is_at f key) images) (record_at (k f) (now f) key) before) [
      | true ↦ λ is.
          let parts = at-key f key image is in
          let same : here ≡ record_at (k f) (now f) key = subst₂ (λ (g : ℕ) (l : List ℕ). here ≡ record_at (k g) (now g) l) parts.0 parts.1 refl in
          either (list_any (is_at f key) images) (record_at (k f) (now f) key) here same
      | false ↦ λ is. refl
    ] refl
  where
    either : (b : Bool) (x y : Option (List ℕ)) → y ≡ x → cond b x y ≡ x
    either true x y same = refl
    either false x y same = same

module _ (told : Told) (o : IsOrderly told) (t : ℕ) where
  abbrev k : ℕ → ℕ
  k = o.sys.key_length

  abbrev now : ℕ → List (List ℕ)
  now = o.state.files

  abbrev before : List BeforeImage
  before = o.state.before

  abbrev own : BeforeImage → Bool
  own image = only t image.terminal

  abbrev others : List BeforeImage
  others = filter (λ image. not (own image)) before

  abbrev mine : List BeforeImage
  mine = reverse (images_by t before)

  redo-ok : (image : BeforeImage) → ImageOk o.sys (redo k now image)
  redo-ok image = record {
    content = λ c is. All-contains (IsContent (k image.file)) (now image.file) c (o.files image.file).contents (record_at-found (k image.file) (now image.file) image.key c is).0;
    key = λ c is. (record_at-found (k image.file) (now image.file) image.key c is).1;
  }

  redone-ok : (images : List BeforeImage) → AllByRecursion (ImageOk o.sys) (redone k now images)
  redone-ok [] = tt
  redone-ok (image ∷ images) = (redo-ok image, redone-ok images)

  others-ok : AllByRecursion (ImageOk o.sys) others
  others-ok = all-filter (ImageOk o.sys) (λ image. not (own image)) before (records-ok o.sys before o.records)

  -- whether the unit has changed the key
  abbrev mine-at : ℕ → List ℕ → Bool
  mine-at f key = list_any (λ image. is_at f key image && own image) before

  and-turned : (a b : Bool) → (a && b) ≡ (b && a)
  and-turned true true = refl
  and-turned true false = refl
  and-turned false true = refl
  and-turned false false = refl

  any-turned : (p q : BeforeImage → Bool) (xs : List BeforeImage) → list_any (λ x. p x && q x) xs ≡ list_any (λ x. q x && p x) xs
  any-turned p q xs = ap (λ (r : BeforeImage → Bool). list_any r xs) (fun_ext (λ x. and-turned (p x) (q x)))

  mine-is : (f : ℕ) (key : List ℕ) → list_any (is_at f key) mine ≡ mine-at f key
  mine-is f key =
      list_any-reverse (is_at f key) (images_by t before)
      ∙ any-filter (is_at f key) own before
      ∙ any-turned own (is_at f key) before

  -- no key has images of the unit and of others
  alone : (f : ℕ) (key : List ℕ) → mine-at f key ≡ true → list_any (λ image. is_at f key image && not (own image)) before ≡ false
  alone f key there =
      false_from_ne_true (list_any (λ image. is_at f key image && not (own image)) before)
      (λ others_there.
      let one = any-image (only t) f key before there in
      let other = any-image (λ s. not (only t s)) f key before others_there in
      let same : one.0 ≡ other.0 = o.single one.0 other.0 f key one.2 other.2 in
      false≢true (sym (ap not (sym (ap (only t) same) ∙ one.1)) ∙ other.1))

  -- where the unit has changed the key, what is there now stands behind it; else what stood there before
  at-each : (f : ℕ) (key : List ℕ) (b : Bool) → mine-at f key ≡ b
      → cond b (record_at (k f) (now f) key) (stands_at before f key (record_at (k f) (now f) key)) ≡ stands_at others f key (record_at (k f) (now f) key)
  at-each f key true is = sym (dropped (λ image. not (own image)) f key before (alone f key is) (record_at (k f) (now f) key))
  at-each f key false is =
      kept (λ image. not (own image)) f key before
      (ap (λ (r : BeforeImage → Bool). list_any r before) (fun_ext (λ image. ap (λ b. is_at f key image && b) (twice (own image)))) ∙ is)
      (record_at (k f) (now f) key)
    where
      twice : (b : Bool) → not (not b) ≡ b
      twice true = refl
      twice false = refl

  made-at : (f : ℕ) (key : List ℕ)
      → record_at (k f) (restored_files k (redone k now mine) (committed_files o.sys o.state) f) key ≡ record_at (k f) (restored_files k others now f) key
  made-at f key =
      restored-at o.sys (redone k now mine) (redone-ok mine) (committed_files o.sys o.state) f key
      ∙ ap (stands_at (redone k now mine) f key) (restored-at o.sys before (records-ok o.sys before o.records) now f key)
      ∙ redone-at k now mine f key (stands_at before f key (record_at (k f) (now f) key))
      ∙ ap (λ b. cond b (record_at (k f) (now f) key) (stands_at before f key (record_at (k f) (now f) key))) (mine-is f key)
      ∙ at-each f key (mine-at f key) refl
      ∙ sym (restored-at o.sys others others-ok now f key)

  made-all : restored_files k (redone k now mine) (committed_files o.sys o.state) ≡ restored_files k others now
  made-all = fun_ext (λ f.
      same_files (k f) (restored_files k (redone k now mine) (committed_files o.sys o.state) f) (restored_files k others now f)
      (restored-file o.sys (redone k now mine) (redone-ok mine) (committed_files o.sys o.state) (committed-file told o) f)
      (restored-file o.sys others others-ok now o.files f)
      (made-at f))

  -- the changes are those of the state
  changes-are : map change_to (changes_of told t) ≡ changes-to k now mine
  changes-are =
      ap (λ images. changes-to told.key_length told.files (reverse images)) (images-told o.sys o.state told o.tells t)
      ∙ ap (λ (l : ℕ → ℕ). changes-to l told.files mine) o.tells.keys
      ∙ ap (λ (g : ℕ → List (List ℕ)). changes-to k g mine) o.tells.files

  -- a unit of the terminal commits: its changes lead to the committed records behind it
  pub leads-on : (u : unit.Unit) (reply : Option (List ℕ)) → u.terminal ≡ t → with_changes told.key_length (committed told) (map change_to (changes_of told t)) ≡ committed (after_commit told u reply)
  leads-on u reply is =
      ap (λ (cs : List Change). with_changes told.key_length (committed told) cs) changes-are
      ∙ ap (λ (l : ℕ → ℕ). with_changes l (committed told) (changes-to k now mine)) o.tells.keys
      ∙ ap (λ (g : ℕ → List (List ℕ)). with_changes k g (changes-to k now mine)) (committed-are told o)
      ∙ all-made k now mine (committed_files o.sys o.state)
      ∙ made-all
      ∙ ap (λ s. restored_files k (filter (λ image. not (only s image.terminal)) before) now) (sym is)
      ∙ ended-committed told o u reply

-- one unit more was recorded
read-more : (files : List FileInfo) (read : Result (List UnitChanges) ℕ) (own : UnitChanges) (before after : ℕ → List (List ℕ)) → files_read files read ≡ Ok before
    → with_changes (keys_of files) before own.changes ≡ after → files_read files (with_last read own) ≡ Ok after
read-more files (Err place) own before after is made = absurd (cc is)
read-more files (Ok units) own before after is made =
    let so_far : files_after files units ≡ before = cc is in
    ap Ok (units-more (keys_of files) units own (deck_file_records files) ∙ ap (λ (g : ℕ → List (List ℕ)). with_changes (keys_of files) g own.changes) so_far ∙ made)

module _ (files : List FileInfo) (told : Told) (of : HasFiles files told) (o : IsOrderly told) (u : unit.Unit) (reply : Option (List ℕ)) (bytes : List ℕ) (leads : LeadsTo files told bytes) where
  -- with the record of the unit
  pub with-record : (image : List ℕ) → units_in files image ≡ with_last (units_in files bytes) (record_of told u) → LeadsTo files (after_commit told u reply) image
  with-record image is =
      ap (files_read files) is
      ∙ read-more files (units_in files bytes) (record_of told u) (committed told) (committed (after_commit told u reply)) leads
      (ap (λ (l : ℕ → ℕ). with_changes l (committed told) (record_of told u).changes) (sym of.keys) ∙ leads-on told o u.terminal u reply refl)

-- the same of the units of a trail
pub units-with-record : (files : List FileInfo) (told : Told) → HasFiles files told → IsOrderly told → (u : unit.Unit) (reply : Option (List ℕ)) (units : List UnitChanges)
    → files_after files units ≡ committed told → files_after files (units ++ record_of told u ∷ []) ≡ committed (after_commit told u reply)
units-with-record files told of o u reply units is =
    units-more (keys_of files) units (record_of told u) (deck_file_records files)
    ∙ ap (λ (g : ℕ → List (List ℕ)). with_changes (keys_of files) g (record_of told u).changes) is
    ∙ (ap (λ (l : ℕ → ℕ). with_changes l (committed told) (record_of told u).changes) (sym of.keys) ∙ leads-on told o u.terminal u reply refl)

-- ---- each change is of one of the files

module _ (files : List FileInfo) (told : Told) (of : HasFiles files told) (o : IsOrderly told) where
  no_file : FileInfo
  no_file = record { name = []; key = 0; records = [] }

  change-fits : (image : BeforeImage) → IsImagePlaced told.terminals told.file_count o.sys.key_length image → (info : Option FileInfo) → slice_get files image.file ≡ info
      → (content : Option (List ℕ)) → record_at (told.key_length image.file) (told.files image.file) image.key ≡ content
      → fits files (change_of image.file image.key content) ≡ true
  change-fits image place None none content is =
      let there = slice_get-get_or files image.file no_file (subst (λ n. image.file < n) of.count place.file) in
      absurd (cc (there, none))
  change-fits image place (Some info) there None is =
      rw there (eq-eqb (length image.key) info.key (place.key ∙ sym (ap (λ (l : ℕ → ℕ). l image.file) o.tells.keys) ∙ ap (λ (l : ℕ → ℕ). l image.file) of.keys ∙ ap key_of_file there))
  change-fits image place (Some info) there (Some c) is =
      let key_is : told.key_length image.file ≡ info.key = ap (λ (l : ℕ → ℕ). l image.file) of.keys ∙ ap key_of_file there in
      let file : IsFile (told.key_length image.file) (told.files image.file) = rw (o.tells.keys, o.tells.files) (o.files image.file) in
      let content : IsContent (told.key_length image.file) c =
      All-contains (IsContent (told.key_length image.file)) (told.files image.file) c file.contents (record_at-found (told.key_length image.file) (told.files image.file) image.key c is).0 in
      let fit : IsContent info.key c = subst (λ n. IsContent n c) key_is content in
      rw there (and_from (nat_le info.key (length c)) (nat_le (length c) most_content) (le-leb info.key (length c) fit.0) (le-leb (length c) most_content fit.1))

  abbrev image-fits : BeforeImage → Type 0
  image-fits image = fits files (change_to (changed_in told.key_length told.files image)) ≡ true

  all-fit : (images : List BeforeImage) → AllByRecursion (IsImagePlaced told.terminals told.file_count o.sys.key_length) images → All image-fits images
  all-fit [] all = All-nil image-fits
  all-fit (image ∷ images) all =
      All-cons image-fits image images (change-fits image all.0 (slice_get files image.file) refl (record_at (told.key_length image.file) (told.files image.file) image.key) refl) (all-fit images all.1)

  -- what a unit has changed can be recorded
  pub changes-fit : (t : ℕ) → All (λ change. fits files change ≡ true) (map change_to (changes_of told t))
  changes-fit t =
      let images : List BeforeImage = images_of (told.units t) in
      let theirs : All image-fits images = subst (All image-fits) (sym (images-told o.sys o.state told o.tells t))
      (all-fit (images_by t o.state.before) (all-filter (IsImagePlaced told.terminals told.file_count o.sys.key_length) (λ image. only t image.terminal) o.state.before o.places)) in
      All-map (λ change. fits files change ≡ true) change_to (changes_of told t)
      (All-map (λ changed. fits files (change_to changed) ≡ true) (changed_in told.key_length told.files) (reverse images) (All-reverse image-fits images theirs))
