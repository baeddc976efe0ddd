-- Before-images: what stands at a key where some of them are put back.
use Rattle.std.proofs.Common.{◌≡◌, ◌≢◌, ℕ, ◌⊎◌, inl, inr, ⊎_elim, Bool, true, false, not, ◌&&◌, ◌||◌, ◌==◌, cond, List, [], ◌∷◌, take, filter, Option, Some, if◌then◌else◌, refl, ap, sym, subst, subst₂, ap₂, ◌∙◌}
use Rattle.std.specs.List.{list_any, AllByRecursion}
use Rattle.std.specs.Str.{bytes_eq}
use Rattle.std.proofs.lemmas.Slice.Eq.{bytes_eq-Decides}
use Rattle.std.proofs.lemmas.Bool.{cases_eq, cases_Bool, true≢false, false≢true, eq-eqb, eqb-true, cond-false, and_from, or_parts}
use Rattle.pw_base.proofs.Plain.{bytes_eq-same}
use Rattle.pw_files.specs.Records.{IsContent, IsFile, record_at}
use Rattle.pw_laws.proofs.seeing.Seeing.{put_back-there, put_back-others, put_back_is_file}
use Rattle.pw_onecopy.proofs.Update.{upd_elim, upd-same, upd-other}
use Rattle.pw_onecopy.specs.Behaviour.{Behaviour}
use Rattle.pw_onecopy.specs.Update.{upd}
use Rattle.pw_paired.specs.State.{BeforeImage}
use Rattle.pw_paired.specs.Units.{put_back, restored_files}

-- the image is of this key of this file
abbrev pub is_at : ℕ → List ℕ → BeforeImage → Bool
is_at file key image = image.file == file && bytes_eq image.key key

-- what stands at a key where these images are put back
abbrev pub stands_at : List BeforeImage → ℕ → List ℕ → Option (List ℕ) → Option (List ℕ)
stands_at [] file key now = now
stands_at (image ∷ images) file key now = stands_at images file key (if is_at file key image then image.content else now)

-- an image has a content of its key
pub record ImageOk (sys : Behaviour) (image : BeforeImage) : Type 0 where
  pub content : (c : List ℕ) → image.content ≡ Some c → IsContent (sys.key_length image.file) c
  pub key : (c : List ℕ) → image.content ≡ Some c → take (sys.key_length image.file) c ≡ image.key

-- two texts are one, or not
pub cases_bytes : (a b : List ℕ) → ((a ≡ b) × (bytes_eq a b ≡ true)) ⊎ ((a ≢ b) × (bytes_eq a b ≡ false))
cases_bytes a b =
    let decides = bytes_eq-Decides a b in
    ⊎_elim (λ is. inl (decides.0 is, is)) (λ is. inr (λ same. true≢false (sym (decides.1 same) ∙ is), is)) (cases_Bool (bytes_eq a b))

-- an image of a key, and one of another
is_at-own : (file : ℕ) (key : List ℕ) (image : BeforeImage) → image.file ≡ file → image.key ≡ key → is_at file key image ≡ true
is_at-own file key image same same_key =
    and_from (image.file == file) (bytes_eq image.key key) (eq-eqb image.file file same) (subst (λ (k : List ℕ). bytes_eq image.key k ≡ true) same_key (bytes_eq-same image.key))

is_at-parts : (file : ℕ) (key : List ℕ) (image : BeforeImage) → is_at file key image ≡ true → (image.file ≡ file) × (image.key ≡ key)
is_at-parts file key image is =
    let first : (image.file == file) ≡ true = and-first (image.file == file) (bytes_eq image.key key) is in
    let second : bytes_eq image.key key ≡ true = and-second (image.file == file) (bytes_eq image.key key) is in
    (eqb-true image.file file first, ⊎_elim (λ same. same.0) (λ differ. absurd (true≢false (sym second ∙ differ.1))) (cases_bytes image.key key))
  where
    and-first : (a b : Bool) → (a && b) ≡ true → a ≡ true
    and-first true b e = refl
    and-first false b e = e

    and-second : (a b : Bool) → (a && b) ≡ true → b ≡ true
    and-second true b e = e
    and-second false b e = absurd (false≢true e)

-- what restoring gives at each key
module _ (sys : Behaviour) where
  one-restored : (image : BeforeImage) → ImageOk sys image → (files : ℕ → List (List ℕ)) (file : ℕ) (key : List ℕ)
      → record_at (sys.key_length file) (upd files image.file (put_back (sys.key_length image.file) (files image.file) image.key image.content) file) key
      ≡ (if is_at file key image then image.content else record_at (sys.key_length file) (files file) key)
  one-restored image ok files file key = by_test (is_at file key image) refl
    where
      new : List (List ℕ)
      new = put_back (sys.key_length image.file) (files image.file) image.key image.content

      by_test : (b : Bool) → is_at file key image ≡ b
          → record_at (sys.key_length file) (upd files image.file new file) key ≡ (if b then image.content else record_at (sys.key_length file) (files file) key)
      by_test true is =
          let parts = is_at-parts file key image is in
          subst₂ (λ (f : ℕ) (k : List ℕ). record_at (sys.key_length f) (upd files image.file new f) k ≡ image.content) parts.0 parts.1
          (ap (λ (r : List (List ℕ)). record_at (sys.key_length image.file) r image.key) (upd-same files image.file new image.file refl)
          ∙ put_back-there (sys.key_length image.file) (files image.file) image.key image.content ok.key)
      by_test false is =
          ⊎_elim
          (λ same.
          let other : key ≢ image.key = λ same_key. absurd (true≢false (sym (is_at-own file key image (sym same) (sym same_key)) ∙ is)) in
          ap (λ (r : List (List ℕ)). record_at (sys.key_length file) r key) (upd-same files image.file new file same)
          ∙ subst (λ (f : ℕ). record_at (sys.key_length f) new key ≡ record_at (sys.key_length f) (files f) key) (sym same)
          (put_back-others (sys.key_length image.file) (files image.file) image.key image.content ok.key key other))
          (λ differ. ap (λ (r : List (List ℕ)). record_at (sys.key_length file) r key) (upd-other files image.file new file differ))
          (cases_eq file image.file)

  -- what is at a key when images are put back
  pub restored-at : (images : List BeforeImage) → AllByRecursion (ImageOk sys) images → (files : ℕ → List (List ℕ)) (file : ℕ) (key : List ℕ)
      → record_at (sys.key_length file) (restored_files sys.key_length images files file) key ≡ stands_at images file key (record_at (sys.key_length file) (files file) key)
  restored-at [] ok files file key = refl
  restored-at (image ∷ images) ok files file key =
      restored-at images ok.1 (upd files image.file (put_back (sys.key_length image.file) (files image.file) image.key image.content)) file key
      ∙ ap (λ (now : Option (List ℕ)). stands_at images file key now) (one-restored image ok.0 files file key)

  -- files with images put back are files
  pub restored-file : (images : List BeforeImage) → AllByRecursion (ImageOk sys) images → (files : ℕ → List (List ℕ))
      → ((f : ℕ) → IsFile (sys.key_length f) (files f)) → (f : ℕ) → IsFile (sys.key_length f) (restored_files sys.key_length images files f)
  restored-file [] ok files are_files = are_files
  restored-file (image ∷ images) ok files are_files =
      restored-file images ok.1 (upd files image.file (put_back (sys.key_length image.file) (files image.file) image.key image.content))
      (λ f. upd_elim files image.file (put_back (sys.key_length image.file) (files image.file) image.key image.content) f (λ (r : List (List ℕ)). IsFile (sys.key_length f) r)
      (λ same. subst (λ (g : ℕ). IsFile (sys.key_length g) (put_back (sys.key_length image.file) (files image.file) image.key image.content)) (sym same) (put_back_is_file (sys.key_length image.file) (files image.file) image.key (are_files image.file) image.content ok.0.content))
      (λ _. are_files f))

-- where an image is of the key, what stands there now does not matter
there-by : (image : BeforeImage) (images : List BeforeImage) (file : ℕ) (key : List ℕ) (now other : Option (List ℕ)) (b : Bool)
    → (list_any (is_at file key) images ≡ true → stands_at images file key now ≡ stands_at images file key other)
    → (b || list_any (is_at file key) images) ≡ true
    → stands_at images file key (if b then image.content else now) ≡ stands_at images file key (if b then image.content else other)
there-by image images file key now other true rest there = refl
there-by image images file key now other false rest there = rest there

-- what stands at a key that has an image is the image's
pub stands_at-there : (images : List BeforeImage) (file : ℕ) (key : List ℕ) (now other : Option (List ℕ)) → list_any (is_at file key) images ≡ true
    → stands_at images file key now ≡ stands_at images file key other
stands_at-there [] file key now other there = absurd (false≢true there)
stands_at-there (image ∷ images) file key now other there =
    there-by image images file key now other (is_at file key image) (stands_at-there images file key now other) there

-- where none is, it stays
pub stands_at-none : (images : List BeforeImage) (file : ℕ) (key : List ℕ) (now : Option (List ℕ)) → list_any (is_at file key) images ≡ false
    → stands_at images file key now ≡ now
stands_at-none [] file key now none = refl
stands_at-none (image ∷ images) file key now none =
    let parts = or_parts (is_at file key image) (list_any (is_at file key) images) none in
    ap (λ (x : Option (List ℕ)). stands_at images file key x) (cond-false (is_at file key image) image.content now parts.0) ∙ stands_at-none images file key now parts.1

-- of images that are split by a test
module _ (own : BeforeImage → Bool) (file : ℕ) (key : List ℕ) where
  -- one that passes the test is of the key
  abbrev pub passes_at : List BeforeImage → Bool
  passes_at images = list_any (λ image. is_at file key image && own image) images

  -- where every image of the key passes, the others do not matter
  keep-step : (image : BeforeImage) (images : List BeforeImage) (now : Option (List ℕ)) (b : Bool) → (is_at file key image && not b) ≡ false
      → ((x : Option (List ℕ)) → stands_at images file key x ≡ stands_at (filter own images) file key x)
      → stands_at (image ∷ images) file key now ≡ stands_at (cond b (image ∷ filter own images) (filter own images)) file key now
  keep-step image images now true none rest = rest (if is_at file key image then image.content else now)
  keep-step image images now false none rest =
      ap (λ (x : Option (List ℕ)). stands_at images file key x) (cond-false (is_at file key image) image.content now (and-true (is_at file key image) none)) ∙ rest now
    where
      and-true : (a : Bool) → (a && true) ≡ false → a ≡ false
      and-true true e = e
      and-true false e = refl

  -- where no image of the key passes, those that pass do not matter
  drop-step : (image : BeforeImage) (images : List BeforeImage) (now : Option (List ℕ)) (b : Bool) → (is_at file key image && b) ≡ false
      → ((x : Option (List ℕ)) → stands_at (filter own images) file key x ≡ x)
      → stands_at (cond b (image ∷ filter own images) (filter own images)) file key now ≡ now
  drop-step image images now true none rest =
      ap (λ (x : Option (List ℕ)). stands_at (filter own images) file key x) (cond-false (is_at file key image) image.content now (and-true (is_at file key image) none)) ∙ rest now
    where
      and-true : (a : Bool) → (a && true) ≡ false → a ≡ false
      and-true true e = e
      and-true false e = refl
  drop-step image images now false none rest = rest now

  -- an image that is kept
  pub kept : (images : List BeforeImage) → list_any (λ image. is_at file key image && not (own image)) images ≡ false → (now : Option (List ℕ))
      → stands_at images file key now ≡ stands_at (filter own images) file key now
  kept [] none now = refl
  kept (image ∷ images) none now =
      let parts = or_parts (is_at file key image && not (own image)) (list_any (λ i. is_at file key i && not (own i)) images) none in
      keep-step image images now (own image) parts.0 (kept images parts.1)

  -- an image that goes
  pub dropped : (images : List BeforeImage) → passes_at images ≡ false → (now : Option (List ℕ)) → stands_at (filter own images) file key now ≡ now
  dropped [] none now = refl
  dropped (image ∷ images) none now =
      let parts = or_parts (is_at file key image && own image) (list_any (λ i. is_at file key i && own i) images) none in
      drop-step image images now (own image) parts.0 (dropped images parts.1)

not-not : (images : List BeforeImage) (own : BeforeImage → Bool) (file : ℕ) (key : List ℕ)
    → list_any (λ image. is_at file key image && not (not (own image))) images ≡ list_any (λ image. is_at file key image && own image) images
not-not [] own file key = refl
not-not (image ∷ images) own file key = ap₂ (λ (a b : Bool). a || b) (twice (own image)) (not-not images own file key)
  where
    twice : (b : Bool) → (is_at file key image && not (not b)) ≡ (is_at file key image && b)
    twice true = refl
    twice false = refl

-- images put back in two parts, where no key has images of both
pub in-two-parts : (own : BeforeImage → Bool) (images : List BeforeImage) (file : ℕ) (key : List ℕ)
    → ((list_any (λ image. is_at file key image && own image) images ≡ true) → (list_any (λ image. is_at file key image && not (own image)) images ≡ true) → ⊥)
    → (now : Option (List ℕ))
    → stands_at (filter (λ image. not (own image)) images) file key (stands_at (filter own images) file key now) ≡ stands_at images file key now
in-two-parts own images file key single now =
    ⊎_elim
    (λ others.
    let none : list_any (λ image. is_at file key image && own image) images ≡ false =
    ⊎_elim (λ both. absurd (single both others)) (λ none. none) (cases_Bool (list_any (λ image. is_at file key image && own image) images)) in
    ap (λ (x : Option (List ℕ)). stands_at (filter (λ image. not (own image)) images) file key x) (dropped own file key images none now)
    ∙ sym (kept (λ image. not (own image)) file key images (not-not images own file key ∙ none) now))
    (λ none.
    dropped (λ image. not (own image)) file key images none (stands_at (filter own images) file key now)
    ∙ sym (kept own file key images none now))
    (cases_Bool (list_any (λ image. is_at file key image && not (own image)) images))
