-- Units that end or restart: their images and locks go, and the committed records stay, but for a commit.
use Rattle.std.proofs.Common.{◌≡◌, ℕ, ⊎_elim, Bool, true, false, not, ◌&&◌, ◌||◌, ◌==◌, List, [], ◌∷◌, filter, Option, refl, ap, sym, ◌∙◌}
use Rattle.std.specs.List.{list_any}
use Rattle.std.proofs.lemmas.Bool.{cases_Bool, true≢false, false≢true, eq-eqb, and_from, or_left, or_right}
use Rattle.pw_base.proofs.Plain.{and-first, and-second}
use Rattle.pw_files.specs.Records.{IsFile, record_at}
use Rattle.pw_laws.proofs.records.Images.{ImageOk, is_at, in-two-parts, restored-at, restored-file, stands_at}
use Rattle.pw_laws.proofs.records.RecordsOk.{RecordsOk, image-kept, lock-kept}
use Rattle.pw_locks.specs.declared.lock.Lock.{Lock}
use Rattle.pw_onecopy.specs.Behaviour.{Behaviour}
use Rattle.pw_paired.specs.State.{BeforeImage}
use Rattle.pw_paired.specs.Units.{has_image, restored_files}
use Rattle.pw_laws.proofs.Tests.{all-filter}

-- an image of a key is that of its terminal
pub any-image : (test : ℕ → Bool) (f : ℕ) (key : List ℕ) (images : List BeforeImage) → list_any (λ image. is_at f key image && test image.terminal) images ≡ true
    → (t : ℕ) × (test t ≡ true) × (has_image t f key images ≡ true)
any-image test f key [] is = absurd (false≢true is)
any-image test f key (image ∷ images) is =
    ⊎_elim
    (λ here. (
      image.terminal,
      and-second (is_at f key image) (test image.terminal) here,
      or_left (image.terminal == image.terminal && is_at f key image) (has_image image.terminal f key images)
          (and_from (image.terminal == image.terminal) (is_at f key image) (eq-eqb image.terminal image.terminal refl) (and-first (is_at f key image) (test image.terminal) here)),
    ))
    (λ not_here.
    let rest = any-image test f key images (drop-false (is_at f key image && test image.terminal) (list_any (λ i. is_at f key i && test i.terminal) images) not_here is) in
    (rest.0, rest.1, or_right (image.terminal == rest.0 && is_at f key image) (has_image rest.0 f key images) rest.2))
    (cases_Bool (is_at f key image && test image.terminal))
  where
    drop-false : (a b : Bool) → a ≡ false → (a || b) ≡ true → b ≡ true
    drop-false true b e is = absurd (true≢false e)
    drop-false false b e is = is

module _ (sys : Behaviour) (files : ℕ → List (List ℕ)) (before : List BeforeImage) (locks : List Lock) (ok : RecordsOk sys files before locks) (whose : ℕ → Bool) where
  abbrev own : BeforeImage → Bool
  own image = whose image.terminal

  abbrev others : List BeforeImage
  others = filter (λ image. not (whose image.terminal)) before

  abbrev their_locks : List Lock
  their_locks = filter (λ lock. not (whose lock.unit.terminal)) locks

  -- what is left is in order
  left-over : (after : ℕ → List (List ℕ)) → ((f : ℕ) → IsFile (sys.key_length f) (after f)) → RecordsOk sys after others their_locks
  left-over after are_files = record {
    are_files = are_files;
    images = all-filter (ImageOk sys) (λ image. not (whose image.terminal)) before ok.images;
    locked = λ t f key there. let kept = image-kept whose t f key before there in lock-kept whose t f key locks (ok.locked t f key kept.0) kept.1;
    single = λ t o f key there other_there. ok.single t o f key (image-kept whose t f key before there).0 (image-kept whose o f key before other_there).0;
  }

  -- their changes are backed out
  pub backed-out-ok : RecordsOk sys (restored_files sys.key_length (filter own before) files) others their_locks
  backed-out-ok = left-over (restored_files sys.key_length (filter own before) files)
      (restored-file sys (filter own before) (all-filter (ImageOk sys) own before ok.images) files ok.are_files)

  -- their changes stay
  pub ended-ok : RecordsOk sys files others their_locks
  ended-ok = left-over files ok.are_files

  -- no key has images of these and of others
  apart : (f : ℕ) (key : List ℕ) → list_any (λ image. is_at f key image && own image) before ≡ true → list_any (λ image. is_at f key image && not (own image)) before ≡ true → ⊥
  apart f key these those =
      let one = any-image whose f key before these in
      let other = any-image (λ t. not (whose t)) f key before those in
      let same = ok.single one.0 other.0 f key one.2 other.2 in
      contradict (whose one.0) one.1 (ap (λ t. not (whose t)) same ∙ other.1)
    where
      contradict : (b : Bool) → b ≡ true → not b ≡ true → ⊥
      contradict true e f = false≢true f
      contradict false e f = false≢true e

  -- units that are backed out leave the committed records
  pub backed-out-committed : (f : ℕ) (key : List ℕ)
      → record_at (sys.key_length f) (restored_files sys.key_length others (restored_files sys.key_length (filter own before) files) f) key ≡ record_at (sys.key_length f) (restored_files sys.key_length before files f) key
  backed-out-committed f key =
      restored-at sys others (all-filter (ImageOk sys) (λ image. not (own image)) before ok.images) (restored_files sys.key_length (filter own before) files) f key
      ∙ ap (λ (x : Option (List ℕ)). stands_at others f key x) (restored-at sys (filter own before) (all-filter (ImageOk sys) own before ok.images) files f key)
      ∙ in-two-parts own before f key (apart f key) (record_at (sys.key_length f) (files f) key)
      ∙ sym (restored-at sys before ok.images files f key)
