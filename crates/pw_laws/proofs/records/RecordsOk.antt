-- What each state of a run keeps of files, before-images and locks.
use Rattle.std.proofs.Common.{◌≡◌, ℕ, Bool, true, false, not, ◌&&◌, ◌==◌, List, filter, refl, ap, sym, ◌∙◌}
use Rattle.std.specs.List.{list_any, AllByRecursion}
use Rattle.std.specs.Str.{bytes_eq}
use Rattle.std.proofs.lemmas.Bool.{false≢true, eqb-true, and_from}
use Rattle.pw_base.proofs.Plain.{and-first, and-second}
use Rattle.pw_files.specs.Records.{IsFile}
use Rattle.pw_laws.proofs.records.Images.{ImageOk}
use Rattle.pw_laws.specs.locking.Held.{has_key_lock, is_exclusive, is_point, locks_key}
use Rattle.pw_locks.specs.declared.lock.Lock.{Lock}
use Rattle.pw_onecopy.specs.Behaviour.{Behaviour}
use Rattle.pw_paired.specs.State.{BeforeImage}
use Rattle.pw_paired.specs.Units.{has_image}
use Rattle.pw_laws.proofs.Tests.{any-filter, any-more, any-some}

-- files are files; images have contents of their keys, each under an exclusive lock of its unit; and no key has images of two units
pub record RecordsOk (sys : Behaviour) (files : ℕ → List (List ℕ)) (before : List BeforeImage) (locks : List Lock) : Type 0 where
  pub are_files : (f : ℕ) → IsFile (sys.key_length f) (files f)
  pub images : AllByRecursion (ImageOk sys) before
  pub locked : (t f : ℕ) (key : List ℕ) → has_image t f key before ≡ true → has_key_lock t f key locks ≡ true
  pub single : (t o f : ℕ) (key : List ℕ) → has_image t f key before ≡ true → has_image o f key before ≡ true → t ≡ o

-- images and locks of some terminals go
module _ (whose : ℕ → Bool) (t f : ℕ) (key : List ℕ) where
  image-test : BeforeImage → Bool
  image-test image = image.terminal == t && (image.file == f && bytes_eq image.key key)

  -- an image that stays is one of before, of a unit that stays
  pub image-kept : (before : List BeforeImage) → has_image t f key (filter (λ image. not (whose image.terminal)) before) ≡ true
      → (has_image t f key before ≡ true) × (whose t ≡ false)
  image-kept before is =
      let both : list_any (λ image. not (whose image.terminal) && (image.terminal == t && (image.file == f && bytes_eq image.key key))) before ≡ true =
      sym (any-filter (λ image. image.terminal == t && (image.file == f && bytes_eq image.key key)) (λ image. not (whose image.terminal)) before) ∙ is in
      let one = any-some _ before both in
      let own : (one.0.terminal == t) ≡ true = and-first (one.0.terminal == t) (one.0.file == f && bytes_eq one.0.key key) (and-second (not (whose one.0.terminal)) (one.0.terminal == t && (one.0.file == f && bytes_eq one.0.key key)) one.1) in (
        any-more _ _ (λ image e. and-second (not (whose image.terminal)) (image.terminal == t && (image.file == f && bytes_eq image.key key)) e) before both,
        ap whose (sym (eqb-true one.0.terminal t own)) ∙ not-true (whose one.0.terminal) (and-first (not (whose one.0.terminal)) (one.0.terminal == t && (one.0.file == f && bytes_eq one.0.key key)) one.1),
      )
    where
      not-true : (b : Bool) → not b ≡ true → b ≡ false
      not-true true e = absurd (false≢true e)
      not-true false e = refl

  -- the locks of a unit that stays, stay
  pub lock-kept : (locks : List Lock) → has_key_lock t f key locks ≡ true → whose t ≡ false → has_key_lock t f key (filter (λ lock. not (whose lock.unit.terminal)) locks) ≡ true
  lock-kept locks is spared =
      any-filter (locks_key t f key) (λ lock. not (whose lock.unit.terminal)) locks
      ∙ any-more (locks_key t f key) (λ lock. not (whose lock.unit.terminal) && locks_key t f key lock)
      (λ lock e. and_from (not (whose lock.unit.terminal)) (locks_key t f key lock)
      (ap (λ (n : ℕ). not (whose n)) (eqb-true lock.unit.terminal t (and-first (lock.unit.terminal == t) (lock.file == f && (is_point key lock.span && is_exclusive lock.mode)) e)) ∙ ap not spared) e)
      locks is
