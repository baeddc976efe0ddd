-- Locks of two units on a common key conflict, unless both are shared.
use Rattle.std.proofs.Common.{◌≡◌, ap, cond, refl, Bool, true, false, not, ◌&&◌, ◌==◌, List, [], ◌∷◌, ℕ, map, filter, All, Contains}
use Rattle.std.proofs.lemmas.Bool.{and_from, eq-eqb}
use Rattle.std.proofs.lemmas.List.Elements.{All-contains, All-nil, All-cons}
use Rattle.pw_code.specs.declared.lock.LockMode.{LockMode}
use Rattle.pw_code.specs.declared.lock.LockMode.TheVariants.{Shared, Exclusive}
use Rattle.pw_locks.proofs.Overlaps.{common-overlap}
use Rattle.pw_locks.specs.Conflicts.{is_same_unit, are_both_shared, exclude, conflict, holders}
use Rattle.pw_locks.specs.Spans.{overlap, Covers}
use Rattle.pw_locks.specs.declared.lock.Lock.{Lock}

-- an exclusive lock is not shared
first_exclusive : (mode other : LockMode) → mode ≡ Exclusive → are_both_shared mode other ≡ false
first_exclusive Shared other h = absurd (cc h)
first_exclusive Exclusive other h = refl

second_exclusive : (mode other : LockMode) → other ≡ Exclusive → are_both_shared mode other ≡ false
second_exclusive Shared Shared h = absurd (cc h)
second_exclusive Shared Exclusive h = refl
second_exclusive Exclusive other h = refl

module _ (a b : Lock) (apart : is_same_unit a.unit b.unit ≡ false) (file : a.file ≡ b.file) (key : List ℕ) where
  -- locks of two units on a key of one file conflict, where they are not both shared
  pub covered_conflict : are_both_shared a.mode b.mode ≡ false → Covers a.span key → Covers b.span key
      → conflict a b ≡ true
  covered_conflict modes own other =
      let may : Bool = not (are_both_shared a.mode b.mode) in
      and_from (not (is_same_unit a.unit b.unit)) (exclude a.file a.span a.mode b) (ap not apart)
      (and_from (a.file == b.file) (overlap a.span b.span && may) (eq-eqb a.file b.file file)
      (and_from (overlap a.span b.span) may (common-overlap a.span b.span (key, own, other)) (ap not modes)))

  -- where they do not conflict, a key under an exclusive one is not under the other
  pub exclusive_alone : conflict a b ≡ false → a.mode ≡ Exclusive → Covers a.span key → ¬ Covers b.span key
  exclusive_alone free mode own other =
      absurd (cc (covered_conflict (first_exclusive a.mode b.mode mode) own other, free))

  -- the same with the other one exclusive
  pub alone_exclusive : conflict a b ≡ false → b.mode ≡ Exclusive → Covers a.span key → ¬ Covers b.span key
  alone_exclusive free mode own other =
      absurd (cc (covered_conflict (second_exclusive a.mode b.mode mode) own other, free))

-- it conflicts with none of these locks
abbrev pub IsFree : Lock → List Lock → Type 0
IsFree lock locks = All (λ held. conflict lock held ≡ false) locks

-- a lock without holders conflicts with no lock
pub free_of_all : (lock : Lock) (locks : List Lock) → holders lock locks ≡ [] → IsFree lock locks
free_of_all lock [] h = All-nil (λ held. conflict lock held ≡ false)
free_of_all lock (held ∷ locks) h =
    let rest : List Lock = filter (conflict lock) locks in
    elim (conflict lock held) as (λ c. conflict lock held ≡ c
    → map (λ (held : Lock). held.unit) (cond c (held ∷ rest) rest) ≡ [] → IsFree lock (held ∷ locks)) [
      | true ↦ λ is none. absurd (cc none)
      | false ↦ λ is none. All-cons (λ held. conflict lock held ≡ false) held locks is (free_of_all lock locks none)
    ] refl h

module _ (lock : Lock) (locks : List Lock) (free : IsFree lock locks) (key : List ℕ) (own : Covers lock.span key)
    (held : Lock) (among : Contains locks held) (apart : is_same_unit lock.unit held.unit ≡ false)
    (file : lock.file ≡ held.file) where
  conflicts_not : conflict lock held ≡ false
  conflicts_not = All-contains (λ held. conflict lock held ≡ false) locks held free among

  -- a key under an exclusive lock is under no lock of another unit
  pub exclusive_alone_among : lock.mode ≡ Exclusive → ¬ Covers held.span key
  exclusive_alone_among mode = exclusive_alone lock held apart file key conflicts_not mode own

  -- a key under a lock is under no exclusive lock of another unit
  pub alone_among : held.mode ≡ Exclusive → ¬ Covers held.span key
  alone_among mode = alone_exclusive lock held apart file key conflicts_not mode own
