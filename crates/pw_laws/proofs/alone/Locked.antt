-- Keys under a lock of a terminal: nobody else has changed them.
use Rattle.std.proofs.Common.{◌≡◌, ◌≢◌, ℕ, inl, inr, ⊎_elim, Bool, true, false, not, ◌&&◌, ◌==◌, cond, List, [], ◌∷◌, filter, refl, ap, sym, ◌∙◌}
use Rattle.std.specs.List.{AllByRecursion}
use Rattle.std.specs.Str.{bytes_eq}
use Rattle.std.proofs.lemmas.Bool.{cases_Bool, true≢false, false≢true, eqb-true, ne_eqb, and_from, and_left}
use Rattle.pw_base.proofs.Plain.{and-first, and-second, drop-false}
use Rattle.pw_laws.proofs.AttemptOps.{IsLocked}
use Rattle.pw_code.specs.declared.lock.LockMode.{LockMode}
use Rattle.pw_code.specs.declared.lock.LockMode.TheVariants.{Shared, Exclusive}
use Rattle.pw_laws.proofs.records.Images.{cases_bytes}
use Rattle.pw_laws.proofs.seeing.CoveredKeys.{alone_exclusive, exclusive_alone}
use Rattle.pw_laws.specs.locking.Held.{AreCompatibleLocks, has_key_lock, is_exclusive, is_point, locks_key}
use Rattle.pw_locks.specs.Conflicts.{conflict, is_same_unit}
use Rattle.pw_locks.specs.Spans.{Covers}
use Rattle.pw_locks.specs.declared.lock.Lock.{Lock}
use Rattle.pw_locks.specs.declared.span.Span.{Span}
use Rattle.pw_locks.specs.declared.span.Span.TheVariants.{Point, After}
use Rattle.pw_paired.specs.State.{BeforeImage}
use Rattle.pw_paired.specs.Units.{has_image}
use Rattle.pw_laws.proofs.Tests.{any-filter, any-more}

-- a lock of the terminal on the key
record Own (t f : ℕ) (key : List ℕ) (lock : Lock) : Type 0 where
  whose : lock.unit.terminal ≡ t
  file : lock.file ≡ f
  covers : Covers lock.span key

-- an exclusive lock of another terminal on it
record Other (o f : ℕ) (key : List ℕ) (held : Lock) : Type 0 where
  whose : held.unit.terminal ≡ o
  file : held.file ≡ f
  covers : Covers held.span key
  alone : held.mode ≡ Exclusive

other-of : (o f : ℕ) (key : List ℕ) (held : Lock) → locks_key o f key held ≡ true → Other o f key held
other-of o f key held is =
    let rest : (held.file == f && (is_point key held.span && is_exclusive held.mode)) ≡ true = and-second (held.unit.terminal == o) (held.file == f && (is_point key held.span && is_exclusive held.mode)) is in
    let last : (is_point key held.span && is_exclusive held.mode) ≡ true = and-second (held.file == f) (is_point key held.span && is_exclusive held.mode) rest in
    record {
      whose = eqb-true held.unit.terminal o (and-first (held.unit.terminal == o) (held.file == f && (is_point key held.span && is_exclusive held.mode)) is);
      file = eqb-true held.file f (and-first (held.file == f) (is_point key held.span && is_exclusive held.mode) rest);
      covers = by-span held.span (and-first (is_point key held.span) (is_exclusive held.mode) last);
      alone = by-mode held.mode (and-second (is_point key held.span) (is_exclusive held.mode) last);
    }
  where
    by-span : (span : Span) → is_point key span ≡ true → Covers span key
    by-span (Point own) point = ⊎_elim (λ same. sym same.0) (λ differ. absurd (true≢false (sym point ∙ differ.1))) (cases_bytes own key)
    by-span (After low high) point = absurd (false≢true point)

    by-mode : (mode : LockMode) → is_exclusive mode ≡ true → mode ≡ Exclusive
    by-mode Shared exclusive = absurd (false≢true exclusive)
    by-mode Exclusive exclusive = refl

-- locks of two terminals are of two units
two-units : (a b : Lock) (t o : ℕ) → a.unit.terminal ≡ t → b.unit.terminal ≡ o → t ≢ o → is_same_unit a.unit b.unit ≡ false
two-units a b t o is other differ = and_left (a.unit.terminal == b.unit.terminal) (a.unit.number == b.unit.number) (ne_eqb a.unit.terminal b.unit.terminal (λ same. differ (sym is ∙ (same ∙ other))))

-- the pair of them conflicts, whichever was taken first
clash : (t o f : ℕ) (key : List ℕ) (lock held : Lock) → t ≢ o → Own t f key lock → Other o f key held → conflict lock held ≡ false → ⊥
clash t o f key lock held differ own other free =
    alone_exclusive lock held (two-units lock held t o own.whose other.whose differ) (own.file ∙ sym other.file) key free other.alone own.covers other.covers

clash-back : (t o f : ℕ) (key : List ℕ) (lock held : Lock) → t ≢ o → Own t f key lock → Other o f key held → conflict held lock ≡ false → ⊥
clash-back t o f key lock held differ own other free =
    exclusive_alone held lock (two-units held lock o t other.whose own.whose (λ same. differ (sym same))) (other.file ∙ sym own.file) key free other.alone other.covers own.covers

-- the head clashes with one of the rest
own-head : (t o f : ℕ) (key : List ℕ) (lock : Lock) (locks : List Lock) → t ≢ o → Own t f key lock → AllByRecursion (λ held. conflict lock held ≡ false) locks
    → has_key_lock o f key locks ≡ true → ⊥
own-head t o f key lock [] differ own free there = false≢true there
own-head t o f key lock (held ∷ locks) differ own free there =
    ⊎_elim
    (λ here. clash t o f key lock held differ own (other-of o f key held here) free.0)
    (λ not_here. own-head t o f key lock locks differ own free.1 (drop-false (locks_key o f key held) (has_key_lock o f key locks) not_here there))
    (cases_Bool (locks_key o f key held))

other-head : (t o f : ℕ) (key : List ℕ) (held : Lock) (locks : List Lock) → t ≢ o → Other o f key held → AllByRecursion (λ lock. conflict held lock ≡ false) locks
    → IsLocked t f key locks → ⊥
other-head t o f key held [] differ other free locked = locked
other-head t o f key held (lock ∷ locks) differ other free (inl own) = clash-back t o f key lock held differ (record { whose = own.0; file = own.1; covers = own.2 }) other free.0
other-head t o f key held (lock ∷ locks) differ other free (inr locked) = other-head t o f key held locks differ other free.1 locked

-- no key under a lock of one terminal is under an exclusive lock of another
pub unshared : (t o f : ℕ) (key : List ℕ) (locks : List Lock) → t ≢ o → AreCompatibleLocks locks → IsLocked t f key locks → has_key_lock o f key locks ≡ true → ⊥
unshared t o f key [] differ apart locked there = locked
unshared t o f key (lock ∷ locks) differ apart locked there =
    ⊎_elim
    (λ held. by-locked locked (other-of o f key lock held))
    (λ not_held.
    let rest = drop-false (locks_key o f key lock) (has_key_lock o f key locks) not_held there in
    ⊎_elim (λ own. own-head t o f key lock locks differ (record { whose = own.0; file = own.1; covers = own.2 }) apart.0 rest)
    (λ more. unshared t o f key locks differ apart.1 more rest) locked)
    (cases_Bool (locks_key o f key lock))
  where
    by-locked : IsLocked t f key (lock ∷ locks) → Other o f key lock → ⊥
    by-locked (inl own) other = absurd (differ (sym own.0 ∙ other.whose))
    by-locked (inr more) other = other-head t o f key lock locks differ other apart.0 more

-- an exclusive lock on a key is a lock on it
pub key-locked : (t f : ℕ) (key : List ℕ) (locks : List Lock) → has_key_lock t f key locks ≡ true → IsLocked t f key locks
key-locked t f key [] there = absurd (false≢true there)
key-locked t f key (lock ∷ locks) there =
    ⊎_elim
    (λ here. let own = other-of t f key lock here in inl (own.whose, own.file, own.covers))
    (λ not_here. inr (key-locked t f key locks (drop-false (locks_key t f key lock) (has_key_lock t f key locks) not_here there)))
    (cases_Bool (locks_key t f key lock))

-- locks of some terminals are released
module _ (whose : ℕ → Bool) (t f : ℕ) (key : List ℕ) where
  -- a key stays locked for a terminal that stays
  pub locked-kept : (locks : List Lock) → whose t ≡ false → IsLocked t f key locks → IsLocked t f key (filter (λ lock. not (whose lock.unit.terminal)) locks)
  locked-kept [] spared locked = locked
  locked-kept (lock ∷ locks) spared (inl own) = by_test (not (whose lock.unit.terminal)) (ap (λ n. not (whose n)) own.0 ∙ ap not spared)
    where
      by_test : (b : Bool) → b ≡ true → IsLocked t f key (cond b (lock ∷ filter (λ l. not (whose l.unit.terminal)) locks) (filter (λ l. not (whose l.unit.terminal)) locks))
      by_test true is = inl own
      by_test false is = absurd (false≢true is)
  locked-kept (lock ∷ locks) spared (inr more) = by_test (not (whose lock.unit.terminal)) (locked-kept locks spared more)
    where
      by_test : (b : Bool) → IsLocked t f key (filter (λ l. not (whose l.unit.terminal)) locks)
          → IsLocked t f key (cond b (lock ∷ filter (λ l. not (whose l.unit.terminal)) locks) (filter (λ l. not (whose l.unit.terminal)) locks))
      by_test true rest = inr rest
      by_test false rest = rest

  -- a key that is locked still was locked before
  pub locked-was : (locks : List Lock) → IsLocked t f key (filter (λ lock. not (whose lock.unit.terminal)) locks) → IsLocked t f key locks
  locked-was [] locked = locked
  locked-was (lock ∷ locks) locked = by_test (not (whose lock.unit.terminal)) locked (locked-was locks)
    where
      by_test : (b : Bool) → IsLocked t f key (cond b (lock ∷ filter (λ l. not (whose l.unit.terminal)) locks) (filter (λ l. not (whose l.unit.terminal)) locks))
          → (IsLocked t f key (filter (λ l. not (whose l.unit.terminal)) locks) → IsLocked t f key locks) → IsLocked t f key (lock ∷ locks)
      by_test true (inl own) rest = inl own
      by_test true (inr more) rest = inr (rest more)
      by_test false more rest = inr (rest more)

  -- images of the others go
  pub images-were : (before : List BeforeImage) → whose t ≡ false → has_image t f key (filter (λ image. not (whose image.terminal)) before) ≡ false → has_image t f key before ≡ false
  images-were before spared none =
      ⊎_elim
      (λ there. absurd (true≢false (sym (any-filter (λ i. i.terminal == t && (i.file == f && bytes_eq i.key key)) (λ i. not (whose i.terminal)) before
      ∙ any-more (λ i. i.terminal == t && (i.file == f && bytes_eq i.key key)) (λ i. not (whose i.terminal) && (i.terminal == t && (i.file == f && bytes_eq i.key key)))
      (λ i e. and_from (not (whose i.terminal)) (i.terminal == t && (i.file == f && bytes_eq i.key key))
      (ap (λ n. not (whose n)) (eqb-true i.terminal t (and-first (i.terminal == t) (i.file == f && bytes_eq i.key key) e)) ∙ ap not spared) e) before there) ∙ none)))
      (λ none. none)
      (cases_Bool (has_image t f key before))
