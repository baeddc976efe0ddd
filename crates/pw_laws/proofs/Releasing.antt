-- To release by terminal is to release by unit, where locks are those of open units.
use Rattle.std.proofs.Common.{◌≡◌, ℕ, Bool, true, not, cond, List, [], ◌∷◌, filter, Option, Some, None, refl, sym, ap, ap₂, ◌∙◌, ⊎_elim}
use Rattle.std.specs.List.{AllByRecursion}
use Rattle.std.proofs.lemmas.Bool.{cases_eq, eq-eqb, ne_eqb}
use Rattle.pw_base.proofs.Plain.{all-weaker}
use Rattle.pw_laws.specs.locking.Held.{IsHeld}
use Rattle.pw_locks.specs.Conflicts.{is_same_unit}
use Rattle.pw_locks.specs.declared.lock.Lock.{Lock}
use Rattle.pw_paired.specs.Failure.{unit_named}
use Rattle.pw_paired.specs.State.{OpenUnit}
use Rattle.pw_paired.specs.Units.{only, without_locks}
use Rattle.pw_laws.proofs.Tests.{all-filter}

-- two tests that agree on each element leave the same
filter-same : {X : Type 0} (p q : X → Bool) (xs : List X) → AllByRecursion (λ x. p x ≡ q x) xs → filter p xs ≡ filter q xs
filter-same p q [] same = refl
filter-same p q (x ∷ xs) same = ap₂ (λ b rest. cond b (x ∷ rest) rest) same.0 (filter-same p q xs same.1)

filter-all : {X : Type 0} (p : X → Bool) (xs : List X) → AllByRecursion (λ x. p x ≡ true) xs → filter p xs ≡ xs
filter-all p [] all = refl
filter-all p (x ∷ xs) all = ap₂ (λ b rest. cond b (x ∷ rest) rest) all.0 (filter-all p xs all.1)

module _ (units : ℕ → Option OpenUnit) (t : ℕ) where
  -- a held lock is of the terminal where it is of its open unit
  same-test : (unit : OpenUnit) → units t ≡ Some unit → (lock : Lock) → IsHeld units lock
      → only t lock.unit.terminal ≡ is_same_unit lock.unit (unit_named t unit)
  same-test unit is lock held =
      ⊎_elim
      (λ own.
      let one : held.unit ≡ unit = cc (ap units (sym own) ∙ held.is_open, is) in
      let terminal = eq-eqb lock.unit.terminal t own in
      let number = eq-eqb lock.unit.number unit.number (held.number ∙ ap (λ (u : OpenUnit). u.number) one) in
      rw (terminal, number) refl)
      (λ other. let terminal = ne_eqb lock.unit.terminal t other in rw terminal refl)
      (cases_eq lock.unit.terminal t)

  other-test : units t ≡ None → (lock : Lock) → IsHeld units lock → not (only t lock.unit.terminal) ≡ true
  other-test none lock held =
      ap not (ne_eqb lock.unit.terminal t (λ own. absurd (cc (ap units (sym own) ∙ held.is_open, none))))

-- of the open unit of the terminal
pub release-unit : (units : ℕ → Option OpenUnit) (locks : List Lock) → AllByRecursion (IsHeld units) locks
    → (t : ℕ) (unit : OpenUnit) → units t ≡ Some unit
    → without_locks (only t) locks ≡ filter (λ held. not (is_same_unit held.unit (unit_named t unit))) locks
release-unit units locks all t unit is =
    filter-same (λ lock. not (only t lock.unit.terminal)) (λ held. not (is_same_unit held.unit (unit_named t unit))) locks
    (all-weaker (IsHeld units) _ (λ lock held. ap not (same-test units t unit is lock held)) locks all)

-- where none is open
pub release-none : (units : ℕ → Option OpenUnit) (locks : List Lock) → AllByRecursion (IsHeld units) locks
    → (t : ℕ) → units t ≡ None → without_locks (only t) locks ≡ locks
release-none units locks all t none =
    filter-all (λ lock. not (only t lock.unit.terminal)) locks
    (all-weaker (IsHeld units) _ (λ lock held. other-test units t none lock held) locks all)

-- the locks that stay are held
pub release-stays : (units : ℕ → Option OpenUnit) (locks : List Lock) → AllByRecursion (IsHeld units) locks
    → (whose : ℕ → Bool) → AllByRecursion (IsHeld units) (without_locks whose locks)
release-stays units locks all whose = all-filter (IsHeld units) (λ lock. not (whose lock.unit.terminal)) locks all
