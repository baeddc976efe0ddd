-- What is found at some process of some class.
use Rattle.std.proofs.Common.{◌≡◌, ℕ, zero, suc, ◌+◌, ◌<◌, ◌||◌, Bool, true, false, length, None, refl, ap, ap₂, ◌∙◌, add-one}
use Rattle.std.specs.Prelude.{slice_get}
use Rattle.pw_code.specs.declared.system.System.{System}
use Rattle.pw_code.specs.declared.unit.Unit as unit
use Rattle.pw_code_meaning.specs.OfSystem.{processes_by}
use Rattle.pw_world_state.specs.CauseTests.{meets, work_meets}
use Rattle.pw_world_state.specs.ClassTests.{works_where}
use Rattle.pw_world_state.specs.Kept.{Kept}
use Rattle.pw_paired.specs.Units.{any_below}
use Rattle.pw_laws.proofs.Lacking.{any_below-some, any_below-true}
use Rattle.pw_entry_tests.specs.Causes.{IsOlder, IsOlderFound, units_meet}

-- one more number
pub any_more : (n : ℕ) (has : ℕ → Bool) → any_below (n + 1) has ≡ (any_below n has || has n)
any_more n has = rw add-one refl

-- ---- two properties at once

swap : (a b c d : Bool) → ((a || b) || (c || d)) ≡ ((a || c) || (b || d))
swap true b c d = refl
swap false true true d = refl
swap false true false d = refl
swap false false c d = refl

any-same : (n : ℕ) (f g : ℕ → Bool) → ((j : ℕ) → f j ≡ g j) → any_below n f ≡ any_below n g
any-same zero f g same = refl
any-same (suc n) f g same = ap₂ (λ a b. a || b) (any-same n f g same) (same n)

any-either : (n : ℕ) (f g : ℕ → Bool) → any_below n (λ j. f j || g j) ≡ (any_below n f || any_below n g)
any-either zero f g = refl
any-either (suc n) f g =
    ap (λ a. a || (f n || g n)) (any-either n f g) ∙ swap (any_below n f) (any_below n g) (f n) (g n)

module _ (system : System) (kept : Kept) where
  -- two units meet by a process of one or of the other
  pub meets-either : (one other : unit.Unit) → units_meet system kept one other ≡ (meets system kept one other || meets system kept other one)
  meets-either one other =
      any-same (length system.classes) _ _
      (λ c. any-either (processes_by (slice_get system.classes c)) (λ i. works_where kept c (i + 1) (work_meets system kept one other))
      (λ i. works_where kept c (i + 1) (work_meets system kept other one)))
      ∙ any-either (length system.classes) _ _

  module _ (own : unit.Unit) (n : ℕ) (has : unit.Unit → ℕ → Bool) where
    -- what is found at one number is found below
    pub found-in : (older : unit.Unit) (i : ℕ) → i < n → IsOlder system kept own (λ o. has o i) older
        → IsOlder system kept own (λ o. any_below n (has o)) older
    found-in older i lt h = record { is_open = h.is_open; first = h.first; meets = any_below-true n (has older) i lt h.meets }

    -- what is found at none is not found
    pub none-in : ((i : ℕ) → i < n → IsOlderFound system kept own (λ o. has o i) None)
        → IsOlderFound system kept own (λ o. any_below n (has o)) None
    none-in each older h =
        let found = any_below-some n (has older) h.meets in
        each found.0 found.1 older (record { is_open = h.is_open; first = h.first; meets = found.2 })
