-- The open unit of a terminal, by what the disc tells.
use Rattle.std.proofs.Common.{◌≡◌, ℕ, ◌<◌, ◌≤◌, Bool, true, false, length, Option, Some, None, refl, ap, sym, subst, ◌∙◌, cond, arith}
use Rattle.pw_base.proofs.Plain.{some_is}
use Rattle.pw_code.specs.declared.system.System.{System}
use Rattle.pw_code.specs.declared.unit.Unit as unit
use Rattle.pw_world_store.specs.Keeps.{is_run}
use Rattle.pw_world_state.specs.CauseTests.{unit_named}
use Rattle.pw_world_state.specs.Kept.{Kept}
use Rattle.pw_entry_tests.specs.Causes.{IsUnit, running_told}
use Rattle.pw_entry_tests.specs.Known.{IsKnown}
use Rattle.pw_tmf.specs.Leaving.{unit_told}
use Rattle.pw_tmf.specs.Told.{ToldUnit}

-- ---- one that may not run

-- the terminal of a unit is the one that was asked for
terminal-at : (o : ℕ) (it : Option ToldUnit) (u : unit.Unit) → unit_told o it ≡ Some u → u.terminal ≡ o
terminal-at o None u e = cc e
terminal-at o (Some told) u e = ap (λ (x : unit.Unit). x.terminal) (sym (some_is e))

module _ (system : System) (kept : Kept) where
  -- the unit is named by what the disc tells of it
  pub named : (own : unit.Unit) → IsUnit system kept own → (told : ToldUnit)
      → kept.disc.units own.terminal ≡ Some told
      → unit_named own.terminal told ≡ own
  named own is told here = some_is (sym (ap (unit_told own.terminal) here) ∙ is.open_unit)

  module _ (o : ℕ) (u : unit.Unit) (e : unit_told o (kept.disc.units o) ≡ Some u) where
    pub terminal-of : u.terminal ≡ o
    terminal-of = terminal-at o (kept.disc.units o) u e

    -- the unit that was found is open
    pub unit-of : o < length system.terminals → IsUnit system kept u
    unit-of there = record {
      there = subst (λ j. j < length system.terminals) (sym terminal-of) there;
      open_unit = subst (λ j. unit_told j (kept.disc.units j) ≡ Some u) (sym terminal-of) e;
    }

  module _ (known : IsKnown system kept) where
    started-at : (o : ℕ) (it : Option ToldUnit) → kept.disc.units o ≡ it → length system.terminals ≤ o
        → unit_told o it ≡ None
    started-at o None is above = refl
    started-at o (Some told) is above =
        let below : o < length system.terminals = known.started o told is in absurd
        (omega (arith, below, above))

    -- only a started terminal has one
    pub none-above : (o : ℕ) → length system.terminals ≤ o → unit_told o (kept.disc.units o) ≡ None
    none-above o above = started-at o (kept.disc.units o) refl above

    there-at : (o : ℕ) (it : Option ToldUnit) (u : unit.Unit) → kept.disc.units o ≡ it
        → unit_told o it ≡ Some u → o < length system.terminals
    there-at o None u is e = cc e
    there-at o (Some told) u is e = known.started o told is

    pub unit-found : (o : ℕ) (u : unit.Unit) → unit_told o (kept.disc.units o) ≡ Some u
        → IsUnit system kept u
    unit-found o u e = unit-of o u e (there-at o (kept.disc.units o) u refl e)

-- ---- one that runs

-- the unit is the open one of the terminal, and an attempt of it runs
pub record IsRun (kept : Kept) (t : ℕ) (own : unit.Unit) : Type 0 where
  pub told : ToldUnit
  pub here : kept.disc.units t ≡ Some told
  pub runs : told.running ≡ true
  pub named : unit_named t told ≡ own

module _ (t : ℕ) where
  cond-some : (b : Bool) (x u : unit.Unit) → cond b (Some x) None ≡ Some u → (b ≡ true) × (x ≡ u)
  cond-some true x u e = (refl, some_is e)
  cond-some false x u e = cc e

  cond-none : (b : Bool) (x : unit.Unit) → cond b (Some x) None ≡ None → b ≡ false
  cond-none true x e = cc e
  cond-none false x e = refl

  -- where a start is noted, the open unit runs
  pub run-then : (it : Option ToldUnit) → is_run it ≡ true → unit_told t it ≡ running_told t it
  run-then None e = refl
  run-then (Some told) e = sym (ap (λ b. cond b (Some (unit_named t told)) None) e)

  pub run-else : (it : Option ToldUnit) → is_run it ≡ false → None ≡ running_told t it
  run-else None e = refl
  run-else (Some told) e = sym (ap (λ b. cond b (Some (unit_named t told)) None) e)

  module _ (kept : Kept) where
    run-at : (it : Option ToldUnit) (own : unit.Unit) → kept.disc.units t ≡ it
        → running_told t it ≡ Some own → IsRun kept t own
    run-at None own is e = cc e
    run-at (Some told) own is e =
        let parts = cond-some told.running (unit_named t told) own e in
        record { told = told; here = is; runs = parts.0; named = parts.1 }

    pub is-run : (own : unit.Unit) → running_told t (kept.disc.units t) ≡ Some own → IsRun kept t own
    is-run own e = run-at (kept.disc.units t) own refl e

    -- it is open
    pub run-unit : (system : System) (own : unit.Unit) → t < length system.terminals → IsRun kept t own
        → IsUnit system kept own
    run-unit system own there run =
        unit-of system kept t own (ap (unit_told t) run.here ∙ ap (λ (u : unit.Unit). Some u) run.named)
        there

    pub run-terminal : (own : unit.Unit) → IsRun kept t own → own.terminal ≡ t
    run-terminal own run = ap (λ (u : unit.Unit). u.terminal) (sym run.named)
