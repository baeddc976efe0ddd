-- The test of an older unit that a unit meets.
use Rattle.std.proofs.Common.{◌≡◌, ℕ, ◌<◌, ◌==◌, ◌&&◌, ◌||◌, nat_lt, Bool, true, false, not, Option, Some, None, refl, ap, ap₂, sym, ◌∙◌}
use Rattle.std.proofs.lemmas.Bool.{and_parts, ltb-true}
use Rattle.pw_base.proofs.Plain.{some_is}
use Rattle.pw_code.specs.declared.system.System.{System}
use Rattle.pw_code.specs.declared.unit.Unit as unit
use Rattle.pw_world_state.specs.CauseTests.{is_older, meets, unit_named}
use Rattle.pw_world_state.specs.Kept.{Kept}
use Rattle.pw_world_state.specs.PairTests.{is_gone}
use Rattle.pw_world_state.specs.TerminalTests.{seen_pair_of}
use Rattle.pw_laws.specs.legal.Values.{some_with}
use Rattle.pw_entry_tests.proofs.Anywhere.{meets-either}
use Rattle.pw_entry_tests.proofs.Opened.{named}
use Rattle.pw_entry_tests.specs.Causes.{IsUnit, comes_before, units_meet}
use Rattle.pw_tmf.specs.Leaving.{unit_told}
use Rattle.pw_tmf.specs.Told.{ToldUnit}

regroup : (a b c d : Bool) → (a && (b && (c && d))) ≡ ((a && (b && c)) && d)
regroup true true c d = refl
regroup true false c d = refl
regroup false b c d = refl

module _ (system : System) (kept : Kept) (own : unit.Unit) where
  -- the test, of the two units alone
  abbrev tested : ℕ → unit.Unit → unit.Unit → Bool
  tested m one other =
      other.number == m && (nat_lt other.birth one.birth
      && (not (is_gone (seen_pair_of system kept one.terminal).mode)
      && (meets system kept one other || meets system kept other one)))

  tested-is : (m : ℕ) (older : unit.Unit)
      → tested m own older ≡ (comes_before system kept own older m && units_meet system kept own older)
  tested-is m older =
      ap (λ d. older.number == m
      && (nat_lt older.birth own.birth && (not (is_gone (seen_pair_of system kept own.terminal).mode) && d)))
      (sym (meets-either system kept own older))
      ∙ regroup (older.number == m) (nat_lt older.birth own.birth)
      (not (is_gone (seen_pair_of system kept own.terminal).mode)) (units_meet system kept own older)

  parts : (older : unit.Unit) (m : ℕ) → comes_before system kept own older m ≡ true
      → (nat_lt older.birth own.birth ≡ true) × (not (is_gone (seen_pair_of system kept own.terminal).mode) ≡ true)
  parts older m e = and_parts _ _ (and_parts (older.number == m) _ e).1

  pub is-first : (older : unit.Unit) (m : ℕ) → comes_before system kept own older m ≡ true
      → older.birth < own.birth
  is-first older m e =
      ltb-true older.birth own.birth (parts older m e).0

  pub is-left : (older : unit.Unit) (m : ℕ) → comes_before system kept own older m ≡ true
      → not (is_gone (seen_pair_of system kept own.terminal).mode) ≡ true
  is-left older m e =
      (parts older m e).1

  module _ (is : IsUnit system kept own) (told : ToldUnit)
      (here : kept.disc.units own.terminal ≡ Some told) (o m : ℕ) where
    by-none : (it : Option ToldUnit) → kept.disc.units o ≡ it → unit_told o it ≡ None
        → is_older system kept own.terminal told o m ≡ false
    by-none None at e = ap (some_with _) at
    by-none (Some other) at e = cc e

    by-some : (it : Option ToldUnit) (older : unit.Unit) → kept.disc.units o ≡ it
        → unit_told o it ≡ Some older
        → is_older system kept own.terminal told o m ≡ tested m own older
    by-some None older at e = cc e
    by-some (Some other) older at e =
        ap (some_with (λ (x : ToldUnit). tested m (unit_named own.terminal told) (unit_named o x))) at
        ∙ ap₂ (tested m) (named system kept own is told here) (some_is e)

    -- where no unit is open there, it fails
    pub none-open : unit_told o (kept.disc.units o) ≡ None
        → is_older system kept own.terminal told o m ≡ false
    none-open e = by-none (kept.disc.units o) refl e

    -- else it is that of the open unit
    pub of-open : (older : unit.Unit) → unit_told o (kept.disc.units o) ≡ Some older
        → is_older system kept own.terminal told o m
        ≡ (comes_before system kept own older m && units_meet system kept own older)
    of-open older e = by-some (kept.disc.units o) older refl e ∙ tested-is m older

    module _ (older : unit.Unit) (at : unit_told o (kept.disc.units o) ≡ Some older) where
      pub not-before : comes_before system kept own older m ≡ false
          → false ≡ is_older system kept own.terminal told o m
      not-before e = sym (of-open older at ∙ ap (λ b. b && units_meet system kept own older) e)

      pub is-before : comes_before system kept own older m ≡ true → (passes : Bool)
          → passes ≡ units_meet system kept own older
          → passes ≡ is_older system kept own.terminal told o m
      is-before e passes is =
          is ∙ sym (of-open older at ∙ ap (λ b. b && units_meet system kept own older) e)
