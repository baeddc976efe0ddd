-- Whether a unit of which an attempt runs may restart, or its terminal be suspended.
use Rattle.std.proofs.Common.{◌≡◌, ℕ, ◌==◌, ◌&&◌, nat_lt, Bool, true, false, Option, Some, None, refl, ap, ap₂, sym, subst, ◌∙◌, cond}
use Rattle.std.proofs.lemmas.Bool.{and_right}
use Rattle.pw_code.specs.declared.system.System.{System}
use Rattle.pw_code.specs.declared.unit.Unit as unit
use Rattle.pw_event.specs.declared.event.Cause.{Cause}
use Rattle.pw_world_state.specs.CauseTests.{kept_cause_holds, may_restart, may_suspend, most_restarts}
use Rattle.pw_world_state.specs.Kept.{Kept}
use Rattle.pw_laws.specs.legal.Values.{some_with}
use Rattle.pw_entry_tests.proofs.Opened.{IsRun, run-terminal}
use Rattle.pw_entry_tests.specs.Causes.{running_told}
use Rattle.pw_tmf.specs.Told.{ToldUnit}

module _ (system : System) (kept : Kept) (t : ℕ) where
  -- ---- no attempt runs
  idle-at : (it : Option ToldUnit) (test : ToldUnit → Bool) → running_told t it ≡ None
      → ((own : ToldUnit) → own.running ≡ false → test own ≡ false) → some_with test it ≡ false
  idle-at None test e stays = refl
  idle-at (Some own) test e stays = stays own (off own.running _ e)
    where
      off : {A : Type 0} (b : Bool) (x : A) → cond b (Some x) None ≡ None → b ≡ false
      off true x e = cc e
      off false x e = refl

  middle : (a b c d : Bool) → b ≡ false → (a && ((b && c) && d)) ≡ false
  middle true b c d e = ap (λ x. (x && c) && d) e
  middle false b c d e = refl

  pub idle-restart : running_told t (kept.disc.units t) ≡ None → (n : ℕ) (cause : Cause)
      → may_restart system kept t n cause ≡ false
  idle-restart e n cause =
      idle-at (kept.disc.units t) _ e (λ own still.
      middle (own.number == n) own.running (kept_cause_holds system kept t own cause)
      (nat_lt (kept.terminals t).restarts (most_restarts system t)) still)

  pub idle-suspend : running_told t (kept.disc.units t) ≡ None → (cause : Cause)
      → may_suspend system kept t cause ≡ false
  idle-suspend e cause =
      idle-at (kept.disc.units t) _ e (λ own still.
      middle true own.running (kept_cause_holds system kept t own cause)
      ((kept.terminals t).restarts == most_restarts system t) still)

  and-one : (a b : Bool) → b ≡ true → (a && b) ≡ a
  and-one true b e = e
  and-one false b e = refl

  inner : (a b c : Bool) → (a && c) ≡ true → (a && (b && c)) ≡ b
  inner true true c e = e
  inner true false c e = refl
  inner false b c e = cc e

  outer : (a b c : Bool) → (a && c) ≡ false → (a && (b && c)) ≡ false
  outer true true c e = e
  outer true false c e = refl
  outer false b c e = refl

  -- ---- an attempt of the unit runs
  module _ (own : unit.Unit) (run : IsRun kept t own) where
    runs-and : (b : Bool) → (run.told.running && b) ≡ b
    runs-and b = ap (λ r. r && b) run.runs

    pub restart-is : (n : ℕ) (cause : Cause) → may_restart system kept t n cause
        ≡ (own.number == n
        && (kept_cause_holds system kept t run.told cause
        && nat_lt (kept.terminals t).restarts (most_restarts system t)))
    restart-is n cause =
        ap (some_with
        (λ (it : ToldUnit). it.number == n && ((it.running && kept_cause_holds system kept t it cause)
        && nat_lt (kept.terminals t).restarts (most_restarts system t)))) run.here
        ∙ ap₂ (λ m b. m == n && (b && nat_lt (kept.terminals t).restarts (most_restarts system t)))
        (ap (λ (u : unit.Unit). u.number) run.named) (runs-and (kept_cause_holds system kept t run.told cause))

    pub suspend-is : (cause : Cause) → may_suspend system kept t cause
        ≡ (kept_cause_holds system kept t run.told cause && (kept.terminals t).restarts == most_restarts system t)
    suspend-is cause =
        ap (some_with
        (λ (it : ToldUnit). (it.running && kept_cause_holds system kept t it cause) && (kept.terminals t).restarts
        == most_restarts system t)) run.here
        ∙ ap (λ b. b && (kept.terminals t).restarts == most_restarts system t)
        (runs-and (kept_cause_holds system kept t run.told cause))

    -- what is known of the unit by its own terminal is so of this one
    pub holds-is : (passes : Bool) (cause : Cause)
        → ((told : ToldUnit) → kept.disc.units own.terminal ≡ Some told
        → passes ≡ kept_cause_holds system kept own.terminal told cause)
        → passes ≡ kept_cause_holds system kept t run.told cause
    holds-is passes cause h =
        subst
        (λ j. (told : ToldUnit) → kept.disc.units j ≡ Some told
        → passes ≡ kept_cause_holds system kept j told cause)
        (run-terminal t kept own run) h run.told run.here

    -- ---- by the tests
    pub restarts : (n : ℕ) (cause : Cause)
        → (own.number == n && nat_lt (kept.terminals t).restarts (most_restarts system t)) ≡ true
        → (passes : Bool)
        → ((told : ToldUnit) → kept.disc.units own.terminal ≡ Some told
        → passes ≡ kept_cause_holds system kept own.terminal told cause)
        → passes ≡ may_restart system kept t n cause
    restarts n cause left passes h =
        holds-is passes cause h
        ∙ (sym (inner (own.number == n) (kept_cause_holds system kept t run.told cause)
        (nat_lt (kept.terminals t).restarts (most_restarts system t)) left)
        ∙ sym (restart-is n cause))

    pub restarts-not : (n : ℕ) (cause : Cause)
        → (own.number == n && nat_lt (kept.terminals t).restarts (most_restarts system t)) ≡ false
        → false ≡ may_restart system kept t n cause
    restarts-not n cause fails =
        sym (restart-is n cause
        ∙ outer (own.number == n) (kept_cause_holds system kept t run.told cause)
        (nat_lt (kept.terminals t).restarts (most_restarts system t)) fails)

    pub suspends : (cause : Cause) → ((kept.terminals t).restarts == most_restarts system t) ≡ true
        → (passes : Bool)
        → ((told : ToldUnit) → kept.disc.units own.terminal ≡ Some told
        → passes ≡ kept_cause_holds system kept own.terminal told cause)
        → passes ≡ may_suspend system kept t cause
    suspends cause most passes h =
        holds-is passes cause h
        ∙ (sym (and-one (kept_cause_holds system kept t run.told cause) _ most) ∙ sym (suspend-is cause))

    pub suspends-not : (cause : Cause) → ((kept.terminals t).restarts == most_restarts system t) ≡ false
        → false ≡ may_suspend system kept t cause
    suspends-not cause fails =
        sym (suspend-is cause
        ∙ and_right (kept_cause_holds system kept t run.told cause)
        ((kept.terminals t).restarts == most_restarts system t) fails)
