-- Which cause is found for an open unit.
use Rattle.std.proofs.Common.{◌≡◌, ℕ, true, false, not, Option, Some, None, refl, ap, sym, subst, ◌∙◌}
use Rattle.std.proofs.lemmas.Bool.{and_from, and_parts, eq-eqb, eqb-true, lt-ltb}
use Rattle.pw_base.proofs.Plain.{refutes, some_is}
use Rattle.pw_code.specs.declared.system.System.{System}
use Rattle.pw_code.specs.declared.unit.Unit as unit
use Rattle.pw_event.specs.declared.event.Cause.{Cause}
use Rattle.pw_event.specs.declared.event.Cause.TheVariants.{Older, Takeover, Server, Redo}
use Rattle.pw_world_state.specs.Asked.{verb_in}
use Rattle.pw_world_state.specs.CauseTests.{kept_cause_holds}
use Rattle.pw_world_state.specs.Kept.{Kept}
use Rattle.pw_world_state.specs.PairTests.{is_gone}
use Rattle.pw_world_state.specs.TerminalTests.{can_where, seen_pair_of}
use Rattle.pw_laws.specs.legal.Values.{is_server_by, is_takeover_by, some_with}
use Rattle.pw_laws.specs.legal.Verbs.{asks_redo}
use Rattle.pw_entry_tests.proofs.Meets.{open-of-unit}
use Rattle.pw_entry_tests.proofs.OlderTest.{is-first, is-left, none-open, of-open}
use Rattle.pw_entry_tests.proofs.Opened.{unit-found}
use Rattle.pw_entry_tests.specs.Causes.{HoldsFor, IsCauseFound, IsOlder, IsOlderCause, IsOlderFound, IsOneFound, IsUnit, comes_before, units_meet}
use Rattle.pw_entry_tests.specs.Known.{IsKnown}
use Rattle.pw_tmf.specs.Leaving.{unit_told}
use Rattle.pw_tmf.specs.Told.{ToldUnit}
use Rattle.pw_tmf.specs.Units.{IsOpen}

-- ---- what is pending

by-takeover : (p : ℕ) (pending : Option Cause) → some_with (is_takeover_by p) pending ≡ true
    → pending ≡ Some (Takeover p)
by-takeover p None e = cc e
by-takeover p (Some (Takeover q)) e = ap (λ j. Some (Takeover j)) (eqb-true q p e)
by-takeover p (Some (Older o m)) e = cc e
by-takeover p (Some (Server k)) e = cc e
by-takeover p (Some Redo) e = cc e

by-server : (k : ℕ) (pending : Option Cause) → some_with (is_server_by k) pending ≡ true
    → pending ≡ Some (Server k)
by-server k None e = cc e
by-server k (Some (Server l)) e = ap (λ j. Some (Server j)) (eqb-true l k e)
by-server k (Some (Older o m)) e = cc e
by-server k (Some (Takeover q)) e = cc e
by-server k (Some Redo) e = cc e

module _ (system : System) (kept : Kept) (known : IsKnown system kept) (own : unit.Unit)
    (is : IsUnit system kept own) where
  -- what holds for it holds for what the disc tells of it
  told-of : IsOpen kept.disc own
  told-of = open-of-unit system kept known own is

  holds-told : (cause : Cause) → HoldsFor system kept own cause
      → kept_cause_holds system kept own.terminal told-of.open_unit cause ≡ true
  holds-told cause h = h told-of.open_unit told-of.here

  -- what fails for it does not hold
  fails : (cause : Cause)
      → ((told : ToldUnit) → kept.disc.units own.terminal ≡ Some told
      → false ≡ kept_cause_holds system kept own.terminal told cause)
      → HoldsFor system kept own cause → ⊥
  fails cause none h = refutes (holds-told cause h) (sym (none told-of.open_unit told-of.here))

  -- where the only pending cause fails, no pending one holds
  pub only-pending : (cause : Cause) → (kept.terminals own.terminal).pending ≡ Some cause
      → ((told : ToldUnit) → kept.disc.units own.terminal ≡ Some told
      → false ≡ kept_cause_holds system kept own.terminal told cause)
      → IsOneFound (λ one. (kept.terminals own.terminal).pending ≡ Some one) system kept own None
  only-pending cause at none other e =
      fails other
      (subst
      (λ one. (told : ToldUnit) → kept.disc.units own.terminal ≡ Some told
      → false ≡ kept_cause_holds system kept own.terminal told one)
      (some_is (sym at ∙ e)) none)

  -- ---- an older unit

  older-parts : (o m : ℕ) (older : unit.Unit) → unit_told o (kept.disc.units o) ≡ Some older
      → HoldsFor system kept own (Older o m)
      → (comes_before system kept own older m ≡ true) × (units_meet system kept own older ≡ true)
  older-parts o m older at h =
      and_parts _ _
      (sym (of-open system kept own is told-of.open_unit told-of.here o m older at)
      ∙ holds-told (Older o m) h)

  -- none is older where no member of its pair is left
  gone-fails : (o m : ℕ) (it : Option unit.Unit) → unit_told o (kept.disc.units o) ≡ it
      → is_gone (seen_pair_of system kept own.terminal).mode ≡ true
      → HoldsFor system kept own (Older o m) → ⊥
  gone-fails o m None at gone h =
      refutes (holds-told (Older o m) h)
      (none-open system kept own is told-of.open_unit told-of.here o m at)
  gone-fails o m (Some older) at gone h =
      refutes (is-left system kept own older m (older-parts o m older at h).0) (ap not gone)

  pub gone-found : is_gone (seen_pair_of system kept own.terminal).mode ≡ true
      → IsOneFound IsOlderCause system kept own None
  gone-found gone (Older o m) which h = gone-fails o m (unit_told o (kept.disc.units o)) refl gone h
  gone-found gone (Takeover p) which h = which
  gone-found gone (Server k) which h = which
  gone-found gone Redo which h = which

  -- none is older that it meets
  none-meets : IsOlderFound system kept own (units_meet system kept own) None
      → (o m : ℕ) (it : Option unit.Unit)
      → unit_told o (kept.disc.units o) ≡ it → HoldsFor system kept own (Older o m) → ⊥
  none-meets none o m None at h =
      refutes (holds-told (Older o m) h)
      (none-open system kept own is told-of.open_unit told-of.here o m at)
  none-meets none o m (Some older) at h =
      let both = older-parts o m older at h in
      none older
      (record {
        is_open = unit-found system kept known o older at;
        first = is-first system kept own older m both.0;
        meets = both.1;
      })

  pub none-found : IsOlderFound system kept own (units_meet system kept own) None
      → IsOneFound IsOlderCause system kept own None
  none-found none (Older o m) which h = none-meets none o m (unit_told o (kept.disc.units o)) refl h
  none-found none (Takeover p) which h = which
  none-found none (Server k) which h = which
  none-found none Redo which h = which

  -- the one that it meets is the cause
  pub older-found : (older : unit.Unit) → is_gone (seen_pair_of system kept own.terminal).mode ≡ false
      → IsOlder system kept own (units_meet system kept own) older
      → HoldsFor system kept own (Older older.terminal older.number)
  older-found older left h told here =
      of-open system kept own is told here older.terminal older.number older h.is_open.open_unit
      ∙ and_from _ _
      (and_from _ _ (eq-eqb older.number older.number refl)
      (and_from _ _ (lt-ltb older.birth own.birth h.first) (ap not left)))
      h.meets

  -- ---- all causes
  module _
      (pending : IsOneFound (λ one. (kept.terminals own.terminal).pending ≡ Some one) system kept own None)
      (redo : can_where system kept own.terminal (λ context. asks_redo (verb_in system context))
      ≡ false) where
    none-left : IsOneFound IsOlderCause system kept own None → (cause : Cause)
        → HoldsFor system kept own cause → ⊥
    none-left older (Older o m) h = older (Older o m) tt h
    none-left older (Takeover p) h =
        pending (Takeover p)
        (by-takeover p (kept.terminals own.terminal).pending
        (and_parts _ _ (holds-told (Takeover p) h)).0) h
    none-left older (Server k) h =
        pending (Server k)
        (by-server k (kept.terminals own.terminal).pending (and_parts _ _ (holds-told (Server k) h)).0)
        h
    none-left older Redo h = refutes (holds-told Redo h) redo

    pub all-found : (found : Option Cause) → IsOneFound IsOlderCause system kept own found
        → IsCauseFound system kept own found
    all-found None none = none-left none
    all-found (Some cause) h = h
