-- RESTART and END SUSPENDED of a terminal, by whether an attempt of its unit runs and a cause holds for it.
use Rattle.std.proofs.Common.{◌≡◌, ℕ, ◌<◌, Bool, true, false, length, Option, Some, None, refl, sym, subst, ◌∙◌}
use Rattle.std.proofs.lemmas.Bool.{and_from, and_left, and_parts, and_right, eq-eqb, false_from_ne_true, lt-ltb}
use Rattle.std.specs.Prelude.{IsSome}
use Rattle.pw_code.specs.declared.context.Context.{Context}
use Rattle.pw_code.specs.declared.system.System.{System}
use Rattle.pw_code.specs.declared.unit.Unit as unit
use Rattle.pw_event.specs.declared.event.Cause.{Cause}
use Rattle.pw_event.specs.declared.event.Cause.TheVariants.{Older, Takeover, Server, Redo}
use Rattle.pw_event.specs.declared.event.Ending.TheVariants.{Suspended}
use Rattle.pw_event.specs.declared.event.Event.{Event}
use Rattle.pw_event.specs.declared.event.Event.TheVariants.{End, Restart}
use Rattle.pw_world_state.specs.Asked.{verb_in}
use Rattle.pw_world_state.specs.CauseTests.{kept_cause_holds, most_restarts, unit_named}
use Rattle.pw_world_state.specs.Kept.{Kept}
use Rattle.pw_world_state.specs.Meeting.{IsRedoRead}
use Rattle.pw_world_state.specs.PairTests.{may_lose}
use Rattle.pw_laws.specs.legal.Values.{some_with}
use Rattle.pw_laws.specs.legal.Verbs.{asks_redo}
use Rattle.pw_actor_queue.specs.declared.actor.Actor.TheVariants.{Terminal}
use Rattle.pw_entry_tests.proofs.Found.{found-of-terminal}
use Rattle.pw_entry_tests.proofs.NoStep.{no-step-of-terminal}
use Rattle.pw_entry_tests.proofs.Opened.{IsRun}
use Rattle.pw_entry_tests.proofs.Runs.{restart-is, suspend-is}
use Rattle.pw_entry_tests.specs.Causes.{HoldsFor, IsCauseFound}
use Rattle.pw_entry_tests.specs.Steps.{HasNoCausedStep, IsFoundOr, IsStepFound, IsStepOf}
use Rattle.pw_world_state.specs.NextSteps.{HasNoVerbStep}
use Rattle.pw_tmf.specs.Told.{ToldUnit}

-- what passes a test is there
some-there : {A : Type 0} (test : A → Bool) (o : Option A) → some_with test o ≡ true → IsSome o
some-there test None h = cc h
some-there test (Some x) h = refl

module _ (system : System) (kept : Kept) (t : ℕ) where
  -- ---- all steps of the terminal, where its verb allows none
  pub forced : HasNoVerbStep system kept t → may_lose system kept t ≡ false → (entry : Option Event)
      → IsFoundOr system kept t (HasNoCausedStep system kept t) entry → IsStepFound system kept (Terminal t) entry
  forced none lives None h = no-step-of-terminal system kept t none lives h
  forced none lives (Some entry) h = found-of-terminal system kept t entry h

  -- of a program that asks for a restart, its verb is there
  redo-read : (told : ToldUnit) (cause : Cause) → kept_cause_holds system kept t told cause ≡ true → IsRedoRead system kept t cause
  redo-read told (Older o m) h = tt
  redo-read told (Takeover p) h = tt
  redo-read told (Server k) h = tt
  redo-read told Redo h =
      λ can. some-there (λ (context : Context). asks_redo (verb_in system context)) (kept.terminals t).ready (and_parts _ _ h).1

  -- ---- an attempt of the unit runs
  module _ (own : unit.Unit) (run : IsRun kept t own) where
    holds-told : (cause : Cause) → HoldsFor system kept own cause → kept_cause_holds system kept t run.told cause ≡ true
    holds-told cause h = subst (λ (u : unit.Unit). HoldsFor system kept u cause) (sym run.named) h run.told run.here

    holds-for : (cause : Cause) → kept_cause_holds system kept t run.told cause ≡ true → HoldsFor system kept (unit_named t run.told) cause
    holds-for cause h other is =
        let same : run.told ≡ other = cc (sym run.here ∙ is) in subst (λ (x : ToldUnit). kept_cause_holds system kept t x cause ≡ true) same h

    fails : IsCauseFound system kept own None → (cause : Cause) → kept_cause_holds system kept t run.told cause ≡ false
    fails none cause =
        false_from_ne_true _ (λ h. none cause (subst (λ (u : unit.Unit). HoldsFor system kept u cause) run.named (holds-for cause h)))

    -- where no cause holds there is neither
    pub no-cause : IsCauseFound system kept own None → HasNoCausedStep system kept t
    no-cause none = record {
      restart = λ n cause. restart-is system kept t own run n cause ∙ and_right _ _ (and_left _ _ (fails none cause));
      suspend = λ cause. suspend-is system kept t own run cause ∙ and_left _ _ (fails none cause);
    }

    pub restart-step : t < length system.terminals → (cause : Cause) → HoldsFor system kept own cause
        → (kept.terminals t).restarts < most_restarts system t → IsStepOf system kept (Terminal t) (Restart t own.number cause)
    restart-step there cause h more =
        let passes = holds-told cause h in
        record {
          own = refl;
          there = there;
          read = redo-read run.told cause passes;
          passes =
              restart-is system kept t own run own.number cause
              ∙ and_from _ _ (eq-eqb own.number own.number refl)
              (and_from _ _ passes (lt-ltb (kept.terminals t).restarts (most_restarts system t) more));
        }

    pub suspend-step : t < length system.terminals → (cause : Cause) → HoldsFor system kept own cause
        → (kept.terminals t).restarts ≡ most_restarts system t → IsStepOf system kept (Terminal t) (End t (Suspended cause))
    suspend-step there cause h most =
        let passes = holds-told cause h in
        record {
          own = refl;
          there = there;
          read = redo-read run.told cause passes;
          passes =
              suspend-is system kept t own run cause
              ∙ and_from _ _ passes (eq-eqb (kept.terminals t).restarts (most_restarts system t) most);
        }
