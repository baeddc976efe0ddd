use Rattle.std.proofs.Common.{◌≡◌, ◌∙◌, false, refl, sym}
use Rattle.std.proofs.lemmas.Bool.{false≢true}
use Rattle.pw_event.specs.declared.event.Cause.TheVariants as cause
use Rattle.pw_event.specs.declared.event.Event.TheVariants.{Restart}
use Rattle.pw_laws.proofs.decided.Legality.{legality}
use Rattle.pw_laws.specs.legal.Causes.{meets}
use Rattle.pw_laws.specs.legal.Legality.{is_legal}
use Rattle.pw_onecopy.specs.Update.{upd}
use Rattle.pw_worked_logs.proofs.refused.states_of_no_run.Goals as goal
use Rattle.pw_worked_logs.specs.Deck.{deck}
use Rattle.pw_worked_logs.specs.logs.Takeovers.{takeover_restarts_open_unit}
use Rattle.pw_worked_logs.specs.Refused.{raising_before_restart}

refuses : is_legal (deck takeover_restarts_open_unit.setting) raising_before_restart (Restart 0 1 (cause.Takeover 0)) ≡ false
unfolding upd is_legal meets
refuses = refl

pub returns : goal.returns
unfolding upd
returns c = record {
  takeover_cause_while_raising = λ l.
      absurd (false≢true (sym refuses ∙ (legality (deck takeover_restarts_open_unit.setting) raising_before_restart (Restart 0 1 (cause.Takeover 0))).1 (λ conflict. absurd (false≢true conflict)) l));
  cause_of_another_unit = refl;
}
