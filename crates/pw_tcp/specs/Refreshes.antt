-- Refresh numbers by the registers of a context.
use Rattle.std.specs.Prelude.{◌≡◌, ℕ}
use Rattle.pw_code.specs.declared.context.Context.{Context}
use Rattle.pw_onecopy.specs.Path.{Standing, number_at}

-- phase and attempt of a context are those of the next refresh number where a path stands, and the
-- screen was shown so often there
pub record StandsAt (context : Context) (at : Standing) : Type 0 where
  pub phase : context.phase ≡ (number_at at at.within).phase
  pub attempt : context.attempt ≡ (number_at at at.within).attempt
  pub shown : context.shown ≡ at.shown
