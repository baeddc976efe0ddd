use Rattle.std.proofs.Common.{refl}
use Rattle.pw_laws.specs.legal.Blocks.{is_legal_block}
use Rattle.pw_laws.specs.legal.Causes.{meets}
use Rattle.pw_laws.specs.legal.Legality.{is_legal}
use Rattle.pw_onecopy.specs.Update.{upd}
use Rattle.pw_worked_logs.proofs.Computed.{works}
use Rattle.pw_worked_logs.proofs.logs.loss_logs.Goals as goal
use Rattle.pw_worked_logs.specs.logs.Losses as losses

pub returns : goal.returns
unfolding upd is_legal is_legal_block meets
returns c = record {
  primary_fails_before_backup = works losses.primary_fails_before_backup refl refl refl refl refl refl refl refl refl;
  pair_lost_while_raising = works losses.pair_lost_while_raising refl refl refl refl refl refl refl refl refl;
  pair_lost_while_down = works losses.pair_lost_while_down refl refl refl refl refl refl refl refl refl;
  pair_lost_with_cause = works losses.pair_lost_with_cause refl refl refl refl refl refl refl refl refl;
  pair_lost_with_two_units = works losses.pair_lost_with_two_units refl refl refl refl refl refl refl refl refl;
}
