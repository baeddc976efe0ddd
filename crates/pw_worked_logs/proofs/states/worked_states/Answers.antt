use Rattle.std.proofs.Common.{refl}
use Rattle.pw_onecopy.specs.Update.{upd}
use Rattle.pw_worked_logs.proofs.states.worked_states.Goals as goal

pub returns : goal.returns
unfolding upd
returns c = record {
  lost_while_down = refl;
  lost_with_cause = refl;
  lost_while_raising = refl;
  down = refl;
  one_send = refl;
  left_send = refl;
  left_transaction = refl;
  committed_transaction = refl;
  dropped_transaction = refl;
}
