use Rattle.std.proofs.Common.{[], ◌∷◌, refl}
use Rattle.pw_laws.specs.legal.Blocks.{is_legal_block}
use Rattle.pw_onecopy.specs.Blocks.{Out, Attempted, Left, Restarted}
use Rattle.pw_onecopy.specs.Update.{upd}
use Rattle.pw_worked_logs.proofs.Computed.{barred}
use Rattle.pw_worked_logs.proofs.refused.barred_blocks.Goals as goal
use Rattle.pw_worked_logs.specs.logs.Takeovers.{takeover_after_commit}
use Rattle.pw_worked_logs.specs.logs.Units.{redo_until_suspended}

pub returns : goal.returns
unfolding upd is_legal_block
returns c = record {
  restart_at_the_limit = barred redo_until_suspended.setting (Out 0 ∷ Attempted 0 1 Restarted 5 ∷ []) (Attempted 0 1 Restarted 5) refl;
  out_behind_left = barred takeover_after_commit.setting (Out 0 ∷ Attempted 0 1 Left 1 ∷ []) (Out 0) refl;
  attempt_behind_left = barred takeover_after_commit.setting (Out 0 ∷ Attempted 0 1 Left 0 ∷ []) (Attempted 0 1 Left 0) refl;
}
