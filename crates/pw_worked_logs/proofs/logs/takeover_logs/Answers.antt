use Rattle.std.proofs.Common.{refl}
use Rattle.pw_laws.specs.legal.Blocks.{is_legal_block}
use Rattle.pw_laws.specs.legal.Causes.{meets}
use Rattle.pw_laws.specs.legal.Legality.{is_legal}
use Rattle.pw_onecopy.specs.Update.{upd}
use Rattle.pw_worked_logs.proofs.Computed.{works}
use Rattle.pw_worked_logs.proofs.logs.takeover_logs.Goals as goal
use Rattle.pw_worked_logs.specs.logs.Takeovers as takeovers

pub returns : goal.returns
unfolding upd is_legal is_legal_block meets
returns c = record {
  takeover_after_commit = works takeovers.takeover_after_commit refl refl refl refl refl refl refl refl refl;
  takeover_answers_kept_reply = works takeovers.takeover_answers_kept_reply refl refl refl refl refl refl refl refl refl;
  takeover_restarts_open_unit = works takeovers.takeover_restarts_open_unit refl refl refl refl refl refl refl refl refl;
  takeover_before_commit = works takeovers.takeover_before_commit refl refl refl refl refl refl refl refl refl;
  takeover_frees_process = works takeovers.takeover_frees_process refl refl refl refl refl refl refl refl refl;
  takeover_passes_stale_end = works takeovers.takeover_passes_stale_end refl refl refl refl refl refl refl refl refl;
  takeover_repeats_screen = works takeovers.takeover_repeats_screen refl refl refl refl refl refl refl refl refl;
  backup_failure_repeats_no_screen = works takeovers.backup_failure_repeats_no_screen refl refl refl refl refl refl refl refl refl;
  backup_failure_in_unit = works takeovers.backup_failure_in_unit refl refl refl refl refl refl refl refl refl;
  failures_without_effect = works takeovers.failures_without_effect refl refl refl refl refl refl refl refl refl;
  backup_failure_in_transaction = works takeovers.backup_failure_in_transaction refl refl refl refl refl refl refl refl refl;
}
