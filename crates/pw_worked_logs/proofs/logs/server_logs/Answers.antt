use Rattle.std.proofs.Common.{refl}
use Rattle.pw_laws.specs.legal.Blocks.{is_legal_block}
use Rattle.pw_laws.specs.legal.Causes.{meets}
use Rattle.pw_laws.specs.legal.Legality.{is_legal}
use Rattle.pw_onecopy.specs.Update.{upd}
use Rattle.pw_worked_logs.proofs.Computed.{works}
use Rattle.pw_worked_logs.proofs.logs.server_logs.Goals as goal
use Rattle.pw_worked_logs.specs.logs.Servers as servers

pub returns : goal.returns
unfolding upd is_legal is_legal_block meets
returns c = record {
  server_failure_restarts_unit = works servers.server_failure_restarts_unit refl refl refl refl refl refl refl refl refl;
  failing_idle_process_changes_nothing = works servers.idle_process_fails refl refl refl refl refl refl refl refl refl;
  server_cause_waits_for_backup = works servers.server_cause_waits_for_backup refl refl refl refl refl refl refl refl refl;
}
