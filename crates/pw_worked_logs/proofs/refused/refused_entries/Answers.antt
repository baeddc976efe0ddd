use Rattle.pw_code.specs.declared.file.FileOp.TheVariants.{Read}
use Rattle.pw_code.specs.declared.lock.LockMode.TheVariants.{Shared}
use Rattle.pw_event.specs.declared.event.Cause.TheVariants as cause
use Rattle.pw_event.specs.declared.event.Ending.TheVariants.{NoEntries}
use Rattle.pw_event.specs.declared.event.Event.TheVariants.{Again, Begin, Commit, End, FailTcp, File, Key, Raise, Restart, Show, Take, Takeover}
use Rattle.pw_event.specs.declared.script.FailLine.TheVariants as line
use Rattle.pw_laws.specs.legal.Causes.{meets}
use Rattle.pw_laws.specs.legal.Legality.{is_legal}
use Rattle.pw_onecopy.specs.Update.{upd}
use Rattle.pw_worked_logs.proofs.Computed.{refused}
use Rattle.pw_worked_logs.proofs.refused.refused_entries.Goals as goal
use Rattle.pw_worked_logs.specs.Worked.{one_terminal}
use Rattle.pw_worked_logs.specs.logs.Losses.{pair_lost_while_down}
use Rattle.pw_worked_logs.specs.logs.Servers.{server_cause_waits_for_backup, server_failure_restarts_unit}
use Rattle.pw_worked_logs.specs.logs.Takeovers.{takeover_after_commit, takeover_answers_kept_reply, takeover_frees_process, takeover_restarts_open_unit, transaction}
use Rattle.pw_worked_logs.specs.logs.Units.{redo_until_suspended}
use Rattle.std.proofs.Common.{◌∷◌, ◌++◌, refl, [], take, true}

pub returns : goal.returns
unfolding upd is_legal meets
returns c = record {
  show_of_another_number_14 = refused takeover_after_commit.setting (take 13 takeover_after_commit.log) (Show 0 0 0 1) refl refl;
  entry_line_before_its_turn_15 = refused takeover_after_commit.setting (take 14 takeover_after_commit.log) (Key 0 2) refl refl;
  commit_before_end_checkpoint_16 = refused takeover_after_commit.setting (take 15 takeover_after_commit.log) (Commit 0 1) refl refl;
  end_while_failure_is_due_19 = refused takeover_after_commit.setting (take 18 takeover_after_commit.log) (End 0 NoEntries) refl refl;
  raise_before_takeover_20 = refused takeover_after_commit.setting (take 19 takeover_after_commit.log) (Raise 0) refl refl;
  begin_of_ended_unit_19 = refused takeover_answers_kept_reply.setting (take 18 takeover_answers_kept_reply.log) (Begin 0 1 0) refl refl;
  raise_before_restart_17 = refused takeover_restarts_open_unit.setting (take 16 takeover_restarts_open_unit.log) (Raise 0) refl refl;
  request_taken_while_down_10 = refused takeover_frees_process.setting (take 8 takeover_frees_process.log ++ FailTcp 0 true 1 ∷ []) (Take 0 1 0) refl refl;
  operation_while_down_11 = refused takeover_frees_process.setting (take 10 takeover_frees_process.log) (File 0 1 Read Shared 0 0) refl refl;
  takeover_of_a_lost_pair_15 = refused pair_lost_while_down.setting (take 14 pair_lost_while_down.log) (Takeover 0) refl refl;
  again_of_a_new_unit_5 = refused server_failure_restarts_unit.setting (take 4 server_failure_restarts_unit.log) (Again 0 1) refl refl;
  server_cause_without_backup_12 = refused server_cause_waits_for_backup.setting (take 11 server_cause_waits_for_backup.log) (Restart 0 1 (cause.Server 1)) refl refl;
  failure_line_0 = refused (one_terminal transaction (line.Tcp 0 true 0 ∷ [])) [] (FailTcp 0 true 0) refl refl;
  failure_of_a_finished_log_1 = refused (record redo_until_suspended.setting { programs = []; script = line.Tcp 0 true 0 ∷ [] }) [] (FailTcp 0 true 1) refl refl;
}
