use Rattle.std.proofs.Common.{refl}
use Rattle.pw_laws.specs.legal.Blocks.{is_legal_block}
use Rattle.pw_laws.specs.legal.Causes.{meets}
use Rattle.pw_laws.specs.legal.Legality.{is_legal}
use Rattle.pw_onecopy.specs.Update.{upd}
use Rattle.pw_worked_logs.proofs.Computed.{works}
use Rattle.pw_worked_logs.proofs.logs.lock_logs.Goals as goal
use Rattle.pw_worked_logs.specs.logs.Locks as locks

pub returns : goal.returns
unfolding upd is_legal is_legal_block meets
returns c = record {
  older_unit_wins_version_1 = works locks.older_unit_wins refl refl refl refl refl refl refl refl refl;
  shared_readers_version_2 = works locks.shared_readers refl refl refl refl refl refl refl refl refl;
  suspended_at_restart_limit_version_1 = works locks.suspended_version_1 refl refl refl refl refl refl refl refl refl;
  suspended_at_restart_limit_version_2 = works locks.suspended_version_2 refl refl refl refl refl refl refl refl refl;
  span_lock_refuses_younger_write = works locks.span_lock refl refl refl refl refl refl refl refl refl;
  locks_outlive_reply = works locks.locks_outlive_reply refl refl refl refl refl refl refl refl refl;
  with_lock_reads_exclusive = works locks.with_lock_reads_exclusive refl refl refl refl refl refl refl refl refl;
  next_with_lock_reaches_the_found = works locks.next_with_lock_reaches_the_found refl refl refl refl refl refl refl refl refl;
  next_with_lock_goes_no_further = works locks.next_with_lock_goes_no_further refl refl refl refl refl refl refl refl refl;
}
