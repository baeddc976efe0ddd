use Rattle.pw_code.specs.declared.file.FileOp.TheVariants.{Read, Rewrite, Write}
use Rattle.pw_code.specs.declared.lock.LockMode.TheVariants.{Exclusive, Shared}
use Rattle.pw_code.specs.declared.lock.LockRule.TheVariants.{AllExclusive}
use Rattle.pw_event.specs.declared.event.Cause.TheVariants as cause
use Rattle.pw_event.specs.declared.event.Ending.TheVariants.{Suspended}
use Rattle.pw_event.specs.declared.event.Event.TheVariants.{Begin, End, File, Restart, Take}
use Rattle.pw_laws.specs.legal.Causes.{meets}
use Rattle.pw_laws.specs.legal.Legality.{is_legal}
use Rattle.pw_onecopy.specs.Update.{upd}
use Rattle.pw_worked_logs.proofs.Computed.{refused}
use Rattle.pw_worked_logs.proofs.refused.refused_locks.Goals as goal
use Rattle.pw_worked_logs.specs.logs.Locks.{locks_outlive_reply, next_with_lock_reaches_the_found, older_unit_wins, shared_readers, span_lock, two_increment, with_lock_reads_exclusive}
use Rattle.std.proofs.Common.{refl, take}

pub returns : goal.returns
unfolding upd is_legal meets
returns c = record {
  shared_readers_rewrite_20 = refused shared_readers.setting (take 19 shared_readers.log) (File 0 1 Rewrite Exclusive 0 0) refl refl;
  restart_without_conflict_19 = refused shared_readers.setting (take 18 shared_readers.log) (Restart 1 1 (cause.Older 0 1)) refl refl;
  begin_while_awaited_is_open_21 = refused shared_readers.setting (take 20 shared_readers.log) (Begin 1 1 1) refl refl;
  second_process_while_first_is_free_16 = refused shared_readers.setting (take 15 shared_readers.log) (Take 0 2 0) refl refl;
  span_lock_write_20 = refused span_lock.setting (take 19 span_lock.log) (File 0 2 Write Exclusive 0 0) refl refl;
  span_lock_older_restarts_20 = refused span_lock.setting (take 19 span_lock.log) (Restart 0 1 (cause.Older 1 1)) refl refl;
  with_lock_read_19 = refused with_lock_reads_exclusive.setting (take 18 with_lock_reads_exclusive.log) (File 0 2 Read Exclusive 0 0) refl refl;
  next_with_lock_read_22 = refused next_with_lock_reaches_the_found.setting (take 21 next_with_lock_reaches_the_found.log) (File 0 1 Read Shared 0 0) refl refl;
  read_of_a_locked_record_22 = refused locks_outlive_reply.setting (take 21 locks_outlive_reply.log) (File 0 1 Read Shared 0 0) refl refl;
  restart_beyond_the_limit_19 = refused (two_increment 0 AllExclusive) (take 18 older_unit_wins.log) (Restart 1 1 (cause.Older 0 1)) refl refl;
  suspended_below_the_limit_19 = refused (two_increment 1 AllExclusive) (take 18 older_unit_wins.log) (End 1 (Suspended (cause.Older 0 1))) refl refl;
}
