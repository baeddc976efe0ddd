use Rattle.std.proofs.Common.{refl}
use Rattle.pw_laws.specs.legal.Blocks.{is_legal_block}
use Rattle.pw_laws.specs.legal.Causes.{meets}
use Rattle.pw_laws.specs.legal.Legality.{is_legal}
use Rattle.pw_onecopy.specs.Update.{upd}
use Rattle.pw_worked_logs.proofs.Computed.{works}
use Rattle.pw_worked_logs.proofs.logs.unit_logs.Goals as goal
use Rattle.pw_worked_logs.specs.logs.Units as units

pub returns : goal.returns
unfolding upd is_legal is_legal_block meets
returns c = record {
  two_displays = works units.two_displays refl refl refl refl refl refl refl refl refl;
  duplicate_missing_and_end_of_file = works units.duplicate_missing_and_end_of_file refl refl refl refl refl refl refl refl refl;
  missing_records = works units.missing_records refl refl refl refl refl refl refl refl refl;
  each_operation = works units.each_operation refl refl refl refl refl refl refl refl refl;
  open_unit_is_left = works units.open_unit_is_left refl refl refl refl refl refl refl refl refl;
  committed_transaction = works units.committed_transaction refl refl refl refl refl refl refl refl refl;
  dropped_transaction = works units.dropped_transaction refl refl refl refl refl refl refl refl refl;
  redo_until_suspended = works units.redo_until_suspended refl refl refl refl refl refl refl refl refl;
  begins_within = works units.begins_within refl refl refl refl refl refl refl refl refl;
  server_breaks = works units.server_breaks refl refl refl refl refl refl refl refl refl;
}
