-- Worked logs by computing: what is a run, and what is no step or block behind one.
use Rattle.std.proofs.Common.{◌≡◌, true, false, List}
use Rattle.std.proofs.lemmas.Bool.Decides.{not_from_Decides}
use Rattle.pw_event.specs.declared.event.Event.{Event}
use Rattle.pw_laws.proofs.decided.Blocks.{block, serial}
use Rattle.pw_laws.proofs.decided.Legality.{legal, run-sound}
use Rattle.pw_laws.specs.legal.Blocks.{is_legal_block, is_serial}
use Rattle.pw_laws.specs.legal.Legality.{is_legal, is_run}
use Rattle.pw_onecopy.specs.Blocks.{SerialBlock}
use Rattle.pw_onecopy.specs.OneCopy.{one_copy}
use Rattle.pw_onecopy.specs.Refreshes.{once, refreshes_of}
use Rattle.pw_paired.specs.Serial.{blocks}
use Rattle.pw_paired.specs.Shown.{refreshes}
use Rattle.pw_paired.specs.State.{starting}
use Rattle.pw_paired.specs.Step.{after}
use Rattle.pw_paired.specs.Units.{committed_files}
use Rattle.pw_worked_logs.proofs.DeckLaws.{behaves}
use Rattle.pw_worked_logs.specs.Deck.{WorkedSetting, deck}
use Rattle.pw_worked_logs.specs.Worked.{IsBarred, IsIllegalEntry, WorkedLog, WorksOut, worked_state}

-- a log works out where each part computes
pub works : (w : WorkedLog) → is_run (deck w.setting) w.log ≡ true
    → committed_files (deck w.setting) (after (deck w.setting) w.log) 0 ≡ w.stock
    → blocks (deck w.setting) w.log ≡ w.order
    → once (refreshes_of 0 (refreshes (deck w.setting) w.log)) ≡ w.first
    → once (refreshes_of 1 (refreshes (deck w.setting) w.log)) ≡ w.second
    → is_serial (deck w.setting) w.order ≡ true
    → (one_copy (deck w.setting) w.order).files 0 ≡ w.stock
    → ((one_copy (deck w.setting) w.order).terms 0).refreshes ≡ w.first
    → ((one_copy (deck w.setting) w.order).terms 1).refreshes ≡ w.second
    → WorksOut w
works w run stock order first second orders copy_stock copy_first copy_second = record {
  is_run = run-sound (deck w.setting) (starting (deck w.setting)) w.log run;
  stock = stock;
  order = order;
  first = first;
  second = second;
  is_serial = (serial (deck w.setting) w.order).0 orders;
  copy_stock = copy_stock;
  copy_first = copy_first;
  copy_second = copy_second;
}

-- behind a log that computes as a run, what the test refuses is no step
pub refused : (setting : WorkedSetting) (log : List Event) (entry : Event) → is_run (deck setting) log ≡ true
    → is_legal (deck setting) (worked_state setting log) entry ≡ false → IsIllegalEntry setting log entry
refused setting log entry run refuses =
    not_from_Decides _ (legal (deck setting) (behaves setting) log (run-sound (deck setting) (starting (deck setting)) log run) entry) refuses

-- behind a list of blocks, what the test refuses is not run
pub barred : (setting : WorkedSetting) (order : List SerialBlock) (next : SerialBlock)
    → is_legal_block (deck setting) (one_copy (deck setting) order) next ≡ false → IsBarred setting order next
barred setting order next bars = not_from_Decides _ (block (deck setting) (one_copy (deck setting) order) next) bars
