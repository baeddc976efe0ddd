-- The report of a log, and what it says of the one-copy machine.
use Rattle.std.specs.Prelude.{ℕ, List, map}
use Rattle.pw_code.specs.declared.system.System.{System}
use Rattle.pw_event.specs.declared.event.Event.{Event}
use Rattle.pw_report_text.specs.Listing.{refreshes_counted_once, files_part, report_of}
use Rattle.pw_onecopy.specs.Behaviour.{Behaviour}
use Rattle.pw_onecopy.specs.OneCopy.{Machine, one_copy}
use Rattle.pw_serial_order.specs.Order.{told}
use Rattle.pw_paired.specs.Serial.{blocks}
use Rattle.pw_paired.specs.Shown.{refreshes}
use Rattle.pw_paired.specs.Step.{after, is_finished}
use Rattle.pw_paired.specs.Units.{committed_files}

-- what is printed of a log: its serial order, its refreshes, the committed records, and itself
abbrev pub printed : System → Behaviour → List Event → List ℕ
printed system sys log =
    report_of system (map told (blocks sys log)) (refreshes_counted_once (refreshes sys log))
    (committed_files sys (after sys log)) log (is_finished sys (after sys log))

-- the one-copy machine behind the serial order of a log
abbrev pub machine_of : Behaviour → List Event → Machine
machine_of sys log = one_copy sys (blocks sys log)

-- the report of a log: its SCREENS and FILES are those of the one-copy machine
abbrev pub report_text : System → Behaviour → List Event → List ℕ
report_text system sys log =
    report_of system (map told (blocks sys log)) (λ t. ((machine_of sys log).terms t).refreshes)
    (machine_of sys log).files log (is_finished sys (after sys log))

-- its FILES
abbrev pub files_text : System → Behaviour → List Event → List ℕ
files_text system sys log = files_part system (machine_of sys log).files
