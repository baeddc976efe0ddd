-- What a report prints of records that meet an invariant.
use Rattle.std.specs.Prelude.{◌≡◌, List, map}
use Rattle.pw_code.specs.declared.system.System.{System}
use Rattle.pw_event.specs.declared.event.Event.{Event}
use Rattle.pw_invariants.specs.Units.{FileRecords}
use Rattle.pw_onecopy.specs.Behaviour.{Behaviour}
use Rattle.pw_paired.specs.Serial.{blocks}
use Rattle.pw_paired.specs.Step.{after, is_finished}
use Rattle.pw_report_text.specs.Listing.{files_part, report_of}
use Rattle.pw_report_text.specs.Meaning.{files_text, machine_of, report_text}
use Rattle.pw_serial_order.specs.Order.{told}

-- the records that the report of a log prints as its FILES, and those that `trail` prints, meet the invariant
pub record PrintsMeeting (holds : FileRecords → Type 0) (system : System) (sys : Behaviour)
    (log : List Event) : Type 0 where
  pub records : FileRecords
  pub meet : holds records
  pub report : report_text system sys log
      ≡ report_of system (map told (blocks sys log)) (λ t. ((machine_of sys log).terms t).refreshes)
      records log (is_finished sys (after sys log))
  pub files : files_text system sys log ≡ files_part system records
