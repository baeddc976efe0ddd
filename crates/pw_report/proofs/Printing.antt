-- A report from equal parts is that of the log.
use Rattle.std.proofs.Common.{◌≡◌, ℕ, ◌<◌, ◌++◌, List, Bool, length, map, ap, ◌∙◌}
use Rattle.std.specs.Prelude.{codes}
use Rattle.pw_code.specs.declared.system.System.{System}
use Rattle.pw_event.specs.declared.event.Event.{Event}
use Rattle.pw_report_text.proofs.Printed.{files-same}
use Rattle.pw_report_text.specs.Lines.{last_line, line}
use Rattle.pw_report_text.specs.Listing.{refreshes_counted_once, files_part, log_part, records_in, report_of, screens_part, serial_part}
use Rattle.pw_report_text.specs.Meaning.{printed}
use Rattle.pw_onecopy.specs.Behaviour.{Behaviour}
use Rattle.pw_onecopy.specs.declared.refresh.Refresh.{Refresh}
use Rattle.pw_serial_order.specs.Order.{told}
use Rattle.pw_serial_order.specs.declared.block.Block.{Block}
use Rattle.pw_paired.specs.Serial.{blocks}
use Rattle.pw_paired.specs.Shown.{refreshes}
use Rattle.pw_paired.specs.Step.{after, is_finished}
use Rattle.pw_paired.specs.Units.{committed_files}

-- the FILES of lists that have the records of each file
pub part-same : (system : System) (files : List (List (List ℕ))) (records : ℕ → List (List ℕ))
    → ((f : ℕ) → f < length system.files → records_in files f ≡ records f) → files_part system (records_in files) ≡ files_part system records
part-same system files records same =
    ap (λ (text : List ℕ). line (codes "FILES") ++ text) (files-same system (records_in files) records (length system.files) same)

-- the whole text
pub whole-same : (system own : System) (sys : Behaviour) (log entries : List Event) (order : List Block) (screens : List Refresh)
    (files : List (List (List ℕ))) (finished : Bool)
    → own ≡ system → entries ≡ log → order ≡ map told (blocks sys log) → screens ≡ refreshes sys log
    → ((f : ℕ) → f < length system.files → records_in files f ≡ committed_files sys (after sys log) f)
    → finished ≡ is_finished sys (after sys log)
    → report_of own order (refreshes_counted_once screens) (records_in files) entries finished ≡ printed system sys log
whole-same system own sys log entries order screens files finished own_is log_is order_is screens_are same finished_is =
    ap (λ (s : System). report_of s order (refreshes_counted_once screens) (records_in files) entries finished) own_is
    ∙ (ap (λ (l : List Event). report_of system order (refreshes_counted_once screens) (records_in files) l finished) log_is
    ∙ (ap (λ (o : List Block). report_of system o (refreshes_counted_once screens) (records_in files) log finished) order_is
    ∙ (ap (λ (rs : List Refresh). report_of system (map told (blocks sys log)) (refreshes_counted_once rs) (records_in files) log finished) screens_are
    ∙ (ap (λ (b : Bool). report_of system (map told (blocks sys log)) (refreshes_counted_once (refreshes sys log)) (records_in files) log b) finished_is
    ∙ ap (λ (part : List ℕ).
    serial_part system (map told (blocks sys log)) ++ (screens_part system (refreshes_counted_once (refreshes sys log)) ++ (part
    ++ (log_part system log ++ last_line (is_finished sys (after sys log))))))
    (part-same system files (committed_files sys (after sys log)) same)))))
