-- What is printed of a run is its report.
use Rattle.std.proofs.Common.{◌≡◌, ℕ, zero, suc, ◌<◌, ◌++◌, List, Bool, length, map, refl, ap, ◌∙◌, arith}
use Rattle.pw_code.specs.declared.system.System.{System}
use Rattle.pw_event.specs.declared.event.Event.{Event}
use Rattle.std.specs.Prelude.{codes}
use Rattle.pw_report_text.specs.Lines.{file_part, last_line, line, refresh_parts}
use Rattle.pw_report_text.specs.Listing.{refreshes_counted_once, files_part, files_to, log_part, report_of, screens_part, screens_to, serial_part}
use Rattle.pw_report_text.specs.Meaning.{files_text, machine_of, printed, report_text}
use Rattle.pw_onecopy.specs.Behaviour.{Behaviour}
use Rattle.pw_onecopy.specs.declared.refresh.Refresh.{Refresh}
use Rattle.pw_serial_order.specs.Order.{told}
use Rattle.pw_serial_order.specs.declared.block.Block.{Block}
use Rattle.pw_paired.specs.Headline.{IsSerializable}
use Rattle.pw_paired.specs.Serial.{blocks}
use Rattle.pw_paired.specs.Shown.{refreshes}
use Rattle.pw_paired.specs.Step.{after, is_finished}
use Rattle.pw_paired.specs.Units.{committed_files}

-- equal screens have one text
screens-same : (system : System) (one other : ℕ → List Refresh) (n : ℕ) → ((t : ℕ) → one t ≡ other t) → screens_to system one n ≡ screens_to system other n
screens-same system one other zero same = refl
screens-same system one other (suc t) same =
    ap (λ (text : List ℕ). text ++ refresh_parts system (one t)) (screens-same system one other t same)
    ∙ ap (λ (rs : List Refresh). screens_to system other t ++ refresh_parts system rs) (same t)

-- equal records have one text
pub files-same : (system : System) (one other : ℕ → List (List ℕ)) (n : ℕ) → ((f : ℕ) → f < n → one f ≡ other f) → files_to system one n ≡ files_to system other n
files-same system one other zero same = refl
files-same system one other (suc f) same =
    ap (λ (text : List ℕ). text ++ file_part system f (one f)) (files-same system one other f (λ k below. same k (omega arith)))
    ∙ ap (λ (records : List (List ℕ)). files_to system other f ++ file_part system f records) (same f (omega arith))

-- the FILES of a run
pub files-printed : (system : System) (sys : Behaviour) (log : List Event) → IsSerializable sys log
    → files_part system (committed_files sys (after sys log)) ≡ files_text system sys log
files-printed system sys log serial =
    ap (λ (text : List ℕ). line (codes "FILES") ++ text)
    (files-same system (committed_files sys (after sys log)) (machine_of sys log).files (length system.files) (λ f below. serial.records f))

-- the text with other screens and records that are the same
text-same : (system : System) (order : List Block) (screens shown : ℕ → List Refresh) (records files : ℕ → List (List ℕ)) (log : List Event) (finished : Bool)
    → ((t : ℕ) → screens t ≡ shown t) → ((f : ℕ) → records f ≡ files f)
    → report_of system order screens records log finished ≡ report_of system order shown files log finished
text-same system order screens shown records files log finished same equal =
    ap (λ (text : List ℕ). serial_part system order ++ (screens_part system screens ++ ((line (codes "FILES") ++ text) ++ (log_part system log ++ last_line finished))))
    (files-same system records files (length system.files) (λ f below. equal f))
    ∙ ap (λ (text : List ℕ). serial_part system order ++ ((line (codes "SCREENS") ++ text) ++ (files_part system files ++ (log_part system log ++ last_line finished))))
    (screens-same system screens shown (length system.terminals) same)

-- the whole text of a run
pub text-printed : (system : System) (sys : Behaviour) (log : List Event) → IsSerializable sys log → printed system sys log ≡ report_text system sys log
text-printed system sys log serial =
    text-same system (map told (blocks sys log)) (refreshes_counted_once (refreshes sys log)) (λ t. ((machine_of sys log).terms t).refreshes) (committed_files sys (after sys log)) (machine_of sys log).files log
    (is_finished sys (after sys log)) serial.screens serial.records
