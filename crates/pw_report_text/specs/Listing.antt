-- The text of a report, from its parts.
use Rattle.std.specs.Prelude.{ℕ, zero, suc, Bool, List, [], ◌++◌, codes, length, slice_index_or}
use Rattle.pw_code.specs.declared.system.System.{System}
use Rattle.pw_event.specs.declared.event.Event.{Event}
use Rattle.pw_report_text.specs.Lines.{block_lines, entry_lines, file_part, header, last_line, line, refresh_parts}
use Rattle.pw_onecopy.specs.Refreshes.{once, refreshes_of}
use Rattle.pw_onecopy.specs.declared.refresh.Refresh.{Refresh}
use Rattle.pw_serial_order.specs.declared.block.Block.{Block}

-- SERIAL, and a line for each block
abbrev pub serial_part : System → List Block → List ℕ
serial_part system order = line (codes "SERIAL") ++ block_lines system order

-- the screens of the first n terminals, one after the other
abbrev pub screens_to : System → (ℕ → List Refresh) → ℕ → List ℕ
screens_to system screens zero = []
screens_to system screens (suc t) =
    screens_to system screens t ++ refresh_parts system (screens t)

-- SCREENS, and the screens of each terminal
abbrev pub screens_part : System → (ℕ → List Refresh) → List ℕ
screens_part system screens =
    line (codes "SCREENS") ++ screens_to system screens (length system.terminals)

-- a terminal's screens are its refreshes, each number counted once
abbrev pub refreshes_counted_once : List Refresh → ℕ → List Refresh
refreshes_counted_once refreshes t = once (refreshes_of t refreshes)

-- the first n files, one after the other
abbrev pub files_to : System → (ℕ → List (List ℕ)) → ℕ → List ℕ
files_to system records zero = []
files_to system records (suc f) = files_to system records f ++ file_part system f (records f)

-- FILES, and each file with its records
abbrev pub files_part : System → (ℕ → List (List ℕ)) → List ℕ
files_part system records =
    line (codes "FILES") ++ files_to system records (length system.files)

-- LOG, the header, and the log's lines
abbrev pub log_part : System → List Event → List ℕ
log_part system log = line (codes "LOG") ++ (header system.rule ++ entry_lines system 1 log)

-- the parts one after the other
abbrev pub report_of : System → List Block → (ℕ → List Refresh) → (ℕ → List (List ℕ))
    → List Event → Bool → List ℕ
report_of system order screens records log finished =
    serial_part system order ++ (screens_part system screens ++ (files_part system records
    ++ (log_part system log ++ last_line finished)))

-- the records of a list of files
abbrev pub records_in : List (List (List ℕ)) → ℕ → List (List ℕ)
records_in files f = slice_index_or files f []
