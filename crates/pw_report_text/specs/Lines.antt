-- The lines of the report.
use Rattle.std.specs.Prelude.{ℕ, ◌+◌, List, [], ◌∷◌, ◌++◌, codes, Bool, if◌then◌else◌}
use Rattle.std.specs.Fmt.{decimal}
use Rattle.pw_base.specs.Characters.{line_feed, space, vertical_line}
use Rattle.pw_code.specs.declared.lock.LockRule.{LockRule}
use Rattle.pw_code.specs.declared.lock.LockRule.TheVariants.{ReadersShare, AllExclusive}
use Rattle.pw_code.specs.declared.system.System.{System}
use Rattle.pw_event.specs.Line.{ending_text, event_text, file_name, refresh_number, sentence, terminal_name}
use Rattle.pw_event.specs.declared.event.Event.{Event}
use Rattle.pw_onecopy.specs.declared.refresh.Refresh.{Refresh}
use Rattle.pw_serial_order.specs.declared.block.Block.{Block}
use Rattle.pw_serial_order.specs.declared.block.Block.TheVariants.{Out, Ended, Done}
use Rattle.pw_serial_order.specs.declared.block.How.{How}
use Rattle.pw_serial_order.specs.declared.block.How.TheVariants.{Commit, Dropped, Restart, Left}
use Rattle.pw_terminal.specs.Screen.{refresh_lines}

-- a line of a text
abbrev pub line : List ℕ → List ℕ
line words = words ++ line_feed ∷ []

-- the word of how an attempt is over
abbrev pub how_text : How → List ℕ
how_text Commit = codes "COMMIT"
how_text Dropped = codes "DROP"
how_text Restart = codes "RESTART"
how_text Left = codes "LEFT"

-- the words of a block
abbrev pub block_words : System → Block → List (List ℕ)
block_words system (Out t) = codes "OUT" ∷ terminal_name system t ∷ []
block_words system (Ended t n how) =
    codes "UNIT" ∷ terminal_name system t ∷ decimal n ∷ how_text how ∷ []
block_words system (Done t ending) =
    codes "DONE" ∷ terminal_name system t ∷ ending_text system ending ∷ []

-- the line of a block
abbrev pub block_line : System → Block → List ℕ
block_line system block = line (sentence (block_words system block))

-- the lines of the blocks, in order
abbrev pub block_lines : System → List Block → List ℕ
block_lines system [] = []
block_lines system (block ∷ rest) = block_line system block ++ block_lines system rest

-- the lines of a refresh: its terminal and number, and its rows that are not blank
abbrev pub refresh_part : System → Refresh → List ℕ
refresh_part system r =
    line (sentence (codes "SCREEN" ∷ terminal_name system r.terminal
    ∷ refresh_number r.phase r.attempt r.k ∷ []))
    ++ refresh_lines r.image

-- the lines of the refreshes, in order
abbrev pub refresh_parts : System → List Refresh → List ℕ
refresh_parts system [] = []
refresh_parts system (r ∷ rest) = refresh_part system r ++ refresh_parts system rest

-- the line of a record
abbrev pub record_line : List ℕ → List ℕ
record_line content = line (vertical_line ∷ content)

-- the lines of a file's records, in order
abbrev pub record_lines : List (List ℕ) → List ℕ
record_lines [] = []
record_lines (content ∷ rest) = record_line content ++ record_lines rest

-- the lines of a file: its name, and its records
abbrev pub file_part : System → ℕ → List (List ℕ) → List ℕ
file_part system f records =
    line (sentence (codes "FILE" ∷ file_name system f ∷ [])) ++ record_lines records

-- the line of an entry: its number in the log, and its words
abbrev pub entry_line : System → ℕ → Event → List ℕ
entry_line system n entry = line (decimal n ++ space ∷ event_text system entry)

-- the log's lines, which are numbered from n
abbrev pub entry_lines : System → ℕ → List Event → List ℕ
entry_lines system n [] = []
entry_lines system n (entry ∷ log) = entry_line system n entry ++ entry_lines system (n + 1) log

-- the header, which tells that FILE lines have modes
abbrev pub header : LockRule → List ℕ
header ReadersShare = line (codes "PATHWAY LOG 2")
header AllExclusive = []

-- whether the log is finished
abbrev pub last_line : Bool → List ℕ
last_line finished = line (if finished then codes "FINISHED" else codes "UNFINISHED")
