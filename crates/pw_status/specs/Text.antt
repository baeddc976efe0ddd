-- The status text: the counts of a log.
use Rattle.std.specs.Prelude.{ℕ, zero, suc, List, [], ◌∷◌, ◌++◌, codes, length, Option, Some, None}
use Rattle.std.specs.Fmt.{decimal}
use Rattle.pw_code.specs.declared.system.System.{System}
use Rattle.pw_event.specs.Line.{class_name, ending_text, file_name, pair_name, sentence, terminal_name}
use Rattle.pw_event.specs.declared.event.Ending.{Ending}
use Rattle.pw_event.specs.declared.event.Event.{Event}
use Rattle.pw_pair.specs.Follows.{mode_as}
use Rattle.pw_report_text.specs.Lines.{line}
use Rattle.pw_onecopy.specs.Behaviour.{Behaviour}
use Rattle.pw_pair.specs.declared.mode.Mode.{Mode}
use Rattle.pw_pair.specs.declared.mode.Mode.TheVariants.{Alone, Raising, Paired, Down, Gone}
use Rattle.pw_paired.specs.Step.{after}
use Rattle.pw_status.specs.Counts.{class_counts, file_counts, terminal_counts, unit_counts}
use Rattle.pw_status.specs.declared.counts.ClassCounts.{ClassCounts}
use Rattle.pw_status.specs.declared.counts.FileCounts.{FileCounts}
use Rattle.pw_status.specs.declared.counts.TerminalCounts.{TerminalCounts}
use Rattle.pw_status.specs.declared.counts.UnitCounts.{UnitCounts}

-- the word of a mode
abbrev pub mode_word : Mode → List ℕ
mode_word Alone = codes "ALONE"
mode_word Raising = codes "RAISING"
mode_word Paired = codes "PAIRED"
mode_word Down = codes "DOWN"
mode_word Gone = codes "GONE"

-- RUNNING, or the whole ending
abbrev pub ending_or_running : System → Option Ending → List ℕ
ending_or_running system None = codes "RUNNING"
ending_or_running system (Some ending) = ending_text system ending

-- a word, and the number behind it
abbrev pub word_with_number : List ℕ → ℕ → List (List ℕ) → List (List ℕ)
word_with_number word n rest = word ∷ decimal n ∷ rest

-- the line of how many entries there are
abbrev pub entries_line : ℕ → List ℕ
entries_line n = line (sentence (word_with_number (codes "ENTRIES") n []))

-- the line of a pair
abbrev pub pair_line : System → ℕ → Mode → List ℕ
pair_line system p mode =
    line (sentence (codes "TCP" ∷ pair_name system p ∷ mode_word mode ∷ []))

-- the line of a terminal
abbrev pub terminal_line : System → ℕ → Option Ending → TerminalCounts → List ℕ
terminal_line system t ending counts =
    line (sentence (codes "TERM" ∷ terminal_name system t ∷ ending_or_running system ending
    ∷ word_with_number (codes "UNITS") counts.units
    (word_with_number (codes "RESTARTS") counts.restarts
    (word_with_number (codes "ENTRIES") counts.entries
    (word_with_number (codes "SHOWN") counts.shown [])))))

-- the line of a class
abbrev pub class_line : System → ℕ → ClassCounts → List ℕ
class_line system c counts =
    line (sentence (codes "SERVER" ∷ class_name system c
    ∷ word_with_number (codes "WAITING") counts.waiting
    (word_with_number (codes "BUSY") counts.busy
    (word_with_number (codes "TAKEN") counts.taken
    (word_with_number (codes "LONGEST") counts.longest [])))))

-- the line of a file
abbrev pub file_line : System → ℕ → FileCounts → List ℕ
file_line system f counts =
    line (sentence (codes "FILE" ∷ file_name system f
    ∷ word_with_number (codes "RECORDS") counts.records (word_with_number (codes "LOCKS") counts.locks [])))

-- the line of the units
abbrev pub units_line : UnitCounts → List ℕ
units_line counts =
    line (sentence (codes "TMF"
    ∷ word_with_number (codes "BEGUN") counts.begun
    (word_with_number (codes "COMMITTED") counts.committed
    (word_with_number (codes "DROPPED") counts.dropped
    (word_with_number (codes "LEFT") counts.left
    (word_with_number (codes "OLDER") counts.older
    (word_with_number (codes "TAKEOVER") counts.takeover
    (word_with_number (codes "SERVER") counts.server
    (word_with_number (codes "REDO") counts.redo [])))))))))

-- the first n of some lines
abbrev pub lines_to : (ℕ → List ℕ) → ℕ → List ℕ
lines_to text zero = []
lines_to text (suc n) = lines_to text n ++ text n

-- the status text of a log
abbrev pub status_text : System → Behaviour → List Event → List ℕ
status_text system sys log =
    entries_line (length log)
    ++ (lines_to (λ p. pair_line system p (mode_as ((after sys log).modes p))) (length system.tcps)
    ++ (lines_to
    (λ t. terminal_line system t ((after sys log).terms t).ending (terminal_counts sys log t))
    (length system.terminals)
    ++ (lines_to (λ c. class_line system c (class_counts sys log c)) (length system.classes)
    ++ (lines_to (λ f. file_line system f (file_counts sys log f)) (length system.files)
    ++ units_line (unit_counts sys log)))))
