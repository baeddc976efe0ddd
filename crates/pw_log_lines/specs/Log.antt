-- The log of a deck.
use Rattle.std.specs.Prelude.{ℕ, ◌+◌, List, [], ◌∷◌, ◌++◌, length, take, drop, codes, position, nat_le, ◌==◌, Option, None, Some, Result, Ok, Err, if◌then◌else◌}
use Rattle.std.specs.Fmt.{decimal}
use Rattle.std.specs.Str.{bytes_eq}
use Rattle.pw_base.specs.Characters.{space}
use Rattle.pw_base.specs.declared.fault.Fault.{Fault}
use Rattle.pw_base.specs.declared.fault_code.FaultCode.TheVariants.{BadLogLine, TooMany}
use Rattle.pw_code.specs.Limits.{most_log_lines}
use Rattle.pw_code.specs.declared.lock.LockRule.{LockRule}
use Rattle.pw_code.specs.declared.lock.LockRule.TheVariants.{ReadersShare, AllExclusive}
use Rattle.pw_code.specs.declared.system.System.{System}
use Rattle.pw_event.specs.Parsing.{entry_in}
use Rattle.pw_event.specs.declared.event.Event.{Event}
use Rattle.pw_event.specs.declared.fault.EventFault.{EventFault}
use Rattle.pw_event.specs.declared.fault.EventFault.TheVariants.{Bad}
use Rattle.pw_sections.specs.Lines.{lines}
use Rattle.pw_sections.specs.Steps.{◌>>=◌, is_blank, refused, each_line}
use Rattle.pw_log_lines.specs.Grammar.{nobody, is_bad, or_unknown}

-- the line that begins a log of version 2
abbrev pub header : List ℕ
header = codes "PATHWAY LOG 2"

-- the version of a log, its lines behind the header, and the number of the first of them
pub record Opened : Type 0 where
  pub version : ℕ
  pub first_line : ℕ
  pub lines : List (List ℕ)

-- A log is of version 2 where its first line that is not blank is the header, or there is no such line.
unfoldable pub opened : ℕ → List (List ℕ) → Opened
opened number [] = record { version = 2; first_line = number; lines = [] }
opened number (line ∷ rest) =
    if is_blank line then opened (number + 1) rest
    else (if bytes_eq line header then record { version = 2; first_line = number + 1; lines = rest }
    else record { version = 1; first_line = number; lines = line ∷ rest })

-- the rule of locking by which a log of a version is read
abbrev pub rule_of : ℕ → LockRule
rule_of version = if version == 2 then ReadersShare else AllExclusive

-- what stands behind the first space, if the digits of a number stand before it
abbrev pub behind_at : ℕ → List ℕ → Option ℕ → Option (List ℕ)
behind_at n line None = None
behind_at n line (Some place) = if bytes_eq (take place line) (decimal n) then Some (drop (place + 1) line) else None

-- what stands behind a number and a space
abbrev pub behind_number : ℕ → List ℕ → Option (List ℕ)
behind_number n line = behind_at n line (position (λ b. b == space) line)

-- the entry of what stands behind a number, if anything does
abbrev pub entry_behind : System → Option (List ℕ) → Result Event EventFault
entry_behind system None = Err Bad
entry_behind system (Some rest) = entry_in system rest

-- the entry of a line that begins with this number
abbrev pub numbered_entry : System → ℕ → List ℕ → Result Event EventFault
numbered_entry system n line = entry_behind system (behind_number n line)

-- a log line is of the grammar, and its number is that of its entry; it stands behind not too many others
abbrev pub entry_counted : LockRule → ℕ → ℕ → List ℕ → Result ℕ Fault
entry_counted rule number count line =
    if is_bad (numbered_entry (nobody rule) (count + 1) line) then refused number BadLogLine
    else (if nat_le most_log_lines count then refused number TooMany else Ok (count + 1))

-- how many entries an opened log has
abbrev pub entries_in : Opened → Result ℕ Fault
entries_in log = each_line (entry_counted (rule_of log.version)) log.first_line 0 log.lines

-- how many entries the log of a text has, whose first line has a number
abbrev pub entries_counted : List ℕ → ℕ → Result ℕ Fault
entries_counted text first_line = entries_in (opened first_line (lines text))

-- the version of the log of a text
abbrev pub version_of : List ℕ → ℕ → ℕ
version_of text first_line = (opened first_line (lines text)).version

-- an entry of the system is read behind the others
abbrev pub event_read : System → ℕ → List Event → List ℕ → Result (List Event) Fault
event_read system number events line =
    or_unknown number (numbered_entry system (length events + 1) line) >>= (λ event. Ok (events ++ event ∷ []))

-- the entries of an opened log
abbrev pub events_in : System → Opened → Result (List Event) Fault
events_in system log = each_line (event_read system) log.first_line [] log.lines

-- the entries of the log of a text, whose first line has a number
abbrev pub events_of : System → List ℕ → ℕ → Result (List Event) Fault
events_of system text first_line = events_in system (opened first_line (lines text))
