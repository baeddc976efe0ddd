-- What the reader makes of the words of a line.
pub use Rattle.pw_base.specs.Steps.{◌>>=◌}
use Rattle.std.specs.Prelude.{ℕ, ◌≡◌, ◌+◌, List, [], ◌∷◌, Bool, true, false, ◌&&◌, ◌||◌, nat_le, ◌==◌, Option, Some, None, Result, Ok, Err, position, slice_index_or, take, drop, map, if◌then◌else◌}
use Rattle.std.specs.Fmt.{decimal}
use Rattle.std.specs.Str.{bytes_eq, str_to_ascii_uppercase}
use Rattle.std.specs.Str.Parse.{digits_value}
use Rattle.std.specs.List.{slice_split}
use Rattle.std.specs.Option.{option_map}
use Rattle.pw_base.specs.Characters.{digit_zero, full_stop, plus_sign, space}
use Rattle.pw_code.specs.Limits.{most_after}
use Rattle.pw_code.specs.declared.file.FileOp.{FileOp}
use Rattle.pw_code.specs.declared.file.FileOp.TheVariants.{Read, Next, Write, Rewrite, Delete}
use Rattle.pw_code.specs.declared.lock.LockMode.{LockMode}
use Rattle.pw_code.specs.declared.lock.LockMode.TheVariants.{Shared, Exclusive}
use Rattle.pw_code.specs.declared.lock.LockRule.{LockRule}
use Rattle.pw_code.specs.declared.lock.LockRule.TheVariants.{ReadersShare, AllExclusive}
use Rattle.pw_code.specs.declared.system.System.{System}
use Rattle.pw_event.specs.declared.event.Cause.{Cause}
use Rattle.pw_event.specs.declared.event.Cause.TheVariants as cause
use Rattle.pw_event.specs.declared.event.Ending.{Ending}
use Rattle.pw_event.specs.declared.event.Ending.TheVariants as ending
use Rattle.pw_event.specs.declared.event.Event.{Event}
use Rattle.pw_event.specs.declared.event.Event.TheVariants.{Show, Key, CheckStart, CheckEnd, CheckCopy, Applied, Begin, Send, Take, File, Reply, Again, Commit, Back, Restart, FailTcp, FailServer, Takeover, Raise, End}
use Rattle.pw_event.specs.declared.fault.EventFault.{EventFault}
use Rattle.pw_event.specs.declared.fault.EventFault.TheVariants.{Bad, Unknown, Memory}
use Rattle.pw_event.specs.declared.keyword.Keyword.{Keyword}
use Rattle.pw_event.specs.declared.keyword.Keyword.TheVariants as plain
use Rattle.pw_event.specs.declared.script.FailLine.{FailLine}
use Rattle.pw_event.specs.declared.script.FailLine.TheVariants as line
use Rattle.pw_event.specs.Keywords.{or_bad, keyword}
use Rattle.pw_event.specs.Line.{no_class}
use Rattle.pw_code.specs.Names.{may_name}

-- a name
unfoldable pub named : List ℕ → Result (Unit {0}) EventFault
named word = if may_name word then Ok tt else Err Bad

-- the number of which the word is the digits, up to a limit
unfoldable pub number : ℕ → List ℕ → Result ℕ EventFault
number limit word = let n = digits_value 10 word in if bytes_eq word (decimal n) && nat_le n limit then Ok n else Err Bad

-- a sign stands in front, or a zero before other digits
abbrev pub is_odd : List ℕ → Bool
is_odd [] = false
is_odd (b ∷ []) = b == plus_sign
is_odd (b ∷ c ∷ bs) = b == plus_sign || b == digit_zero

-- a number from 1
unfoldable pub positive_count_read : List ℕ → Result ℕ EventFault
positive_count_read word = do
  n ← number 4294967295 word
  if n == 0 then Err Bad else Ok n

-- what stands before and behind the first point
unfoldable pub cut : List ℕ → Option (List ℕ × List ℕ)
cut word = option_map (λ point. (take point word, drop (point + 1) word)) (position (λ b. b == full_stop) word)

-- what is there; Unknown where there is nothing
abbrev pub or_unknown : {A : Type 0} → Option A → Result A EventFault
or_unknown None = Err Unknown
or_unknown (Some value) = Ok value

-- a refresh number
unfoldable pub refresh : List ℕ → Result (ℕ × ℕ × ℕ) EventFault
refresh word = do
  phase ← or_bad (cut word)
  attempt ← or_bad (cut phase.1)
  p ← number 4294967295 phase.0
  a ← number 4294967295 attempt.0
  k ← number 4294967295 attempt.1
  Ok (p, a, k)

-- the number of a name among names
unfoldable pub among : List (List ℕ) → List ℕ → Result ℕ EventFault
among names word = or_unknown (position (λ name. bytes_eq name word) names)

-- the names of terminals, of classes and of files
abbrev pub terminal_names : System → List (List ℕ)
terminal_names system = map (λ terminal. terminal.name) system.terminals

-- the names of a system's classes, in their order
abbrev pub class_names : System → List (List ℕ)
class_names system = map (λ class. class.name) system.classes

-- the names of a system's files, in their order
abbrev pub file_names : System → List (List ℕ)
file_names system = map (λ file. file.name) system.files

-- a terminal, by its name
unfoldable pub terminal : System → List ℕ → Result ℕ EventFault
terminal system word = do
  done ← named word
  among (terminal_names system) word

-- a pair, by its name
unfoldable pub pair : System → List ℕ → Result ℕ EventFault
pair system word = do
  done ← named word
  among system.tcps word

-- a class, by its name
unfoldable pub class : System → List ℕ → Result ℕ EventFault
class system word = do
  done ← named word
  among (class_names system) word

-- a file, by its name
unfoldable pub file : System → List ℕ → Result ℕ EventFault
file system word = do
  done ← named word
  among (file_names system) word

-- a class and one of its processes, by the name and the number
unfoldable pub process : System → List ℕ → List ℕ → Result (ℕ × ℕ) EventFault
process system c i = do
  done ← named c
  i ← positive_count_read i
  c ← class system c
  if nat_le i (slice_index_or system.classes c no_class).processes then Ok (c, i) else Err Unknown

-- an operation
abbrev pub op_of : Keyword → Result FileOp EventFault
op_of plain.Read = Ok Read
op_of plain.Next = Ok Next
op_of plain.Write = Ok Write
op_of plain.Rewrite = Ok Rewrite
op_of plain.Delete = Ok Delete
op_of _ = Err Bad

unfoldable pub op : List ℕ → Result FileOp EventFault
op word = keyword word >>= op_of

-- the mode of a lock
abbrev pub mode_of : Keyword → Result LockMode EventFault
mode_of plain.Shared = Ok Shared
mode_of plain.Exclusive = Ok Exclusive
mode_of _ = Err Bad

unfoldable pub mode : List ℕ → Result LockMode EventFault
mode word = keyword word >>= mode_of

-- whether a member of a pair is its primary
abbrev pub member_of : Keyword → Result Bool EventFault
member_of plain.Primary = Ok true
member_of plain.Backup = Ok false
member_of _ = Err Bad

unfoldable pub member : List ℕ → Result Bool EventFault
member word = keyword word >>= member_of

-- the run fault of a reply, if any: by its first word and those behind it, as are those below
unfoldable pub fault_of : Keyword → List (List ℕ) → Result (Option ℕ) EventFault
fault_of plain.Okay [] = Ok None
fault_of plain.Fault (x ∷ []) = number 65535 x >>= λ x. Ok (Some x)
fault_of _ _ = Err Bad

-- a cause
unfoldable pub cause_of : System → Keyword → List (List ℕ) → Result Cause EventFault
cause_of system plain.Older (t ∷ n ∷ []) = do
  done ← named t
  n ← number 4294967295 n
  t ← terminal system t
  Ok (cause.Older t n)
cause_of system plain.Takeover (p ∷ []) = pair system p >>= λ p. Ok (cause.Takeover p)
cause_of system plain.Server (k ∷ []) = positive_count_read k >>= λ k. Ok (cause.Server k)
cause_of system plain.Redo [] = Ok cause.Redo
cause_of system _ _ = Err Bad

-- a cause, by its words
unfoldable pub cause_in : System → List (List ℕ) → Result Cause EventFault
cause_in system [] = Err Bad
cause_in system (word ∷ words) = keyword word >>= λ k. cause_of system k words

-- an ending
unfoldable pub ending_of : System → Keyword → List (List ℕ) → Result Ending EventFault
ending_of system plain.Stopped [] = Ok ending.Stopped
ending_of system plain.NoEntries [] = Ok ending.NoEntries
ending_of system plain.Fault (x ∷ []) = number 65535 x >>= λ x. Ok (ending.Fault x)
ending_of system plain.Suspended words = cause_in system words >>= λ c. Ok (ending.Suspended c)
ending_of system plain.Lost [] = Ok ending.Lost
ending_of system _ _ = Err Bad

-- SHOW t p.a.k, behind its first word, as are those below
unfoldable pub show : System → List (List ℕ) → Result Event EventFault
show system (t ∷ r ∷ []) = do
  r ← refresh r
  t ← terminal system t
  Ok (Show t r.0 r.1 r.2)
show system _ = Err Bad

-- the terminal and the number of KEY t k, AGAIN t n, COMMIT t n and BACK t n
unfoldable pub terminal_and_number : System → List (List ℕ) → Result (ℕ × ℕ) EventFault
terminal_and_number system (t ∷ n ∷ []) = do
  n ← number 4294967295 n
  t ← terminal system t
  Ok (t, n)
terminal_and_number system _ = Err Bad

-- CHECK t START, END or COPY
abbrev pub check_of : System → List ℕ → Keyword → Result Event EventFault
check_of system t plain.Start = terminal system t >>= λ t. Ok (CheckStart t)
check_of system t plain.End = terminal system t >>= λ t. Ok (CheckEnd t)
check_of system t plain.Copy = terminal system t >>= λ t. Ok (CheckCopy t)
check_of system t _ = Err Bad

unfoldable pub check : System → List (List ℕ) → Result Event EventFault
check system (t ∷ word ∷ []) = keyword word >>= check_of system t
check system _ = Err Bad

-- APPLIED t
unfoldable pub applied : System → List (List ℕ) → Result Event EventFault
applied system (t ∷ []) = terminal system t >>= λ t. Ok (Applied t)
applied system _ = Err Bad

-- BEGIN t n r
unfoldable pub begin : System → List (List ℕ) → Result Event EventFault
begin system (t ∷ n ∷ r ∷ []) = do
  n ← number 4294967295 n
  r ← number 4294967295 r
  t ← terminal system t
  Ok (Begin t n r)
begin system _ = Err Bad

-- SEND t n c
unfoldable pub send : System → List (List ℕ) → Result Event EventFault
send system (t ∷ n ∷ c ∷ []) = do
  done ← named c
  n ← number 4294967295 n
  t ← terminal system t
  c ← class system c
  Ok (Send t n c)
send system _ = Err Bad

-- TAKE c i t
unfoldable pub take_line_event : System → List (List ℕ) → Result Event EventFault
take_line_event system (c ∷ i ∷ t ∷ []) = do
  done ← named t
  p ← process system c i
  t ← terminal system t
  Ok (Take p.0 p.1 t)
take_line_event system _ = Err Bad

-- FILE c i op m f s, with its mode read
unfoldable pub file_at : System → List ℕ → List ℕ → List ℕ → LockMode → List ℕ → List ℕ → Result Event EventFault
file_at system c i o mode f s = do
  o ← op o
  done ← named f
  s ← number 65535 s
  p ← process system c i
  f ← file system f
  Ok (File p.0 p.1 o mode f s)

-- FILE c i op m f s, without m under AllExclusive
unfoldable pub file_line : System → LockRule → List (List ℕ) → Result Event EventFault
file_line system ReadersShare (c ∷ i ∷ o ∷ m ∷ f ∷ s ∷ []) = mode m >>= λ m. file_at system c i o m f s
file_line system AllExclusive (c ∷ i ∷ o ∷ f ∷ s ∷ []) = file_at system c i o Exclusive f s
file_line system rule _ = Err Bad

-- REPLY c i t OK, or REPLY c i t FAULT x
unfoldable pub reply : System → List (List ℕ) → Result Event EventFault
reply system (c ∷ i ∷ t ∷ word ∷ words) = do
  k ← keyword word
  fault ← fault_of k words
  done ← named t
  p ← process system c i
  t ← terminal system t
  Ok (Reply p.0 p.1 t fault)
reply system _ = Err Bad

-- RESTART t n cause
unfoldable pub restart : System → List (List ℕ) → Result Event EventFault
restart system (t ∷ n ∷ words) = do
  done ← named t
  n ← number 4294967295 n
  c ← cause_in system words
  t ← terminal system t
  Ok (Restart t n c)
restart system _ = Err Bad

-- TCP p PRIMARY k, or BACKUP in place of PRIMARY
unfoldable pub fail_tcp : System → List (List ℕ) → Result Event EventFault
fail_tcp system (p ∷ m ∷ k ∷ []) = do
  m ← member m
  k ← positive_count_read k
  p ← pair system p
  Ok (FailTcp p m k)
fail_tcp system _ = Err Bad

-- SERVER c i k
unfoldable pub fail_server : System → List (List ℕ) → Result Event EventFault
fail_server system (c ∷ i ∷ k ∷ []) = do
  k ← positive_count_read k
  p ← process system c i
  Ok (FailServer p.0 p.1 k)
fail_server system _ = Err Bad

-- FAIL TCP p PRIMARY k, FAIL TCP p BACKUP k, or FAIL SERVER c i k
unfoldable pub failure_of : System → Keyword → List (List ℕ) → Result Event EventFault
failure_of system plain.Tcp words = fail_tcp system words
failure_of system plain.Server words = fail_server system words
failure_of system _ words = Err Bad

unfoldable pub fail : System → List (List ℕ) → Result Event EventFault
fail system [] = Err Bad
fail system (word ∷ words) = keyword word >>= λ k. failure_of system k words

-- TAKEOVER p
unfoldable pub takeover : System → List (List ℕ) → Result Event EventFault
takeover system (p ∷ []) = pair system p >>= λ p. Ok (Takeover p)
takeover system _ = Err Bad

-- RAISE p
unfoldable pub raise : System → List (List ℕ) → Result Event EventFault
raise system (p ∷ []) = pair system p >>= λ p. Ok (Raise p)
raise system _ = Err Bad

-- END t ending
unfoldable pub end : System → List (List ℕ) → Result Event EventFault
end system (t ∷ word ∷ words) = do
  done ← named t
  k ← keyword word
  e ← ending_of system k words
  t ← terminal system t
  Ok (End t e)
end system _ = Err Bad

-- an entry, by its first word and those behind it
unfoldable pub line_of : System → Keyword → List (List ℕ) → Result Event EventFault
line_of system plain.Show words = show system words
line_of system plain.Key words = terminal_and_number system words >>= λ r. Ok (Key r.0 r.1)
line_of system plain.Check words = check system words
line_of system plain.Applied words = applied system words
line_of system plain.Begin words = begin system words
line_of system plain.Send words = send system words
line_of system plain.Take words = take_line_event system words
line_of system plain.File words = file_line system system.rule words
line_of system plain.Reply words = reply system words
line_of system plain.Again words = terminal_and_number system words >>= λ r. Ok (Again r.0 r.1)
line_of system plain.Commit words = terminal_and_number system words >>= λ r. Ok (Commit r.0 r.1)
line_of system plain.Back words = terminal_and_number system words >>= λ r. Ok (Back r.0 r.1)
line_of system plain.Restart words = restart system words
line_of system plain.Fail words = fail system words
line_of system plain.Takeover words = takeover system words
line_of system plain.Raise words = raise system words
line_of system plain.End words = end system words
line_of system _ words = Err Bad

-- an entry, by its words
unfoldable pub event_of : System → List (List ℕ) → Result Event EventFault
event_of system [] = Err Bad
event_of system (word ∷ words) = keyword word >>= λ k. line_of system k words

-- the word AFTER
abbrev pub after_of : Keyword → Result (Unit {0}) EventFault
after_of plain.After = Ok tt
after_of _ = Err Bad

unfoldable pub after_keyword_read : List ℕ → Result (Unit {0}) EventFault
after_keyword_read word = keyword word >>= after_of

-- a process of a failure line: 1 to 16
unfoldable pub fail_process : List ℕ → Result ℕ EventFault
fail_process word = do
  i ← number 16 word
  if i == 0 then Err Bad else Ok i

-- TCP p PRIMARY AFTER n, behind its first word, or BACKUP in place of PRIMARY
unfoldable pub tcp_line : System → List (List ℕ) → Result FailLine EventFault
tcp_line system (p ∷ m ∷ a ∷ n ∷ []) = do
  done ← named p
  m ← member m
  done ← after_keyword_read a
  n ← number most_after n
  p ← among system.tcps (str_to_ascii_uppercase p)
  Ok (line.Tcp p m n)
tcp_line system _ = Err Bad

-- a class of a failure line with one of its processes, by the name in upper case and the number
unfoldable pub fail_class : System → List ℕ → ℕ → ℕ → Result FailLine EventFault
fail_class system name i n = do
  c ← among (class_names system) name
  if nat_le i (slice_index_or system.classes c no_class).processes then Ok (line.Server c i n) else Err Unknown

-- SERVER c i AFTER n, behind its first word
unfoldable pub class_line : System → List (List ℕ) → Result FailLine EventFault
class_line system (c ∷ i ∷ a ∷ n ∷ []) = do
  done ← named c
  i ← fail_process i
  done ← after_keyword_read a
  n ← number most_after n
  fail_class system (str_to_ascii_uppercase c) i n
class_line system _ = Err Bad

-- a failure line, by its first word and those behind it
unfoldable pub fail_line_of : System → Keyword → List (List ℕ) → Result FailLine EventFault
fail_line_of system plain.Tcp words = tcp_line system words
fail_line_of system plain.Server words = class_line system words
fail_line_of system _ words = Err Bad

-- a failure line, by its words
unfoldable pub fail_of : System → List (List ℕ) → Result FailLine EventFault
fail_of system [] = Err Bad
fail_of system (word ∷ words) = keyword word >>= λ k. fail_line_of system k words

-- an answer is what is defined, unless memory ran out
abbrev pub GivesUnlessMemory : {A : Type 0} → Result A EventFault → Result A EventFault → Type 0
GivesUnlessMemory (Err Memory) defined = Unit {0}
GivesUnlessMemory (Err Bad) defined = defined ≡ Err Bad
GivesUnlessMemory (Err Unknown) defined = defined ≡ Err Unknown
GivesUnlessMemory (Ok value) defined = defined ≡ Ok value

-- the entry that a line of the log says, without its number; Bad outside the grammar, Unknown in it where nothing is so named
abbrev pub entry_in : System → List ℕ → Result Event EventFault
entry_in system line = event_of system (slice_split (λ b. b == space) line)

-- what a failure line says
abbrev pub failure_in : System → List ℕ → Result FailLine EventFault
failure_in system line = fail_of system (slice_split (λ b. b == space) line)
