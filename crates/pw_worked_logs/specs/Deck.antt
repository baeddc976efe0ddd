-- The worked decks: terminals with programs of two kinds, one pair, a class STORE with two
-- processes, and a file STOCK. Of a screen they have the characters of row 24 alone. It is deck C,
-- but for its advisories and its STOP RUN, with some letters more.
use Rattle.std.specs.Prelude.{ℕ, zero, suc, ◌+◌, ◌-◌, ◌==◌, nat_lt, Bool, true, false, List, [], ◌∷◌, ◌++◌, codes, bytes_eq, length, take, drop, slice_index_or, Option, Some, None, unwrap_or, if◌then◌else◌}
use Rattle.pw_code.specs.declared.file.FileCall.{FileCall}
use Rattle.pw_code.specs.declared.file.FileOp.{FileOp}
use Rattle.pw_code.specs.declared.file.FileOp.TheVariants.{Read, Next, Write, Rewrite, Delete, ReadLock, NextLock}
use Rattle.pw_code.specs.declared.lock.LockRule.{LockRule}
use Rattle.pw_code.specs.declared.verb.Verb.{Verb}
use Rattle.pw_code.specs.declared.verb.Verb.TheVariants as verb
use Rattle.pw_event.specs.declared.script.FailLine.{FailLine}
use Rattle.pw_onecopy.specs.Play.{Play, play_after}
use Rattle.pw_onecopy.specs.IsBehaviour.{is_written}
use Rattle.pw_onecopy.specs.Path.{PathAnswer, Shown, Entry, Begun, Replied, Failed, Ended, Dropped, FileResult, is_outside}
use Rattle.pw_onecopy.specs.Behaviour.{Behaviour, Served, Reply, Fault}

-- The programs of terminals.

-- an entry line of deck C by its key: F1 with the message that its fields make, and F2 to F5
pub data KeyedLine : Type 0 where
  Sends : (message : List ℕ) → KeyedLine
  Begins : KeyedLine
  Ends : KeyedLine
  Drops : KeyedLine
  Redoes : KeyedLine

-- Keys: deck C's program with these entry lines. It takes a line and, by its key, sends the message
-- to STORE and displays the reply, or begins, ends, drops or restarts a transaction. Displays: a
-- DISPLAY of each text, and STOP RUN.
pub data WorkedProgram : Type 0 where
  Keys : (lines : List KeyedLine) → WorkedProgram
  Displays : (texts : List (List ℕ)) → WorkedProgram

-- the verb behind an entry line, outside a transaction or in one
abbrev pub verb_at : KeyedLine → Bool → Verb
verb_at (Sends message) outside = verb.Send 0 message
verb_at Begins true = verb.Begin
verb_at Begins false = verb.Fault 205
verb_at Ends true = verb.Fault 206
verb_at Ends false = verb.End
verb_at Drops true = verb.Fault 206
verb_at Drops false = verb.Drop
verb_at Redoes true = verb.Fault 206
verb_at Redoes false = verb.Redo

-- the k-th entry line
abbrev pub line_at : List KeyedLine → ℕ → KeyedLine
line_at lines k = slice_index_or lines (k - 1) Begins

-- the verb behind the last answer
abbrev pub verb_behind : List KeyedLine → Bool → Option PathAnswer → Verb
verb_behind lines outside None = verb.Accept 0
verb_behind lines outside (Some Shown) = verb.Accept 0
verb_behind lines outside (Some (Entry k)) = verb_at (line_at lines k) outside
verb_behind lines outside (Some (Begun r)) = verb.Accept 0
verb_behind lines outside (Some (Replied reply)) = verb.Show
verb_behind lines outside (Some (Failed x)) = verb.Fault x
verb_behind lines outside (Some Ended) = verb.Accept 0
verb_behind lines outside (Some Dropped) = verb.Accept 0

-- the last answer of a path
abbrev pub last_of : List PathAnswer → Option PathAnswer
last_of [] = None
last_of (answer ∷ []) = Some answer
last_of (first ∷ next ∷ path) = last_of (next ∷ path)

-- what a program asks after a path
abbrev pub asked_by : WorkedProgram → List PathAnswer → Verb
asked_by (Keys lines) path = verb_behind lines (is_outside path) (last_of path)
asked_by (Displays texts) path =
    if nat_lt (length path) (length texts) then verb.Show else verb.Stop

-- row 24 behind an answer: a reply is displayed
abbrev pub row_behind : List ℕ → PathAnswer → List ℕ
row_behind row (Replied reply) = reply
row_behind row _ = row

-- row 24 after a path
abbrev pub row_after : List ℕ → List PathAnswer → List ℕ
row_after row [] = row
row_after row (answer ∷ path) = row_after (row_behind row answer) path

-- row 24 of a program's screen after a path: the last reply, or the next text
abbrev pub row_of : WorkedProgram → List PathAnswer → List ℕ
row_of (Keys lines) path = row_after [] path
row_of (Displays texts) path = slice_index_or texts (length path) []

-- the number of a program's entry lines
abbrev pub program_entry_count : WorkedProgram → ℕ
program_entry_count (Keys lines) = length lines
program_entry_count (Displays texts) = 0

-- The server of STORE.

-- What a message asks of the server. Does: one operation on STOCK, whose status and record it
-- replies. Increments: a read by this operation and a REWRITE of the record with 1 more, which it
-- replies. Breaks: this run fault.
pub data WorkedTask : Type 0 where
  Does : (op : FileOp) → WorkedTask
  Increments : (op : FileOp) → WorkedTask
  Breaks : (code : ℕ) → WorkedTask

-- the message begins with a letter
abbrev pub has_letter : List ℕ → List ℕ → Bool
has_letter letter message = bytes_eq (take 1 message) letter

-- The task of a message by its letter: those of deck C, L and M for reads WITH LOCK, K for I with
-- such a read, and X
abbrev pub task_of : List ℕ → WorkedTask
task_of message =
    if has_letter (codes "R") message then Does Read
    else if has_letter (codes "N") message then Does Next
    else if has_letter (codes "W") message then Does Write
    else if has_letter (codes "U") message then Does Rewrite
    else if has_letter (codes "D") message then Does Delete
    else if has_letter (codes "I") message then Increments Read
    else if has_letter (codes "L") message then Does ReadLock
    else if has_letter (codes "M") message then Does NextLock
    else if has_letter (codes "K") message then Increments ReadLock
    else Breaks 204

-- a file status as four digits
abbrev pub four_digits : ℕ → List ℕ
four_digits n =
    codes "00"
    ++ (if n == 10 then codes "10" else if n == 11 then codes "11" else 48 ∷ (48 + n) ∷ [])

-- an item without characters
abbrev pub spaces : List ℕ
spaces = codes "      "

-- a record of STOCK as an item of 6 characters takes it
abbrev pub item : List ℕ → List ℕ
item content = take 6 (content ++ spaces)

-- a record with 1 added to its number, its last 4 characters; no digit is carried in these logs
abbrev pub with_one_more : List ℕ → List ℕ
with_one_more content = take 5 (item content) ++ (slice_index_or (item content) 5 48 + 1) ∷ []

-- the reply: code 0, the file status and a record
abbrev pub reply_with : ℕ → List ℕ → List ℕ
reply_with status content = codes "0000" ++ (four_digits status ++ content)

-- an operation on STOCK: a WRITE or REWRITE with a record, every other one by a record's key
abbrev pub call_of : FileOp → List ℕ → FileCall
call_of op content = record {
  file = 0;
  op = op;
  key = if is_written op then [] else take 2 content;
  content = if is_written op then content else [];
}

-- what the server asks for a task with a record, after these file answers
abbrev pub asked_for : WorkedTask → List ℕ → List FileResult → Verb
asked_for (Does op) content [] = verb.File (call_of op content)
asked_for (Does op) content (answer ∷ done) =
    verb.Reply (reply_with answer.status (unwrap_or answer.content spaces))
asked_for (Increments op) content [] = verb.File (call_of op content)
asked_for (Increments op) content (read ∷ []) =
    verb.File (call_of Rewrite (with_one_more (unwrap_or read.content content)))
asked_for (Increments op) content (read ∷ rewritten ∷ done) =
    verb.Reply (reply_with rewritten.status (with_one_more (unwrap_or read.content content)))
asked_for (Breaks code) content done = verb.Fault code

-- what the server of a class asks on a message: that of STORE by the message's letter and its
-- record
abbrev pub asked_of : ℕ → List ℕ → List FileResult → Verb
asked_of zero message done = asked_for (task_of message) (item (drop 1 message)) done
asked_of (suc c) message done = verb.Stop

-- what a server comes to with its last verb
abbrev pub served_by : Verb → (ℕ → List (List ℕ)) → Served
served_by (verb.Reply reply) files = Reply reply files
served_by (verb.Fault code) files = Fault code
served_by _ files = Fault 0

-- The deck.

-- what a worked deck is made of: the program of each terminal, MAXTMFRESTARTS, the rule of locking
-- and the failure lines
pub record WorkedSetting : Type 0 where
  pub programs : List WorkedProgram
  pub max_restarts : ℕ
  pub rule : LockRule
  pub script : List FailLine

-- the program of a terminal; one that is not there only stops
abbrev pub worked_program : WorkedSetting → ℕ → WorkedProgram
worked_program setting t = slice_index_or setting.programs t (Displays [])

-- the processes of a class
abbrev pub processes_of : ℕ → ℕ
processes_of zero = 2
processes_of (suc c) = 0

-- the length of a file's keys
abbrev pub key_length_of : ℕ → ℕ
key_length_of zero = 2
key_length_of (suc f) = 1

-- the records of a file
abbrev pub worked_records : ℕ → List (List ℕ)
worked_records zero = codes "A10005" ∷ codes "B10007" ∷ []
worked_records (suc f) = []

-- the system of a worked deck, but for what its servers come to
abbrev pub deck_but_serve : WorkedSetting → Behaviour
deck_but_serve setting = record {
  terminals = length setting.programs;
  pairs = 1;
  pair_of = λ t. 0;
  max_restarts = λ t. if nat_lt t (length setting.programs) then setting.max_restarts else 0;
  entries = λ t. program_entry_count (worked_program setting t);
  ask = λ t path. asked_by (worked_program setting t) path;
  image = λ t path. row_of (worked_program setting t) path;
  classes = 1;
  processes = processes_of;
  ops = asked_of;
  serve = λ c message files. Fault 0;
  files = 1;
  key_length = key_length_of;
  records = worked_records;
  rule = setting.rule;
  script = setting.script;
}

-- the same with its servers: none makes more than two operations
abbrev pub with_serve : Behaviour → Behaviour
with_serve sys = record sys {
  serve = λ c message files.
      let at : Play = play_after sys c message files 2 in
      served_by (sys.ops c message at.done) at.files;
}

-- the system of a worked deck
abbrev pub deck : WorkedSetting → Behaviour
deck setting = with_serve (deck_but_serve setting)
