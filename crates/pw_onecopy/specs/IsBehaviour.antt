-- What holds of the programs, servers and files of every deck.
use Rattle.std.specs.Prelude.{◌≡◌, ℕ, ◌+◌, ◌<◌, ◌≤◌, Bool, true, false, List, [], ◌∷◌, ◌++◌, length}
use Rattle.pw_code.specs.declared.file.FileCall.{FileCall}
use Rattle.pw_code.specs.declared.file.FileOp.{FileOp}
use Rattle.pw_code.specs.declared.file.FileOp.TheVariants.{Write, Rewrite}
use Rattle.pw_code.specs.declared.verb.Verb.{Verb}
use Rattle.pw_code.specs.declared.verb.Verb.TheVariants as verb
use Rattle.pw_files.specs.Records.{IsContent, IsFile}
use Rattle.pw_onecopy.specs.Behaviour.{Behaviour, Served, Reply, Fault}
use Rattle.pw_onecopy.specs.Operation.{key_of}
use Rattle.pw_onecopy.specs.Path.{PathAnswer, Shown, Entry, Begun, Replied, Failed, Ended, Dropped, FileResult, is_outside, entries_on}
use Rattle.pw_onecopy.specs.Play.{Play, play_after}

-- the operation writes a record
abbrev pub is_written : FileOp → Bool
is_written Write = true
is_written Rewrite = true
is_written _ = false

-- the server's verb is the reply or the run fault to which it comes, and it leaves these files
abbrev pub ComesTo : Served → Verb → (ℕ → List (List ℕ)) → Type 0
ComesTo (Reply reply files) (verb.Reply own) at = (own ≡ reply) × (at ≡ files)
ComesTo (Fault code) (verb.Fault own) at = own ≡ code
ComesTo _ _ at = ⊥

-- the operations of a server's run add up to what it comes to by itself
pub record AddsUp (sys : Behaviour) (c : ℕ) (message : List ℕ)
    (files : ℕ → List (List ℕ)) : Type 0 where
  pub operations : ℕ
  pub comes : let at : Play = play_after sys c message files operations in
      ComesTo (sys.serve c message files) (sys.ops c message at.done) at.files

-- the answer is one to this verb after this path
abbrev pub Suits : Behaviour → ℕ → List PathAnswer → Verb → PathAnswer → Type 0
Suits sys t path verb.Show Shown = Unit {0}
Suits sys t path (verb.Accept screen) (Entry k) = (k ≡ entries_on path + 1) × (k ≤ sys.entries t)
Suits sys t path verb.Begin (Begun r) = Unit {0}
Suits sys t path (verb.Send class message) (Replied reply) = Unit {0}
Suits sys t path (verb.Send class message) (Failed code) = Unit {0}
Suits sys t path verb.End Ended = Unit {0}
Suits sys t path verb.Drop Dropped = Unit {0}
Suits sys t path _ _ = ⊥

-- each answer of a path is one to the verb before it, where the path goes on from these answers
abbrev pub SuitsFrom : Behaviour → ℕ → List PathAnswer → List PathAnswer → Type 0
SuitsFrom sys t before [] = Unit {0}
SuitsFrom sys t before (answer ∷ path) =
    Suits sys t before (sys.ask t before) answer × SuitsFrom sys t (before ++ answer ∷ []) path

-- a path that the program of a started terminal may have: each answer is one to the verb before it
pub record IsPath (sys : Behaviour) (t : ℕ) (path : List PathAnswer) : Type 0 where
  pub known : t < sys.terminals
  pub suits : SuitsFrom sys t [] path

-- any verb but File and Reply
abbrev pub IsAsked : Verb → Type 0
IsAsked (verb.File call) = ⊥
IsAsked (verb.Reply reply) = ⊥
IsAsked _ = Unit {0}

-- What holds of every deck. A terminal's pair is there. Its program asks the verbs of terminals;
-- Begin and Stop come outside transactions alone, and End, Drop and Redo inside them; a program
-- whose server had a run fault has this run fault; messages go to classes that are there, and each
-- of these has a process. An operation of a server names a file that is there and has a key of that
-- file's length; what it writes has the length of a record; and a server's operations add up to
-- what it comes to by itself. The files are files.
pub record IsBehaviour (sys : Behaviour) : Type 0 where
  pub pairs : (t : ℕ) → t < sys.terminals → sys.pair_of t < sys.pairs
  pub asks : (t : ℕ) (path : List PathAnswer) → IsPath sys t path → IsAsked (sys.ask t path)
  pub begins : (t : ℕ) (path : List PathAnswer) → IsPath sys t path → sys.ask t path ≡ verb.Begin
      → is_outside path ≡ true
  pub stops : (t : ℕ) (path : List PathAnswer) → IsPath sys t path → sys.ask t path ≡ verb.Stop
      → is_outside path ≡ true
  pub ends : (t : ℕ) (path : List PathAnswer) → IsPath sys t path → sys.ask t path ≡ verb.End
      → is_outside path ≡ false
  pub drops : (t : ℕ) (path : List PathAnswer) → IsPath sys t path → sys.ask t path ≡ verb.Drop
      → is_outside path ≡ false
  pub redoes : (t : ℕ) (path : List PathAnswer) → IsPath sys t path → sys.ask t path ≡ verb.Redo
      → is_outside path ≡ false
  pub fails : (t c x : ℕ) (message : List ℕ) (path : List PathAnswer) → IsPath sys t path
      → sys.ask t path ≡ verb.Send c message → sys.ask t (path ++ Failed x ∷ []) ≡ verb.Fault x
  pub sends : (t c : ℕ) (message : List ℕ) (path : List PathAnswer) → IsPath sys t path
      → sys.ask t path ≡ verb.Send c message → c < sys.classes
  pub staffed : (c : ℕ) → c < sys.classes → 1 ≤ sys.processes c
  pub calls : (c : ℕ) (message : List ℕ) (done : List FileResult) (call : FileCall)
      → c < sys.classes
      → sys.ops c message done ≡ verb.File call → call.file < sys.files
  pub keys : (c : ℕ) (message : List ℕ) (done : List FileResult) (call : FileCall) → c < sys.classes
      → sys.ops c message done ≡ verb.File call
      → length (key_of (sys.key_length call.file) call.op call) ≡ sys.key_length call.file
  pub writes : (c : ℕ) (message : List ℕ) (done : List FileResult) (call : FileCall)
      → c < sys.classes
      → sys.ops c message done ≡ verb.File call → is_written call.op ≡ true
      → IsContent (sys.key_length call.file) call.content
  pub adds_up : (c : ℕ) (message : List ℕ) (files : ℕ → List (List ℕ)) → c < sys.classes
      → ((f : ℕ) → IsFile (sys.key_length f) (files f)) → AddsUp sys c message files
  pub files : (f : ℕ) → IsFile (sys.key_length f) (sys.records f)
