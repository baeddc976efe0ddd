-- Which operations servers ask of a file: of a behaviour, and by the statements of a deck.
use Rattle.std.specs.Prelude.{◌≡◌, ℕ, ◌<◌, ◌==◌, ◌&&◌, Bool, true, false, List, if◌then◌else◌}
use Rattle.std.specs.List.{list_all}
use Rattle.pw_code.specs.declared.file.FileCall.{FileCall}
use Rattle.pw_code.specs.declared.file.FileOp.{FileOp}
use Rattle.pw_code.specs.declared.file.FileOp.TheVariants.{Read, Next, Write, Rewrite, Delete, ReadLock, NextLock}
use Rattle.pw_code.specs.declared.verb.Verb.TheVariants as verb
use Rattle.pw_forms.specs.declared.statement.Statement.{Statement}
use Rattle.pw_forms.specs.declared.statement.Statement as form
use Rattle.pw_forms.specs.declared.statement.Statement.{Row_of-Statement, end_of-Statement, more_of-Statement}
use Rattle.pw_onecopy.specs.Behaviour.{Behaviour}
use Rattle.pw_onecopy.specs.Path.{FileResult}
use Rattle.pw_tree_meaning.specs.Program.{DeckModel, Program, file_number}
use Rattle.pw_words.specs.Words.{Word}

-- ---- kinds of operations

-- the operation reads
abbrev pub only_reads : FileOp → Bool
only_reads Write = false
only_reads Rewrite = false
only_reads Delete = false
only_reads _ = true

-- it reads, or adds a record
abbrev pub only_adds : FileOp → Bool
only_adds Rewrite = false
only_adds Delete = false
only_adds _ = true

-- it takes no record away
abbrev pub takes_none : FileOp → Bool
takes_none Delete = false
takes_none _ = true

-- ---- what servers ask

-- each operation that a server of the deck asks of file f is one of these
abbrev pub AsksOnly : Behaviour → ℕ → (FileOp → Bool) → Type 0
AsksOnly sys f may =
    (c : ℕ) (message : List ℕ) (done : List FileResult) (call : FileCall) → c < sys.classes
    → sys.ops c message done ≡ verb.File call → call.file ≡ f → may call.op ≡ true

-- ---- the statements of a deck

-- an operation on the file of a name: where that is file f, it is one of these
abbrev pub may_operate : DeckModel → ℕ → (FileOp → Bool) → Word → FileOp → Bool
may_operate deck f may file op = if file_number deck file == f then may op else true

abbrev mutual
  -- each operation of a statement, and of its branches, on file f is one of these
  pub operates_only : DeckModel → ℕ → (FileOp → Bool) → Statement → Bool
  operates_only deck f may (form.OnSizeError' line a n first m second) =
      row_operates_only deck f may first && row_operates_only deck f may second
  operates_only deck f may (form.If' line cond n first m second) =
      row_operates_only deck f may first && row_operates_only deck f may second
  operates_only deck f may (form.Read line file locking key into) =
      may_operate deck f may file (if locking then ReadLock else Read)
  operates_only deck f may (form.ReadNext line file locking after into) =
      may_operate deck f may file (if locking then NextLock else Next)
  operates_only deck f may (form.Write line file from) = may_operate deck f may file Write
  operates_only deck f may (form.Rewrite line file from) = may_operate deck f may file Rewrite
  operates_only deck f may (form.Delete line file key) = may_operate deck f may file Delete
  operates_only deck f may _ = true

  pub row_operates_only : {n : _} → DeckModel → ℕ → (FileOp → Bool) → Row_of-Statement n → Bool
  row_operates_only deck f may end_of-Statement = true
  row_operates_only deck f may (more_of-Statement one rest) =
      operates_only deck f may one && row_operates_only deck f may rest

-- so is each one of a server
abbrev pub server_operates_only : DeckModel → ℕ → (FileOp → Bool) → Program → Bool
server_operates_only deck f may program =
    list_all (λ paragraph. list_all (operates_only deck f may) paragraph.body) program.paragraphs

-- and of all servers of the deck
abbrev pub servers_operate_only : DeckModel → ℕ → (FileOp → Bool) → Bool
servers_operate_only deck f may = list_all (server_operates_only deck f may) deck.servers
