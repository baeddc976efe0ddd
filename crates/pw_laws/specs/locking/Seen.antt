-- What operations see, and what a server's run by itself sees.
use Rattle.std.specs.Prelude.{◌≡◌, ℕ, ◌<◌, List}
use Rattle.pw_code.specs.declared.file.FileCall.{FileCall}
use Rattle.pw_code.specs.declared.verb.Verb.{Verb}
use Rattle.pw_code.specs.declared.verb.Verb.TheVariants as verb
use Rattle.pw_files.specs.Records.{record_at, IsFile}
use Rattle.pw_locks.specs.Spans.{Covers}
use Rattle.pw_onecopy.specs.Behaviour.{Behaviour}
use Rattle.pw_onecopy.specs.Operation.{span_of}
use Rattle.pw_onecopy.specs.Play.{play_after}

-- two lists of records have the same record at every key that an operation locks in the first one
abbrev pub AgreeOn : ℕ → List (List ℕ) → List (List ℕ) → FileCall → Type 0
AgreeOn n a b call =
    (key : List ℕ) → Covers (span_of n a call.op call) key → record_at n a key ≡ record_at n b key

-- each file is a file
abbrev pub AreFiles : Behaviour → (ℕ → List (List ℕ)) → Type 0
AreFiles sys files = (f : ℕ) → IsFile (sys.key_length f) (files f)

-- two sets of files have the same record at a key of a file
abbrev pub HaveSameAt : Behaviour → (ℕ → List (List ℕ)) → (ℕ → List (List ℕ)) → ℕ → List ℕ → Type 0
HaveSameAt sys a b f key =
    record_at (sys.key_length f) (a f) key ≡ record_at (sys.key_length f) (b f) key

-- an operation locks a key of its file
abbrev pub CallCovers : Behaviour → (ℕ → List (List ℕ)) → FileCall → List ℕ → Type 0
CallCovers sys files call key =
    Covers (span_of (sys.key_length call.file) (files call.file) call.op call) key

-- the verb of the server of a class on a message and files, behind n operations by itself
abbrev pub verb_at : Behaviour → ℕ → List ℕ → (ℕ → List (List ℕ)) → ℕ → Verb
verb_at sys c message files n = sys.ops c message (play_after sys c message files n).done

-- the files behind n operations
abbrev pub files_at : Behaviour → ℕ → List ℕ → (ℕ → List (List ℕ)) → ℕ → ℕ → List (List ℕ)
files_at sys c message files n = (play_after sys c message files n).files

-- two sets of files have the same record at each key that one of the first n operations of the run
-- on the first one locks
abbrev pub AgreeOnRun : Behaviour → ℕ → List ℕ → (ℕ → List (List ℕ)) → (ℕ → List (List ℕ)) → ℕ
    → Type 0
AgreeOnRun sys c message a b n =
    (i : ℕ) → i < n → (call : FileCall) → verb_at sys c message a i ≡ verb.File call
    → (key : List ℕ) → CallCovers sys (files_at sys c message a i) call key
    → HaveSameAt sys a b call.file key
