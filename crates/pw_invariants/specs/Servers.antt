-- What is enough for each unit to keep an invariant of the records.
use Rattle.std.specs.Prelude.{◌≡◌, ℕ, ◌<◌, List}
use Rattle.pw_code.specs.declared.file.FileCall.{FileCall}
use Rattle.pw_code.specs.declared.verb.Verb.TheVariants as verb
use Rattle.pw_invariants.specs.Units.{FileRecords}
use Rattle.pw_laws.specs.locking.Seen.{AreFiles}
use Rattle.pw_onecopy.specs.Behaviour.{Behaviour, Reply}
use Rattle.pw_onecopy.specs.Operation.{records_behind}
use Rattle.pw_onecopy.specs.Path.{FileResult}
use Rattle.pw_onecopy.specs.Update.{upd}

-- each server that replies, run by itself on records that meet it, leaves records that meet it
abbrev pub ServersKeep : Behaviour → (FileRecords → Type 0) → Type 0
ServersKeep sys holds =
    (c : ℕ) (message reply : List ℕ) (records left : FileRecords) → c < sys.classes
    → AreFiles sys records → sys.serve c message records ≡ Reply reply left
    → holds records → holds left

-- each file operation that a server may ask leaves records that meet it
abbrev pub OperationsKeep : Behaviour → (FileRecords → Type 0) → Type 0
OperationsKeep sys holds =
    (c : ℕ) (message : List ℕ) (done : List FileResult) (call : FileCall) (records : FileRecords)
    → c < sys.classes → AreFiles sys records → sys.ops c message done ≡ verb.File call
    → holds records
    → holds (upd records call.file
    (records_behind (sys.key_length call.file) (records call.file) call))
