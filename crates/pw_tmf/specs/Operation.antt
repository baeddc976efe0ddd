-- A file operation of a unit.
use Rattle.std.specs.Prelude.{◌≡◌, ℕ, ◌<◌, ◌&&◌, Bool, true, false, List, [], ◌∷◌, ◌++◌, length, Option, None, Some, if◌then◌else◌}
use Rattle.std.specs.List.{list_any}
use Rattle.std.specs.Option.{option_map}
use Rattle.pw_code.specs.declared.file.FileCall.{FileCall}
use Rattle.pw_code.specs.declared.file.FileOp.{FileOp}
use Rattle.pw_code.specs.declared.file.FileOp.TheVariants.{Write, Rewrite, Delete}
use Rattle.pw_code.specs.declared.unit.Unit as unit
use Rattle.pw_files.specs.Records.{IsContent}
use Rattle.pw_locks.specs.Conflicts.{conflict, is_same_unit}
use Rattle.pw_locks.specs.declared.lock.Lock.{Lock}
use Rattle.pw_onecopy.specs.IsBehaviour.{is_written}
use Rattle.pw_onecopy.specs.Operation.{lock_for, records_behind}
use Rattle.pw_onecopy.specs.Path.{FileResult}
use Rattle.pw_onecopy.specs.Update.{upd}
use Rattle.pw_paired.specs.Units.{image_before, is_first_change}
use Rattle.pw_tmf.specs.Told.{ToldUnit, Told}

-- The file is one of the disc's, what is written has the length of a record, and another operation's
-- key is as long as the file's keys. Nothing is asked of a field that the operation does not use.
pub record IsCall (told : Told) (call : FileCall) : Type 0 where
  pub file : call.file < told.file_count
  pub content : is_written call.op ≡ true → IsContent (told.key_length call.file) call.content
  pub key : is_written call.op ≡ false → length call.key ≡ told.key_length call.file

-- the lock that an operation takes for a unit now
abbrev pub lock_now : Told → unit.Unit → FileCall → Lock
lock_now told unit call = lock_for told.rule (told.key_length call.file) (told.files call.file) unit call

-- the unit of a terminal with the before-image of what an operation changes, where it is the first
abbrev pub with_image : ℕ → List (List ℕ) → ℕ → FileCall → ToldUnit → ToldUnit
with_image n records t call unit =
    if is_first_change n records t call unit.before
    then record unit { before = image_before n records t call ∷ unit.before }
    else unit

-- why a WRITE, REWRITE or DELETE is refused, by whether there is a record with its key
abbrev pub refusal : FileOp → Bool → Option ℕ
refusal Write true = Some 10
refusal Rewrite false = Some 11
refusal Delete false = Some 11
refusal _ is_there = None

-- the status of a WRITE, REWRITE or DELETE that is refused, or not
abbrev pub status_with : Option ℕ → ℕ
status_with None = 0
status_with (Some status) = status

-- a file status and a record that was read, if any, as the answer of an operation
abbrev pub answer_with : ℕ → Option (List ℕ) → FileResult
answer_with status content = record { status = status; content = content }

-- the lock is added, and the operation is done
abbrev pub after_operation : Told → unit.Unit → FileCall → Told
after_operation told unit call = record told {
  files = upd told.files call.file (records_behind (told.key_length call.file) (told.files call.file) call);
  locks = told.locks ++ lock_now told unit call ∷ [];
  units = upd told.units unit.terminal (option_map (with_image (told.key_length call.file) (told.files call.file) unit.terminal call) (told.units unit.terminal));
}

-- the lock that an operation of one unit would take now conflicts with a lock of another unit
abbrev pub awaits : Told → unit.Unit → FileCall → unit.Unit → Bool
awaits told unit call holder = list_any (λ held. is_same_unit held.unit holder && conflict (lock_now told unit call) held) told.locks
