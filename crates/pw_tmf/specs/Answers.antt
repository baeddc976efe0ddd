-- What the calls of a disc answer.
use Rattle.std.specs.Prelude.{◌≡◌, ℕ, [], List, Option, Some, None, zero, suc}
use Rattle.pw_base.specs.Outside.{Rose}
use Rattle.pw_code.specs.declared.file.FileCall.{FileCall}
use Rattle.pw_code.specs.declared.unit.Unit as unit
use Rattle.pw_locks.specs.Conflicts.{holders}
use Rattle.pw_locks.specs.Oldest.{IsOldest}
use Rattle.pw_onecopy.specs.Operation.{answer_of}
use Rattle.pw_paired.specs.State.{LastEnded}
use Rattle.pw_tmf.specs.declared.answer.DiscFault.{DiscFault}
use Rattle.pw_tmf.specs.declared.answer.DiscFault.TheVariants as fault
use Rattle.pw_tmf.specs.declared.answer.Ended.{Ended}
use Rattle.pw_tmf.specs.declared.answer.FileAnswer.{FileAnswer}
use Rattle.pw_tmf.specs.declared.answer.FileAnswer.TheVariants as answer
use Rattle.pw_tmf.specs.declared.answer.Foreseen.{Foreseen}
use Rattle.pw_tmf.specs.declared.answer.Foreseen.TheVariants as foreseen
use Rattle.pw_tmf.specs.Operation.{after_operation, answer_with, lock_now}
use Rattle.pw_tmf.specs.Told.{Told}

-- the count of faults rose, and all else stayed
pub record OnlyFaultsRose (old new : Told) : Type 0 where
  pub count : Rose old.faults new.faults
  pub stays : new ≡ record old { faults = new.faults }

-- what a refused call leaves: all as it was, but for the count where the disc failed
abbrev pub Leaves : DiscFault → Told → Told → Type 0
Leaves fault.Failed old new = OnlyFaultsRose old new
Leaves fault.Memory old new = new ≡ old

-- What an operation answers and leaves. It is done where no other unit holds a lock that conflicts with
-- its own; else the oldest such unit is named, and nothing changes.
abbrev pub Operates : FileAnswer → Told → unit.Unit → FileCall → Told → Type 0
Operates (answer.Done status content) old unit call new =
    (holders (lock_now old unit call) old.locks ≡ [])
    × (answer_with status content ≡ answer_of (old.key_length call.file) (old.files call.file) call.op call)
    × (new ≡ after_operation old unit call)
Operates (answer.Conflict holder) old unit call new = IsOldest holder (holders (lock_now old unit call) old.locks) × (new ≡ old)
Operates answer.Failed old unit call new = OnlyFaultsRose old new
Operates answer.Memory old unit call new = new ≡ old

-- What an operation would answer now: the status with which it would be done, where no other unit holds a lock that
-- conflicts with its own, else the oldest such unit.
abbrev pub Foresees : Foreseen → Told → unit.Unit → FileCall → Type 0
Foresees (foreseen.Done status) told unit call =
    (holders (lock_now told unit call) told.locks ≡ [])
    × (status ≡ (answer_of (told.key_length call.file) (told.files call.file) call.op call).status)
Foresees (foreseen.Conflict holder) told unit call = IsOldest holder (holders (lock_now told unit call) told.locks)

-- a unit's number and reply, where there is a unit: the number 0 is none
abbrev pub ended_with : ℕ → Option (List ℕ) → Option Ended
ended_with zero reply = None
ended_with (suc n) reply = Some (record { number = suc n; reply = reply })

-- the last ended unit of a terminal
abbrev pub ended_unit : LastEnded → Option Ended
ended_unit last = ended_with last.number last.reply
