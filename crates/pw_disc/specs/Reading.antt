-- How a disc message is read: each reader gives what stands at the front of some bytes, and the bytes behind it, or
-- nothing.
use Rattle.std.specs.Prelude.{ℕ, zero, suc, Bool, List, [], ◌∷◌, Option, Some, None, nat_le}
use Rattle.std.specs.Int.{w32, w64}
use Rattle.pw_code.specs.declared.file.FileCall.{FileCall}
use Rattle.pw_code.specs.declared.file.FileOp.{FileOp}
use Rattle.pw_code.specs.declared.file.FileOp.TheVariants.{Read, Next, Write, Rewrite, Delete, ReadLock, NextLock}
use Rattle.pw_code.specs.declared.unit.Unit as unit
use Rattle.pw_disc.specs.declared.call.DiscCall.{DiscCall}
use Rattle.pw_disc.specs.declared.call.DiscCall.TheVariants.{Begin, Operate, Commit, BackOut}
use Rattle.pw_image.specs.Reading.{Front, all_of, block_at, both_at, byte_at, counted_at, is_any, is_truth, made_at, many_at, number_at, truth_of}

-- a unit
abbrev pub unit_from : ℕ × (ℕ × ℕ) → unit.Unit
unit_from parts = record { terminal = parts.0; number = parts.1.0; birth = parts.1.1 }

unfoldable pub unit_at : List ℕ → Front unit.Unit
unit_at = made_at unit_from (both_at (number_at w32) (both_at (number_at w32) (number_at w64)))

-- a length, and so many bytes
unfoldable pub piece_at : List ℕ → Front (List ℕ)
piece_at = counted_at (number_at w32) is_any block_at

-- the operation that a byte is
abbrev pub is_op : ℕ → Bool
is_op byte = nat_le byte 6

-- the operation that a byte from 0 to 6 stands for
abbrev pub op_of : ℕ → FileOp
op_of zero = Read
op_of (suc zero) = Next
op_of (suc (suc zero)) = Write
op_of (suc (suc (suc zero))) = Rewrite
op_of (suc (suc (suc (suc zero)))) = Delete
op_of (suc (suc (suc (suc (suc zero))))) = ReadLock
op_of (suc (suc (suc (suc (suc (suc n)))))) = NextLock

-- an operation on a file
abbrev pub file_call_from : ℕ × (ℕ × (List ℕ × List ℕ)) → FileCall
file_call_from parts = record {
  file = parts.0;
  op = op_of parts.1.0;
  key = parts.1.1.0;
  content = parts.1.1.1;
}

unfoldable pub file_call_at : List ℕ → Front FileCall
file_call_at =
    made_at file_call_from
    (both_at (number_at w32) (both_at (byte_at is_op) (both_at piece_at piece_at)))

-- no reply behind a 0, and one behind a 1
abbrev pub reply_behind : ℕ → List ℕ → Front (Option (List ℕ))
reply_behind zero bytes = Some (None, bytes)
reply_behind (suc zero) bytes = made_at Some piece_at bytes
reply_behind (suc (suc n)) bytes = None

unfoldable pub reply_at : List ℕ → Front (Option (List ℕ))
reply_at = counted_at (byte_at is_truth) is_any reply_behind

-- a count, and so many units
unfoldable pub others_at : List ℕ → Front (List unit.Unit)
others_at = counted_at (number_at w32) is_any (many_at unit_at)

-- what stands behind the kind of a call
abbrev pub operate_from : unit.Unit × FileCall → DiscCall
operate_from parts = Operate parts.0 parts.1

-- a commit from the unit and the reply that were read
abbrev pub commit_from : unit.Unit × Option (List ℕ) → DiscCall
commit_from parts = Commit parts.0 parts.1

-- a backing out from the first unit, whether the units end, and the others
abbrev pub back_out_from : unit.Unit × (ℕ × List unit.Unit) → DiscCall
back_out_from parts = BackOut (parts.0 ∷ parts.1.1) (truth_of parts.1.0)

unfoldable pub begin_at : List ℕ → Front DiscCall
begin_at = made_at Begin unit_at

unfoldable pub operate_at : List ℕ → Front DiscCall
operate_at = made_at operate_from (both_at unit_at file_call_at)

unfoldable pub commit_at : List ℕ → Front DiscCall
commit_at = made_at commit_from (both_at unit_at reply_at)

unfoldable pub back_out_at : List ℕ → Front DiscCall
back_out_at =
    made_at back_out_from (both_at unit_at (both_at (byte_at is_truth) others_at))

-- a call, by its kind
abbrev pub call_behind : ℕ → List ℕ → Front DiscCall
call_behind zero bytes = None
call_behind (suc zero) bytes = begin_at bytes
call_behind (suc (suc zero)) bytes = operate_at bytes
call_behind (suc (suc (suc zero))) bytes = commit_at bytes
call_behind (suc (suc (suc (suc zero)))) bytes = back_out_at bytes
call_behind (suc (suc (suc (suc (suc n))))) bytes = None

unfoldable pub call_at : List ℕ → Front DiscCall
call_at = counted_at (byte_at is_any) is_any call_behind

-- the call that a message is of, if the bytes are one
unfoldable pub call_in : List ℕ → Option DiscCall
call_in bytes = all_of (call_at bytes)
