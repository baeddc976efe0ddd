-- A file operation: what it answers, what it does to the records, and how it locks.
use Rattle.std.specs.Prelude.{ℕ, ◌==◌, ◌&&◌, Bool, true, false, List, take, Option, Some, None, if◌then◌else◌}
use Rattle.pw_code.specs.Locks.{mode_of}
use Rattle.pw_code.specs.declared.file.FileCall.{FileCall}
use Rattle.pw_code.specs.declared.file.FileOp.{FileOp}
use Rattle.pw_code.specs.declared.file.FileOp.TheVariants.{Read, Next, Write, Rewrite, Delete, ReadLock, NextLock}
use Rattle.pw_code.specs.declared.lock.LockRule.{LockRule}
use Rattle.pw_code.specs.declared.unit.Unit as unit
use Rattle.pw_files.specs.Records.{record_at, record_after, has_key, with_record, without_key}
use Rattle.pw_locks.specs.Conflicts.{lock_of}
use Rattle.pw_locks.specs.declared.lock.Lock.{Lock}
use Rattle.pw_locks.specs.declared.span.Span.{Span}
use Rattle.pw_locks.specs.declared.span.Span.TheVariants.{Point, After}
use Rattle.pw_onecopy.specs.Path.{FileResult}

-- the operation as its entry names it, without the mark of a locking read
abbrev pub plain_op : FileOp → FileOp
plain_op Read = Read
plain_op Next = Next
plain_op Write = Write
plain_op Rewrite = Rewrite
plain_op Delete = Delete
plain_op ReadLock = Read
plain_op NextLock = Next

-- the key that an operation speaks of, in a file with keys of n characters: that of its record, or
-- its own
abbrev pub key_of : ℕ → FileOp → FileCall → List ℕ
key_of n Write call = take n call.content
key_of n Rewrite call = take n call.content
key_of n _ call = call.key

-- a read: status 0 with the record found, or this status where there is none
abbrev pub read_answer : ℕ → Option (List ℕ) → FileResult
read_answer missing None = record { status = missing; content = None }
read_answer missing (Some content) = record { status = 0; content = Some content }

-- a change: status 0 where it can be done, or this status
abbrev pub change_answer : ℕ → Bool → FileResult
change_answer refused true = record { status = 0; content = None }
change_answer refused false = record { status = refused; content = None }

-- the answer of an operation on these records: 11 where there is no record of the key, 10 where
-- there is one to WRITE, 1 where no larger key has one
abbrev pub answer_of : ℕ → List (List ℕ) → FileOp → FileCall → FileResult
answer_of n records Read call = read_answer 11 (record_at n records call.key)
answer_of n records ReadLock call = read_answer 11 (record_at n records call.key)
answer_of n records Next call = read_answer 1 (record_after n records call.key)
answer_of n records NextLock call = read_answer 1 (record_after n records call.key)
answer_of n records Write call =
    change_answer 10 (if has_key n records (key_of n Write call) then false else true)
answer_of n records Rewrite call = change_answer 11 (has_key n records (key_of n Rewrite call))
answer_of n records Delete call = change_answer 11 (has_key n records call.key)

-- the operation changes a record where its status is 0
abbrev pub is_change : FileOp → Bool
is_change Write = true
is_change Rewrite = true
is_change Delete = true
is_change _ = false

-- the records after an operation of status 0
abbrev pub changed_records : ℕ → List (List ℕ) → FileOp → FileCall → List (List ℕ)
changed_records n records Write call = with_record n records call.content
changed_records n records Rewrite call = with_record n records call.content
changed_records n records Delete call = without_key n records call.key
changed_records n records _ call = records

-- the operation changes these records
abbrev pub changes_records : ℕ → List (List ℕ) → FileCall → Bool
changes_records n records call = is_change call.op && (answer_of n records call.op call).status == 0

-- the records after an operation
abbrev pub records_behind : ℕ → List (List ℕ) → FileCall → List (List ℕ)
records_behind n records call =
    if changes_records n records call then changed_records n records call.op call else records

-- the key of a record that was found, if any
abbrev pub found_key : ℕ → Option (List ℕ) → Option (List ℕ)
found_key n None = None
found_key n (Some content) = Some (take n content)

-- what an operation locks: the keys above its key up to and including the key found, or all above
-- its key where none is found, for READ NEXT; the point of its key for every other one
abbrev pub span_of : ℕ → List (List ℕ) → FileOp → FileCall → Span
span_of n records Next call = After call.key (found_key n (record_after n records call.key))
span_of n records NextLock call = After call.key (found_key n (record_after n records call.key))
span_of n records op call = Point (key_of n op call)

-- the lock that an operation takes for a unit on these records under a rule
abbrev pub lock_for : LockRule → ℕ → List (List ℕ) → unit.Unit → FileCall → Lock
lock_for rule n records unit call =
    lock_of unit call.file (span_of n records call.op call) (mode_of rule call.op)
