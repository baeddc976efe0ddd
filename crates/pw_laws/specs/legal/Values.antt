-- Tests of single values: what is there, and whether two values are one.
use Rattle.std.specs.Prelude.{ℕ, ◌==◌, ◌&&◌, Bool, true, false, not, List, [], ◌∷◌, Option, Some, None, bytes_eq}
use Rattle.pw_code.specs.declared.file.FileOp.{FileOp}
use Rattle.pw_code.specs.declared.file.FileOp.TheVariants.{Read, Next, Write, Rewrite, Delete, ReadLock, NextLock}
use Rattle.pw_code.specs.declared.lock.LockMode.{LockMode}
use Rattle.pw_code.specs.declared.lock.LockMode.TheVariants.{Shared, Exclusive}
use Rattle.pw_event.specs.declared.event.Cause.{Cause}
use Rattle.pw_event.specs.declared.event.Cause.TheVariants as cause
use Rattle.pw_event.specs.declared.script.FailLine.{FailLine}
use Rattle.pw_event.specs.declared.script.FailLine.TheVariants as line
use Rattle.pw_onecopy.specs.Path.{PathAnswer, Shown, Entry, Begun, Replied, Failed, Ended, Dropped, RefreshNumber}
use Rattle.pw_paired.specs.State.{PairMode, Alone, Raising, Paired, Down}

-- there is one, and it passes the test
abbrev pub some_with : {A : Type 0} → (A → Bool) → Option A → Bool
some_with test None = false
some_with test (Some x) = test x

-- there is a first one, and it passes the test
abbrev pub first_with : {A : Type 0} → (A → Bool) → List A → Bool
first_with test [] = false
first_with test (x ∷ xs) = test x

-- there is none
abbrev pub is_empty : {A : Type 0} → List A → Bool
is_empty [] = true
is_empty (x ∷ xs) = false

-- Modes of a pair.

-- the mode is Alone
abbrev pub is_alone : PairMode → Bool
is_alone Alone = true
is_alone _ = false

-- the mode is Raising
abbrev pub is_raising : PairMode → Bool
is_raising Raising = true
is_raising _ = false

-- the mode is Paired
abbrev pub is_paired : PairMode → Bool
is_paired Paired = true
is_paired _ = false

-- the mode is Down
abbrev pub is_down : PairMode → Bool
is_down Down = true
is_down _ = false

-- Two values.

-- both are none, or one number
abbrev pub is_same_number : Option ℕ → Option ℕ → Bool
is_same_number None None = true
is_same_number (Some a) (Some b) = a == b
is_same_number _ _ = false

-- both are true, or both false
abbrev pub is_same_truth : Bool → Bool → Bool
is_same_truth true b = b
is_same_truth false b = not b

-- two answers are one
abbrev pub is_same_answer : PathAnswer → PathAnswer → Bool
is_same_answer Shown Shown = true
is_same_answer (Entry k) (Entry l) = k == l
is_same_answer (Begun r) (Begun s) = r == s
is_same_answer (Replied reply) (Replied other) = bytes_eq reply other
is_same_answer (Failed code) (Failed other) = code == other
is_same_answer Ended Ended = true
is_same_answer Dropped Dropped = true
is_same_answer _ _ = false

-- two paths are one
abbrev pub is_same_path : List PathAnswer → List PathAnswer → Bool
is_same_path [] [] = true
is_same_path (answer ∷ path) (other ∷ others) =
    is_same_answer answer other && is_same_path path others
is_same_path _ _ = false

-- two refresh numbers are one
abbrev pub is_same_refresh : RefreshNumber → RefreshNumber → Bool
is_same_refresh a b = a.phase == b.phase && (a.attempt == b.attempt && a.k == b.k)

-- two operations are one
abbrev pub is_same_op : FileOp → FileOp → Bool
is_same_op Read Read = true
is_same_op Next Next = true
is_same_op Write Write = true
is_same_op Rewrite Rewrite = true
is_same_op Delete Delete = true
is_same_op ReadLock ReadLock = true
is_same_op NextLock NextLock = true
is_same_op _ _ = false

-- two modes of locking are one
abbrev pub is_same_mode : LockMode → LockMode → Bool
is_same_mode Shared Shared = true
is_same_mode Exclusive Exclusive = true
is_same_mode _ _ = false

-- Causes and failure lines.

-- the cause is TAKEOVER p
abbrev pub is_takeover_by : ℕ → Cause → Bool
is_takeover_by p (cause.Takeover q) = q == p
is_takeover_by p _ = false

-- the cause is SERVER k
abbrev pub is_server_by : ℕ → Cause → Bool
is_server_by k (cause.Server l) = l == k
is_server_by k _ = false

-- the line is one of the primary, or of the backup, of pair p
abbrev pub is_line_of_member : ℕ → Bool → FailLine → Bool
is_line_of_member p primary (line.Tcp q own after) = q == p && is_same_truth own primary
is_line_of_member p primary _ = false

-- the line is one of process i of class c
abbrev pub is_line_of_process : ℕ → ℕ → FailLine → Bool
is_line_of_process c i (line.Server d j after) = d == c && j == i
is_line_of_process c i _ = false
