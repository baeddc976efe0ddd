-- Whom the entries of a log belong to, and the failure line that is due.
use Rattle.std.specs.Prelude.{ℕ, ◌+◌, nat_le, ◌==◌, ◌&&◌, Bool, false, not, List, [], ◌∷◌, length, filter, find, slice_index_or, Option, Some, None, if◌then◌else◌}
use Rattle.std.specs.List.{list_any}
use Rattle.pw_code.specs.declared.system.System.{System}
use Rattle.pw_event.specs.Line.{no_terminal}
use Rattle.pw_event.specs.declared.event.Event.{Event}
use Rattle.pw_event.specs.declared.event.Event.TheVariants.{Show, Key, CheckStart, CheckEnd, CheckCopy, Applied, Begin, Send, Take, File, Reply, Again, Commit, Back, Restart, FailTcp, FailServer, Takeover, Raise, End}
use Rattle.pw_event.specs.declared.script.FailLine.{FailLine}
use Rattle.pw_event.specs.declared.script.FailLine.TheVariants as line
use Rattle.pw_event.specs.declared.script.Owner.{Owner}
use Rattle.pw_event.specs.declared.script.Owner.TheVariants.{Tcp, Class}

-- Whom an entry belongs to: TAKE, FILE, REPLY and FAIL SERVER to their class, every other one to its terminal's pair or
-- to the pair that it names.
abbrev pub owner_of : (ℕ → ℕ) → Event → Owner
owner_of pair_of (Show t phase attempt k) = Tcp (pair_of t)
owner_of pair_of (Key t k) = Tcp (pair_of t)
owner_of pair_of (CheckStart t) = Tcp (pair_of t)
owner_of pair_of (CheckEnd t) = Tcp (pair_of t)
owner_of pair_of (CheckCopy t) = Tcp (pair_of t)
owner_of pair_of (Applied t) = Tcp (pair_of t)
owner_of pair_of (Begin t n r) = Tcp (pair_of t)
owner_of pair_of (Send t n c) = Tcp (pair_of t)
owner_of pair_of (Take c i t) = Class c
owner_of pair_of (File c i op mode f status) = Class c
owner_of pair_of (Reply c i t fault) = Class c
owner_of pair_of (Again t n) = Tcp (pair_of t)
owner_of pair_of (Commit t n) = Tcp (pair_of t)
owner_of pair_of (Back t n) = Tcp (pair_of t)
owner_of pair_of (Restart t n cause) = Tcp (pair_of t)
owner_of pair_of (FailTcp p primary k) = Tcp p
owner_of pair_of (FailServer c i k) = Class c
owner_of pair_of (Takeover p) = Tcp p
owner_of pair_of (Raise p) = Tcp p
owner_of pair_of (End t ending) = Tcp (pair_of t)

-- the pair of a terminal; one that is not there counts to the first pair
abbrev pub pair_of : System → ℕ → ℕ
pair_of system t = (slice_index_or system.terminals t no_terminal).tcp

-- whom a failure line is of
abbrev pub owner_of_line : FailLine → Owner
owner_of_line (line.Tcp p primary after) = Tcp p
owner_of_line (line.Server c i after) = Class c

-- after how many entries of its owner a failure line is due
abbrev pub after_of : FailLine → ℕ
after_of (line.Tcp p primary after) = after
after_of (line.Server c i after) = after

-- both are one pair, or one class
abbrev pub is_same_owner : Owner → Owner → Bool
is_same_owner (Tcp p) (Tcp q) = p == q
is_same_owner (Tcp p) (Class d) = false
is_same_owner (Class c) (Tcp q) = false
is_same_owner (Class c) (Class d) = c == d

-- how many entries of the log belong to an owner
abbrev pub owner_entry_count : (ℕ → ℕ) → Owner → List Event → ℕ
owner_entry_count pair_of owner log = length (filter (λ entry. is_same_owner (owner_of pair_of entry) owner) log)

-- the entry is the FAIL entry of this line
abbrev pub is_fail_of : ℕ → Event → Bool
is_fail_of k (FailTcp p primary l) = l == k
is_fail_of k (FailServer c i l) = l == k
is_fail_of k _ = false

-- a failure line with its number in the script, from 1
pub record Numbered : Type 0 where
  pub number : ℕ
  pub line : FailLine

-- the lines with their numbers, of which the first is k
abbrev pub numbered : ℕ → List FailLine → List Numbered
numbered k [] = []
numbered k (line ∷ lines) = record { number = k; line = line } ∷ numbered (k + 1) lines

-- a line of the owner that has no FAIL entry yet
abbrev pub is_open : List Event → Owner → Numbered → Bool
is_open log owner l = is_same_owner (owner_of_line l.line) owner && not (list_any (is_fail_of l.number) log)

-- the first line of the owner that has no FAIL entry yet
abbrev pub next_failure : List FailLine → List Event → Owner → Option Numbered
next_failure lines log owner = find (is_open log owner) (numbered 1 lines)

-- the number of the line, where its count is at most the number of entries
abbrev pub if_due : ℕ → Option Numbered → Option ℕ
if_due entries None = None
if_due entries (Some l) = if nat_le (after_of l.line) entries then Some l.number else None

-- the failure line of an owner that is due
abbrev pub due_line : (ℕ → ℕ) → List FailLine → List Event → Owner → Option ℕ
due_line pair_of lines log owner = if_due (owner_entry_count pair_of owner log) (next_failure lines log owner)
