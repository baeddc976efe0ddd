-- Locks, and when two of them conflict.
use Rattle.std.specs.Prelude.{ℕ, ◌==◌, List, Bool, true, false, not, ◌&&◌, map, filter}
use Rattle.pw_code.specs.declared.unit.Unit as unit
use Rattle.pw_code.specs.declared.lock.LockMode.{LockMode}
use Rattle.pw_code.specs.declared.lock.LockMode.TheVariants.{Shared, Exclusive}
use Rattle.pw_locks.specs.Spans.{overlap}
use Rattle.pw_locks.specs.declared.lock.Lock.{Lock}
use Rattle.pw_locks.specs.declared.span.Span.{Span}

-- two units are one where they have one terminal and one number
abbrev pub is_same_unit : unit.Unit → unit.Unit → Bool
is_same_unit a b = a.terminal == b.terminal && a.number == b.number

-- both lock shared
abbrev pub are_both_shared : LockMode → LockMode → Bool
are_both_shared Shared Shared = true
are_both_shared Shared Exclusive = false
are_both_shared Exclusive other = false

-- a lock on this span of the file in this mode, and the held lock overlap in one file and are not both shared
abbrev pub exclude : ℕ → Span → LockMode → Lock → Bool
exclude file span mode held = file == held.file && (overlap span held.span && not (are_both_shared mode held.mode))

-- two locks conflict where they are of different units, overlap in one file and are not both shared
abbrev pub conflict : Lock → Lock → Bool
conflict a b = not (is_same_unit a.unit b.unit) && exclude a.file a.span a.mode b

-- the lock of a unit on a span of a file
abbrev pub lock_of : unit.Unit → ℕ → Span → LockMode → Lock
lock_of unit file span mode = record { unit = unit; file = file; span = span; mode = mode }

-- the units that hold a lock which conflicts with this one, once for each such lock
abbrev pub holders : Lock → List Lock → List unit.Unit
holders lock locks = map (λ held. held.unit) (filter (conflict lock) locks)
