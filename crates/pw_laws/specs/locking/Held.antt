-- What holds of the locks of a run.
use Rattle.std.specs.Prelude.{◌≡◌, ℕ, ◌==◌, ◌&&◌, Bool, true, false, List, [], ◌∷◌, Option, Some}
use Rattle.std.specs.List.{AllByRecursion, list_any}
use Rattle.std.specs.Str.{bytes_eq}
use Rattle.pw_code.specs.declared.lock.LockMode.{LockMode}
use Rattle.pw_code.specs.declared.lock.LockMode.TheVariants.{Shared, Exclusive}
use Rattle.pw_locks.specs.Conflicts.{conflict}
use Rattle.pw_locks.specs.declared.lock.Lock.{Lock}
use Rattle.pw_locks.specs.declared.span.Span.{Span}
use Rattle.pw_locks.specs.declared.span.Span.TheVariants.{Point, After}
use Rattle.pw_onecopy.specs.Path.{PathAnswer}
use Rattle.pw_paired.specs.State.{OpenUnit}

-- the span is this one key
abbrev pub is_point : List ℕ → Span → Bool
is_point key (Point own) = bytes_eq own key
is_point key (After low high) = false

-- the mode is exclusive
abbrev pub is_exclusive : LockMode → Bool
is_exclusive Shared = false
is_exclusive Exclusive = true

-- an exclusive lock of the terminal's unit on this one key
abbrev pub locks_key : ℕ → ℕ → List ℕ → Lock → Bool
locks_key t file key lock =
    lock.unit.terminal == t
    && (lock.file == file && (is_point key lock.span && is_exclusive lock.mode))

-- the terminal's unit has such a lock
abbrev pub has_key_lock : ℕ → ℕ → List ℕ → List Lock → Bool
has_key_lock t file key locks = list_any (locks_key t file key) locks

-- the lock is of the open unit of its terminal, and an attempt of that unit runs
pub record IsHeld (units : ℕ → Option OpenUnit) (lock : Lock) : Type 0 where
  pub unit : OpenUnit
  pub is_open : units lock.unit.terminal ≡ Some unit
  pub number : lock.unit.number ≡ unit.number
  pub start : List PathAnswer
  pub runs : unit.running ≡ Some start

-- no lock conflicts with one that was taken after it
abbrev pub AreCompatibleLocks : List Lock → Type 0
AreCompatibleLocks [] = Unit {0}
AreCompatibleLocks (lock ∷ locks) = AllByRecursion (λ held. conflict lock held ≡ false) locks × AreCompatibleLocks locks
