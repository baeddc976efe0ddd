-- When a worker that waits is called.
use Rattle.std.specs.Prelude.{◌≡◌, ◌+◌, ◌-◌, ◌/◌, ◌<◌, ◌≤◌, ◌^◌, ℕ, max, min, true, false}
use Rattle.pw_workers.specs.declared.calls.WorkerCalls.{WorkerCalls}

-- no worker waits, and tasks are taken for large ones
abbrev pub no_calls : WorkerCalls
no_calls = record { waiting = 0; is_open = false; size = 1_000_000 }

-- a call is worth it: a worker waits, none is called that has not come yet, and tasks are large
pub record IsCallWorth (calls : WorkerCalls) : Type 0 where
  pub one : 0 < calls.waiting
  pub closed : calls.is_open ≡ false
  pub large : 4_000 ≤ calls.size

-- tasks are small: that others take part in them gains less than it costs
abbrev pub AreTasksSmall : WorkerCalls → Type 0
AreTasksSmall calls = calls.size < 1_000

-- a task of so many statements was run: a large one counts at once, and is forgotten bit by bit
abbrev pub ran : ℕ → WorkerCalls → WorkerCalls
ran statements calls = record calls { size = max statements (calls.size - calls.size / 64) }

-- a worker is called
abbrev pub called : WorkerCalls → WorkerCalls
called calls = record calls { is_open = true }

-- a worker begins to wait
abbrev pub waited : WorkerCalls → WorkerCalls
waited calls = record calls { waiting = min (calls.waiting + 1) (2 ^ 8 - 1) }

-- a worker that waited has come
abbrev pub come : WorkerCalls → WorkerCalls
come calls = record calls { waiting = calls.waiting - 1; is_open = false }
