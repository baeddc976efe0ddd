-- What a monitor keeps before the first entry.
use Rattle.std.specs.Prelude.{◌≡◌, ℕ, ◌<◌, List, length, replicate, Option, Some, None, slice_get}
use Rattle.pw_code.specs.declared.context.Context.{Context}
use Rattle.pw_code.specs.declared.system.ClassInfo.{ClassInfo}
use Rattle.pw_code.specs.declared.system.System.{System}
use Rattle.pw_code.specs.declared.system.TermInfo.{TermInfo}
use Rattle.pw_code_meaning.specs.Config.{closed, fresh, starting}
use Rattle.pw_world_store.specs.Keeps.{pair_at}
use Rattle.pw_world_state.specs.Changes.{first_pair, kept_start}
use Rattle.pw_world_state.specs.Kept.{Kept}
use Rattle.pw_world_state.specs.Members.{members_of}
use Rattle.pw_pair.specs.Pairs.{SeenPair}
use Rattle.pw_world_store.specs.Seats.{first_seat}
use Rattle.pw_world_store.specs.declared.job.ProcessJob.{ProcessJob}
use Rattle.pw_world_store.specs.declared.seat.Seat.{Seat}
use Rattle.pw_tmf.specs.Told.{Told}

-- a terminal starts at the first instruction of its first program
abbrev pub context_for : System → Option TermInfo → Context
context_for system None = fresh
context_for system (Some info) = closed (starting system info.program)

-- the context of a terminal at the start of its program
abbrev pub first_context : System → ℕ → Context
first_context system t = context_for system (slice_get system.terminals t)

-- what stands for that: a seat for each terminal, no job for each process of a class, and a pair of its terminals
abbrev pub seat_for : System → TermInfo → Seat
seat_for system info = first_seat (closed (starting system info.program))

-- no job at any process of a class
abbrev pub no_jobs_for : ClassInfo → List (Option ProcessJob)
no_jobs_for class = replicate class.processes None

-- the pairs before the first entry: so many, each with its terminals
pub record AreFirstPairs (system : System) (count : ℕ) (pairs : List SeenPair) : Type 0 where
  pub size : length pairs ≡ count
  pub each : (p : ℕ) → p < count → pair_at pairs p ≡ first_pair (members_of system p)

-- the disc has the system's terminals and files, and no unit is open there
pub record IsIdleDisc (system : System) (disc : Told) : Type 0 where
  pub terminals : disc.terminals ≡ length system.terminals
  pub files : disc.file_count ≡ length system.files
  pub units : (t : ℕ) → disc.units t ≡ None

-- what is kept at first: each terminal is at its start, and each pair works alone
abbrev pub first_kept : System → Told → Kept
first_kept system disc = kept_start system (members_of system) (first_context system) disc
