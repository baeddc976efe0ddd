-- What contracts see of what a monitor keeps, and what holds of its parts.
use Rattle.std.specs.Prelude.{◌≡◌, ◌-◌, ◌==◌, ℕ, ◌<◌, Bool, true, false, List, [], length, map, Option, Some, None, is_some, slice_get, slice_index_or, if◌then◌else◌}
use Rattle.std.specs.Option.{IfSome, option_map}
use Rattle.pw_class.specs.Book.{queue_at}
use Rattle.pw_class.specs.Queue.{Queue, at_process}
use Rattle.pw_class.specs.declared.request.Request.{Request}
use Rattle.pw_code.specs.Valid.{IsValid}
use Rattle.pw_code.specs.declared.context.Context.{Context}
use Rattle.pw_code.specs.declared.system.ClassInfo.{ClassInfo}
use Rattle.pw_code.specs.declared.system.System.{System}
use Rattle.pw_code.specs.declared.verb.Verb.{Verb}
use Rattle.pw_code_meaning.specs.Config.{fresh}
use Rattle.pw_world_state.specs.Asked.{verb_in}
use Rattle.pw_world_state.specs.Kept.{Kept, KeptTerminal}
use Rattle.pw_world_state.specs.Members.{AreOf}
use Rattle.pw_pair.specs.Pairs.{SeenPair}
use Rattle.pw_pair.specs.declared.mode.Mode.TheVariants.{Alone}
use Rattle.pw_paired.specs.State.{Awaited}
use Rattle.pw_world_store.specs.Jobs.{context_of, job_in}
use Rattle.pw_world_store.specs.declared.job.ProcessJob.{ProcessJob}
use Rattle.pw_world_store.specs.declared.seat.AwaitedUnit.{AwaitedUnit}
use Rattle.pw_world_store.specs.declared.seat.Ready.{Ready}
use Rattle.pw_world_store.specs.declared.seat.Seat.{Seat}
use Rattle.pw_tmf.specs.Answers.{Leaves}
use Rattle.pw_tmf.specs.Leaving.{unit_told}
use Rattle.pw_tmf.specs.Told.{Told, ToldUnit}
use Rattle.pw_tmf.specs.declared.answer.DiscFault.{DiscFault}

-- ---- seats

-- an awaited unit as the paired system has it
abbrev pub awaited_as : AwaitedUnit → Awaited
awaited_as one = record { terminal = one.terminal; number = one.number }

-- what is kept of the terminal
abbrev pub kept_of : Seat → KeptTerminal
kept_of seat = record {
  context = seat.context;
  ready = option_map (λ (at : Ready). at.context) seat.ready;
  start = seat.start;
  restarts = seat.restarts;
  awaits = option_map awaited_as seat.awaits;
  pending = seat.pending;
  ending = seat.ending;
}

-- ---- its parts

-- what stands where no seat is, and where no pair is
abbrev pub no_seat : Seat
no_seat = record {
  context = Some fresh;
  ready = None;
  start = None;
  unit = None;
  restarts = 0;
  awaits = None;
  pending = None;
  ending = None;
}

-- a pair that is not there
abbrev pub no_pair : SeenPair
no_pair = record { mode = Alone; seats = [] }

-- what is kept of a terminal
abbrev pub seat_at : List Seat → ℕ → Seat
seat_at seats t = slice_index_or seats t no_seat

-- the jobs of the processes of a class
abbrev pub jobs_at : List (List (Option ProcessJob)) → ℕ → List (Option ProcessJob)
jobs_at jobs c = slice_index_or jobs c []

-- processes count from 1
abbrev pub job_of : List (Option ProcessJob) → ℕ → Option ProcessJob
job_of jobs i = if i == 0 then None else job_in jobs (i - 1)

-- what is kept of a pair
abbrev pub pair_at : List SeenPair → ℕ → SeenPair
pair_at pairs p = slice_index_or pairs p no_pair

-- what is kept
abbrev pub kept_by : List Seat → Told → List Queue → List (List (Option ProcessJob)) → List SeenPair → ℕ → Kept
kept_by seats disc book jobs pairs births = record {
  terminals = λ t. kept_of (seat_at seats t);
  disc = disc;
  queues = queue_at book;
  jobs = λ c i. context_of (job_of (jobs_at jobs c) i);
  pairs = pair_at pairs;
  births = births;
}

-- ---- the whole

-- what a monitor keeps, over a disc that tells what it has
pub record KeepState (D : Type 0) : Type 0 where
  pub system : System
  pub seats : List Seat
  pub disc : D
  pub book : List Queue
  pub jobs : List (List (Option ProcessJob))
  pub pairs : List SeenPair
  pub births : ℕ

-- what is kept, by what the disc tells
abbrev pub kept_in : {D : Type 0} → (D → Told) → KeepState D → Kept
kept_in told keep =
    kept_by keep.seats (told keep.disc) keep.book keep.jobs keep.pairs keep.births

-- the system stays, and what is kept is changed so
pub record IsChanged {D : Type 0} (told : D → Told) (change : Kept → Kept) (old new : KeepState D) : Type 0 where
  pub system : new.system ≡ old.system
  pub kept : kept_in told new ≡ change (kept_in told old)

-- what a refused call of the disc leaves: all as it was, but for the disc's count where it failed
pub record IsRefused {D : Type 0} (told : D → Told) (fault : DiscFault) (old new : KeepState D) : Type 0 where
  pub system : new.system ≡ old.system
  pub leaves : Leaves fault (told old.disc) (told new.disc)
  pub rest : kept_in told new ≡ record (kept_in told old) { disc = told new.disc }

-- ---- what holds of them

-- the verb beside a context is the one at which it stands
abbrev pub HasVerb : System → Seat → Type 0
HasVerb system seat = IfSome seat.ready (λ (at : Ready). at.verb ≡ verb_in system at.context)

-- a verb is there exactly where the context stands at one
abbrev pub IsVerbOf : System → Context → Option Verb → Type 0
IsVerbOf system context None = context.at_verb ≡ false
IsVerbOf system context (Some verb) = (context.at_verb ≡ true) × (verb ≡ verb_in system context)

-- a job's verb, where it is known, is that of its context
abbrev pub JobHasVerb : System → Option ProcessJob → Type 0
JobHasVerb system job = IfSome job (λ (own : ProcessJob). IsVerbOf system own.context own.verb)

-- the terminals whose jobs and requests are at a process
abbrev pub job_terminal : Option ProcessJob → Option ℕ
job_terminal job = option_map (λ (own : ProcessJob). own.terminal) job

-- the terminal of a request, if there is one
abbrev pub request_terminal : Option Request → Option ℕ
request_terminal request = option_map (λ (own : Request). own.terminal) request

-- a class has as many processes in its book and its jobs as in the system, and each busy one has a job for the terminal
-- of its request
pub record IsStaffed (info : ClassInfo) (queue : Queue) (jobs : List (Option ProcessJob)) : Type 0 where
  pub book : length queue.busy ≡ info.processes
  pub jobs_are : length jobs ≡ info.processes
  pub posts : (i : ℕ) → job_terminal (job_of jobs i) ≡ request_terminal (at_process queue i)

-- an attempt of an open unit runs
abbrev pub is_run : Option ToldUnit → Bool
is_run None = false
is_run (Some unit) = unit.running

-- the terminals of a pair
abbrev pub terminals_in : SeenPair → List ℕ
terminals_in pair = map (λ seat. seat.terminal) pair.seats

-- Each part has the size that the system says, and a pair has its terminals. A seat has the open unit that the disc
-- tells, and a start exactly where an attempt of that runs. Verbs are right.
pub record IsKeep (system : System) (seats : List Seat) (disc : Told) (book : List Queue)
    (jobs : List (List (Option ProcessJob))) (pairs : List SeenPair) : Type 0 where
  pub valid : IsValid system
  pub terminals : length seats ≡ length system.terminals
  pub classes : length book ≡ length system.classes
  pub job_lists : length jobs ≡ length system.classes
  pub pairs_are : length pairs ≡ length system.tcps
  pub disc_terminals : disc.terminals ≡ length system.terminals
  pub disc_files : disc.file_count ≡ length system.files
  pub units : (t : ℕ) → t < length seats → (seat_at seats t).unit ≡ unit_told t (disc.units t)
  pub runs : (t : ℕ) → t < length seats → is_some (seat_at seats t).start ≡ is_run (disc.units t)
  pub members : (p : ℕ) → p < length pairs → AreOf system p (terminals_in (pair_at pairs p))
  pub verbs : (t : ℕ) → HasVerb system (seat_at seats t)
  pub staffed : (c : ℕ) (info : ClassInfo) → slice_get system.classes c ≡ Some info
      → IsStaffed info (queue_at book c) (jobs_at jobs c)
  pub job_verbs : (c i : ℕ) → JobHasVerb system (job_of (jobs_at jobs c) i)
