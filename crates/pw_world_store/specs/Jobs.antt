-- The jobs of a class's processes, and what is done to them.
use Rattle.std.specs.Prelude.{ℕ, ◌==◌, Bool, false, List, Option, Some, None, slice_index_or, if◌then◌else◌}
use Rattle.pw_code.specs.declared.context.Context.{Context}
use Rattle.pw_code.specs.declared.verb.Verb.{Verb}
use Rattle.pw_world_store.specs.declared.job.ProcessJob.{ProcessJob}

-- the job at a place, counted from 0
abbrev pub job_in : List (Option ProcessJob) → ℕ → Option ProcessJob
job_in jobs place = slice_index_or jobs place None

-- there is a job, and it is for the terminal
abbrev pub is_for : ℕ → Option ProcessJob → Bool
is_for terminal None = false
is_for terminal (Some job) = job.terminal == terminal

-- what is left of a job where those for the terminal are dropped
abbrev pub dropped_for : ℕ → Option ProcessJob → Option ProcessJob
dropped_for terminal job = if is_for terminal job then None else job

-- the job, if there is one, goes on with this context and verb
abbrev pub gone_on : Option Verb → Context → Option ProcessJob → Option ProcessJob
gone_on verb context None = None
gone_on verb context (Some job) = Some (record job { context = context; verb = verb })

-- the context with which a process works
abbrev pub context_of : Option ProcessJob → Option Context
context_of None = None
context_of (Some job) = Some job.context
