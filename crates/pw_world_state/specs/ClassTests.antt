-- Whether the entries of a class are legal, computed from what is kept.
use Rattle.std.specs.Prelude.{ℕ, ◌==◌, ◌&&◌, Bool, false, Option}
use Rattle.pw_class.specs.Queue.{at_process, taken}
use Rattle.pw_class.specs.declared.request.Request.{Request}
use Rattle.pw_class.specs.declared.request.Taken.{Taken}
use Rattle.pw_class.specs.declared.request.Taken.TheVariants.{Got, Empty, NoneFree}
use Rattle.pw_code.specs.Locks.{mode_of}
use Rattle.pw_code.specs.declared.context.Context.{Context}
use Rattle.pw_code.specs.declared.file.FileCall.{FileCall}
use Rattle.pw_code.specs.declared.file.FileOp.{FileOp}
use Rattle.pw_code.specs.declared.lock.LockMode.{LockMode}
use Rattle.pw_code.specs.declared.system.System.{System}
use Rattle.pw_world_state.specs.Asked.{verb_in}
use Rattle.pw_world_state.specs.Changes.{unit_at}
use Rattle.pw_world_state.specs.Kept.{Kept}
use Rattle.pw_laws.specs.legal.Values.{is_empty, is_same_mode, is_same_op, some_with}
use Rattle.pw_laws.specs.legal.Verbs.{asks_file, replies}
use Rattle.pw_locks.specs.Conflicts.{holders}
use Rattle.pw_onecopy.specs.Operation.{answer_of, lock_for, plain_op}

-- process i gets a request of the terminal
abbrev pub is_got : ℕ → ℕ → Taken → Bool
is_got i t (Got process request) = process == i && request.terminal == t
is_got i t Empty = false
is_got i t NoneFree = false

-- TAKE c i t
abbrev pub may_take : Kept → ℕ → ℕ → ℕ → Bool
may_take kept c i t = is_got i t (taken (kept.queues c))

-- a server works in process i, and its request and its context pass the test
abbrev pub works_where : Kept → ℕ → ℕ → (Request → Context → Bool) → Bool
works_where kept c i test =
    some_with (λ request. some_with (test request) (kept.jobs c i)) (at_process (kept.queues c) i)

-- the call is that of the entry, with its answer, and no lock of another unit conflicts with its
-- lock
abbrev pub is_call_for : Kept → FileOp → LockMode → ℕ → ℕ → Request → FileCall → Bool
is_call_for kept op mode f status request call =
    let n = kept.disc.key_length call.file in
    let records = kept.disc.files call.file in
    let unit = unit_at kept request.terminal request.unit in
    is_same_op op (plain_op call.op) && (is_same_mode mode (mode_of kept.disc.rule call.op)
    && (f == call.file
    && (status == (answer_of n records call.op call).status
    && is_empty (holders (lock_for kept.disc.rule n records unit call) kept.disc.locks))))

-- FILE c i op mode f status
abbrev pub may_file : System → Kept → ℕ → ℕ → FileOp → LockMode → ℕ → ℕ → Bool
may_file system kept c i op mode f status =
    works_where kept c i (λ request context.
    asks_file (is_call_for kept op mode f status request) (verb_in system context))

-- REPLY c i t OK, and REPLY c i t FAULT x
abbrev pub may_reply : System → Kept → ℕ → ℕ → ℕ → Option ℕ → Bool
may_reply system kept c i t fault =
    works_where kept c i (λ request context.
    request.terminal == t && replies (verb_in system context) fault)
