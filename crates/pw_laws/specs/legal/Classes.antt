-- Whether the entries of a class are legal, as tests that compute.
use Rattle.std.specs.Prelude.{ℕ, ◌==◌, ◌&&◌, Bool, Option, Some}
use Rattle.pw_code.specs.declared.file.FileCall.{FileCall}
use Rattle.pw_code.specs.declared.file.FileOp.{FileOp}
use Rattle.pw_code.specs.declared.lock.LockMode.{LockMode}
use Rattle.pw_code.specs.Locks.{mode_of}
use Rattle.pw_locks.specs.Conflicts.{holders}
use Rattle.pw_onecopy.specs.Operation.{plain_op}
use Rattle.pw_paired.specs.Server.{answer_on, first_free, lock_of_job, server_verb}
use Rattle.pw_paired.specs.State.{Job, State}
use Rattle.pw_onecopy.specs.Behaviour.{Behaviour}
use Rattle.pw_laws.specs.legal.Values.{first_with, is_empty, is_same_mode, is_same_number, is_same_op, some_with}
use Rattle.pw_laws.specs.legal.Verbs.{asks_file, replies}

-- TAKE c i t is legal by its kind
abbrev pub is_legal_take : Behaviour → State → ℕ → ℕ → ℕ → Bool
is_legal_take sys state c i t =
    first_with (λ request. request.terminal == t) (state.classes c).waiting
    && is_same_number (first_free (state.classes c).busy 1 (sys.processes c)) (Some i)

-- the call is that of the entry, with its answer, and no lock of another unit conflicts with its
-- lock
abbrev pub is_call : Behaviour → State → FileOp → LockMode → ℕ → ℕ → Job → FileCall → Bool
is_call sys state op mode f status job call =
    is_same_op op (plain_op call.op) && (is_same_mode mode (mode_of sys.rule call.op)
    && (f == call.file
    && (status == (answer_on sys state call).status
    && is_empty (holders (lock_of_job sys state job call) state.locks))))

-- FILE c i op mode f status is legal by its kind
abbrev pub is_legal_file : Behaviour → State → ℕ → ℕ → FileOp → LockMode → ℕ → ℕ → Bool
is_legal_file sys state c i op mode f status =
    some_with (λ job. asks_file (is_call sys state op mode f status job) (server_verb sys c job))
    ((state.classes c).busy i)

-- REPLY c i t OK, and REPLY c i t FAULT x, are legal by their kind
abbrev pub is_legal_reply : Behaviour → State → ℕ → ℕ → ℕ → Option ℕ → Bool
is_legal_reply sys state c i t fault =
    some_with (λ job. job.request.terminal == t && replies (server_verb sys c job) fault)
    ((state.classes c).busy i)
