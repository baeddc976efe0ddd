-- The entries of a class: TAKE, FILE and REPLY.
use Rattle.std.specs.Prelude.{◌≡◌, ℕ, zero, suc, ◌+◌, List, [], ◌∷◌, ◌++◌, Option, Some, None, is_none, if◌then◌else◌}
use Rattle.pw_class.specs.declared.request.Request.{Request}
use Rattle.pw_code.specs.Locks.{mode_of}
use Rattle.pw_code.specs.declared.file.FileCall.{FileCall}
use Rattle.pw_code.specs.declared.file.FileOp.{FileOp}
use Rattle.pw_code.specs.declared.lock.LockMode.{LockMode}
use Rattle.pw_code.specs.declared.verb.Verb.{Verb}
use Rattle.pw_code.specs.declared.verb.Verb.TheVariants as verb
use Rattle.pw_locks.specs.Conflicts.{holders}
use Rattle.pw_locks.specs.declared.lock.Lock.{Lock}
use Rattle.pw_onecopy.specs.Behaviour.{Behaviour}
use Rattle.pw_onecopy.specs.Operation.{answer_of, lock_for, records_behind, plain_op}
use Rattle.pw_onecopy.specs.Path.{Replied, Failed, FileResult, is_outside, unit_number}
use Rattle.pw_onecopy.specs.Update.{upd}
use Rattle.pw_paired.specs.State.{Class, Job, State}
use Rattle.pw_paired.specs.Terminal.{path_of}
use Rattle.pw_paired.specs.Units.{unit_of, with_image, commit_unit, give_answer}

-- the free process of smallest number among the n from this one on, if there is one
abbrev pub first_free : (ℕ → Option Job) → ℕ → ℕ → Option ℕ
first_free busy process zero = None
first_free busy process (suc n) =
    if is_none (busy process) then Some process else first_free busy (process + 1) n

-- TAKE c i t: a request of t is the first waiting one of c, and i is the free process of smallest
-- number
pub record LegalTake (sys : Behaviour) (state : State) (c i t : ℕ) : Type 0 where
  pub request : Request
  pub others : List Request
  pub first : (state.classes c).waiting ≡ request ∷ others
  pub whose : request.terminal ≡ t
  pub free : first_free (state.classes c).busy 1 (sys.processes c) ≡ Some i

-- a class whose first waiting request is at a process
abbrev pub with_first_taken : ℕ → List Request → Class → Class
with_first_taken i [] class = class
with_first_taken i (request ∷ others) class = record {
  waiting = others;
  busy = upd class.busy i (Some (record { request = request; done = [] }));
}

-- process i starts the server on the message
abbrev pub do_take : ℕ → ℕ → State → State
do_take c i state =
    let class : Class = state.classes c in
    record state { classes = upd state.classes c (with_first_taken i class.waiting class) }

-- what the server at a job asks next
abbrev pub server_verb : Behaviour → ℕ → Job → Verb
server_verb sys c job = sys.ops c job.request.message job.done

-- the lock that a job's operation takes
abbrev pub lock_of_job : Behaviour → State → Job → FileCall → Lock
lock_of_job sys state job call =
    lock_for sys.rule (sys.key_length call.file) (state.files call.file)
    (unit_of state job.request) call

-- the answer of an operation on the files
abbrev pub answer_on : Behaviour → State → FileCall → FileResult
answer_on sys state call = answer_of (sys.key_length call.file) (state.files call.file) call.op call

-- FILE c i op m f s: the server in process i next does op on f; m is the mode of its lock; no lock
-- of another unit conflicts with that lock; s is the status
pub record LegalFile (sys : Behaviour) (state : State) (c i : ℕ) (op : FileOp) (mode : LockMode)
    (f status : ℕ) : Type 0 where
  pub job : Job
  pub at_work : (state.classes c).busy i ≡ Some job
  pub call : FileCall
  pub asks : server_verb sys c job ≡ verb.File call
  pub op_is : op ≡ plain_op call.op
  pub mode_is : mode ≡ mode_of sys.rule call.op
  pub file_is : f ≡ call.file
  pub status_is : status ≡ (answer_on sys state call).status
  pub free : holders (lock_of_job sys state job call) state.locks ≡ []

-- a job with one more file answer
abbrev pub with_answer : FileResult → Job → Job
with_answer answer job = record job { done = job.done ++ answer ∷ [] }

-- a class with this at a process
abbrev pub with_job_at : ℕ → Option Job → Class → Class
with_job_at i job class = record class { busy = upd class.busy i job }

-- the lock is added behind the others, and the operation is done
abbrev pub do_operation : Behaviour → ℕ → ℕ → Job → FileCall → State → State
do_operation sys c i job call state = record state {
  files = upd state.files call.file
      (records_behind (sys.key_length call.file) (state.files call.file) call);
  before = with_image sys state job.request.terminal call;
  locks = state.locks ++ lock_of_job sys state job call ∷ [];
  classes = upd state.classes c
      (with_job_at i (Some (with_answer (answer_on sys state call) job)) (state.classes c));
}

-- where the server's verb is an operation
abbrev pub do_verb : Behaviour → ℕ → ℕ → Job → Verb → State → State
do_verb sys c i job (verb.File call) state = do_operation sys c i job call state
do_verb sys c i job _ state = state

-- where a process is at work
abbrev pub do_job : Behaviour → ℕ → ℕ → Option Job → State → State
do_job sys c i None state = state
do_job sys c i (Some job) state = do_verb sys c i job (server_verb sys c job) state

-- the operation of process i is done
abbrev pub do_file : Behaviour → ℕ → ℕ → State → State
do_file sys c i state = do_job sys c i ((state.classes c).busy i) state

-- what the server must ask for a REPLY: a reply, or the run fault of the entry
abbrev pub Replies : Verb → Option ℕ → Type 0
Replies (verb.Reply reply) None = Unit {0}
Replies (verb.Fault code) (Some x) = code ≡ x
Replies _ _ = ⊥

-- REPLY c i t OK: the server in i replies to t. REPLY c i t FAULT x: the server in i has run fault
-- x.
pub record LegalReply (sys : Behaviour) (state : State) (c i t : ℕ)
    (fault : Option ℕ) : Type 0 where
  pub job : Job
  pub at_work : (state.classes c).busy i ≡ Some job
  pub whose : job.request.terminal ≡ t
  pub replies : Replies (server_verb sys c job) fault

-- process i is free
abbrev pub free_process : ℕ → ℕ → State → State
free_process c i state =
    record state { classes = upd state.classes c (with_job_at i None (state.classes c)) }

-- the reply that a server makes at a process
abbrev pub reply_of : Verb → List ℕ
reply_of (verb.Reply reply) = reply
reply_of _ = []

-- the reply of the server at a process, none where no job is there
abbrev pub reply_at : Behaviour → ℕ → Option Job → List ℕ
reply_at sys c None = []
reply_at sys c (Some job) = reply_of (server_verb sys c job)

-- a unit that is one SEND commits, and TMF keeps the reply
abbrev pub commit_send : ℕ → List ℕ → State → State
commit_send t reply state =
    if is_outside (path_of state t)
    then commit_unit t (unit_number (path_of state t)) (Some reply) state
    else state

-- i is free; for OK the path gets Replied and a unit that is one SEND commits, for FAULT x the path
-- gets Failed(x)
abbrev pub do_reply : Behaviour → ℕ → ℕ → ℕ → Option ℕ → State → State
do_reply sys c i t None state =
    let reply : List ℕ = reply_at sys c ((state.classes c).busy i) in
    give_answer t (Replied reply) (commit_send t reply (free_process c i state))
do_reply sys c i t (Some x) state = give_answer t (Failed x) (free_process c i state)
