-- The tests of the entries of a class decide whether they are legal.
use Rattle.std.proofs.Common.{◌≡◌, ℕ, [], Option, Some, Decides}
use Rattle.pw_code.specs.declared.file.FileCall.{FileCall}
use Rattle.pw_code.specs.declared.file.FileOp.{FileOp}
use Rattle.pw_code.specs.declared.lock.LockMode.{LockMode}
use Rattle.pw_code.specs.Locks.{mode_of}
use Rattle.pw_laws.proofs.Deciding.{both, like, number, one_with, first_one, empty}
use Rattle.pw_laws.proofs.decided.Values.{same_mode, same_number, same_op}
use Rattle.pw_laws.proofs.decided.Verbs as asked
use Rattle.pw_laws.specs.legal.Classes as test
use Rattle.pw_locks.specs.Conflicts.{holders}
use Rattle.pw_onecopy.specs.Operation.{plain_op}
use Rattle.pw_paired.specs.Server.{LegalTake, LegalFile, LegalReply, answer_on, first_free, lock_of_job, server_verb}
use Rattle.pw_paired.specs.State.{Job, State}
use Rattle.pw_onecopy.specs.Behaviour.{Behaviour}

-- whether TAKE c i t is legal by its kind
pub take : (sys : Behaviour) (state : State) (c i t : ℕ) → Decides (test.is_legal_take sys state c i t) (LegalTake sys state c i t)
take sys state c i t =
    like (both (first_one (λ request. number request.terminal t) (state.classes c).waiting)
    (same_number (first_free (state.classes c).busy 1 (sys.processes c)) (Some i)))
    (λ h. record { request = h.0.0; others = h.0.1; first = h.0.2; whose = h.0.3; free = h.1 })
    (λ l. ((l.request, l.others, l.first, l.whose), l.free))

-- the call that an entry speaks of
record Called (sys : Behaviour) (state : State) (op : FileOp) (mode : LockMode) (f status : ℕ) (job : Job) (call : FileCall) : Type 0 where
  op_is : op ≡ plain_op call.op
  mode_is : mode ≡ mode_of sys.rule call.op
  file_is : f ≡ call.file
  status_is : status ≡ (answer_on sys state call).status
  free : holders (lock_of_job sys state job call) state.locks ≡ []

called : (sys : Behaviour) (state : State) (op : FileOp) (mode : LockMode) (f status : ℕ) (job : Job) (call : FileCall)
    → Decides (test.is_call sys state op mode f status job call) (Called sys state op mode f status job call)
called sys state op mode f status job call =
    like (both (same_op op (plain_op call.op)) (both (same_mode mode (mode_of sys.rule call.op)) (both (number f call.file)
    (both (number status (answer_on sys state call).status) (empty (holders (lock_of_job sys state job call) state.locks))))))
    (λ h. record { op_is = h.0; mode_is = h.1.0; file_is = h.1.1.0; status_is = h.1.1.1.0; free = h.1.1.1.1 })
    (λ l. (l.op_is, (l.mode_is, (l.file_is, (l.status_is, l.free)))))

-- whether FILE c i op mode f status is legal by its kind
pub file : (sys : Behaviour) (state : State) (c i : ℕ) (op : FileOp) (mode : LockMode) (f status : ℕ)
    → Decides (test.is_legal_file sys state c i op mode f status) (LegalFile sys state c i op mode f status)
file sys state c i op mode f status =
    like (one_with (λ (job : Job). asked.file (called sys state op mode f status job) (server_verb sys c job)) ((state.classes c).busy i))
    (λ h. record {
      job = h.0;
      at_work = h.1;
      call = h.2.0;
      asks = h.2.1;
      op_is = h.2.2.op_is;
      mode_is = h.2.2.mode_is;
      file_is = h.2.2.file_is;
      status_is = h.2.2.status_is;
      free = h.2.2.free;
    })
    (λ l. (l.job, l.at_work, (l.call, l.asks, record { op_is = l.op_is; mode_is = l.mode_is; file_is = l.file_is; status_is = l.status_is; free = l.free })))

-- whether REPLY c i t OK, and REPLY c i t FAULT x, are legal by their kind
pub reply : (sys : Behaviour) (state : State) (c i t : ℕ) (fault : Option ℕ)
    → Decides (test.is_legal_reply sys state c i t fault) (LegalReply sys state c i t fault)
reply sys state c i t fault =
    like (one_with (λ (job : Job). both (number job.request.terminal t) (asked.reply (server_verb sys c job) fault)) ((state.classes c).busy i))
    (λ h. record { job = h.0; at_work = h.1; whose = h.2.0; replies = h.2.1 }) (λ l. (l.job, l.at_work, (l.whose, l.replies)))
