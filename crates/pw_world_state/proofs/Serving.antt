-- The tests of a class are those of the state.
use Rattle.std.proofs.Common.{◌≡◌, ℕ, ◌==◌, ◌&&◌, List, Option, Some, Bool, true, false, refl, sym, ap, ◌∙◌}
use Rattle.std.specs.Prelude.{slice_get}
use Rattle.std.specs.Option.{option_map}
use Rattle.std.proofs.lemmas.Bool.{and_from, eq-eqb, eqb-true}
use Rattle.pw_base.proofs.Plain.{same-truth}
use Rattle.pw_class.specs.Queue.{at_process, taken}
use Rattle.pw_class.specs.declared.request.Request.{Request}
use Rattle.pw_class.specs.declared.request.Taken.{Taken}
use Rattle.pw_class.specs.declared.request.Taken.TheVariants.{Got, Empty, NoneFree}
use Rattle.pw_code.specs.Locks.{mode_of}
use Rattle.pw_code.specs.declared.context.Context.{Context}
use Rattle.pw_code.specs.declared.file.FileCall.{FileCall}
use Rattle.pw_code.specs.declared.file.FileOp.{FileOp}
use Rattle.pw_code.specs.declared.lock.LockMode.{LockMode}
use Rattle.pw_code.specs.declared.lock.LockRule.{LockRule}
use Rattle.pw_code.specs.declared.system.ClassInfo.{ClassInfo}
use Rattle.pw_code.specs.declared.system.System.{System}
use Rattle.pw_code.specs.declared.unit.Unit as unit
use Rattle.pw_code.specs.declared.verb.Verb.{Verb}
use Rattle.pw_code.specs.declared.verb.Verb.TheVariants as verb
use Rattle.pw_event.specs.declared.script.FailLine.{FailLine}
use Rattle.pw_code_meaning.specs.OfSystem.{behaviour, processes_by}
use Rattle.pw_world_state.specs.Asked.{verb_in}
use Rattle.pw_world_state.specs.Changes.{birth_for, unit_at}
use Rattle.pw_world_state.specs.ClassTests.{is_call_for, is_got, may_file, may_reply, may_take, works_where}
use Rattle.pw_world_state.specs.Kept.{Kept}
use Rattle.pw_world_state.specs.Stands.{Stands, StandsForClass}
use Rattle.pw_world_state.specs.Tested.{IsServing}
use Rattle.pw_laws.specs.legal.Classes.{is_call, is_legal_file, is_legal_reply, is_legal_take}
use Rattle.pw_laws.specs.legal.Values.{is_empty, is_same_mode, is_same_op, some_with}
use Rattle.pw_laws.specs.legal.Verbs.{asks_file, replies}
use Rattle.pw_laws.proofs.decided.Classes as decided
use Rattle.pw_locks.specs.Conflicts.{holders}
use Rattle.pw_locks.specs.declared.lock.Lock.{Lock}
use Rattle.pw_onecopy.specs.Operation.{answer_of, lock_for, plain_op}
use Rattle.pw_paired.specs.Queues.{queue_of}
use Rattle.pw_paired.specs.Server.{LegalTake, server_verb}
use Rattle.pw_paired.specs.State.{State}
use Rattle.pw_paired.specs.Units.{birth_of, request_in, unit_of}
use Rattle.pw_laws.proofs.requests.Queues.{got-queue, taken-queue, works-queue}
use Rattle.pw_tmf.specs.Tells.{as_told, images_by}

-- ---- TAKE

-- what was got
got-parts : (i t : ℕ) (found : Taken) → is_got i t found ≡ true → (request : Request) × (found ≡ Got i request) × (request.terminal ≡ t)
got-parts i t (Got process request) e = both (process == i) (request.terminal == t) refl refl e
  where
    both : (a b : Bool) → (process == i) ≡ a → (request.terminal == t) ≡ b → (a && b) ≡ true → (one : Request) × (Got process request ≡ Got i one) × (one.terminal ≡ t)
    both true true p q e = (request, ap (λ k. Got k request) (eqb-true process i p), eqb-true request.terminal t q)
    both true false p q e = absurd (cc e)
    both false b p q e = absurd (cc e)
got-parts i t Empty e = absurd (cc e)
got-parts i t NoneFree e = absurd (cc e)

module _ (system : System) (script : List FailLine) (state : State) (own : Kept) (stands : Stands system script state own) where
  pub take-same : (c i t : ℕ) (info : ClassInfo) → slice_get system.classes c ≡ Some info → may_take own c i t ≡ is_legal_take (behaviour script system) state c i t
  take-same c i t info here =
      ap (λ q. is_got i t (taken q)) (stands.classes c info here).queue_is
      ∙ same-truth (is_got i t (taken (queue_of info.processes (state.classes c)))) (is_legal_take (behaviour script system) state c i t)
      (λ got.
      let parts = got-parts i t (taken (queue_of info.processes (state.classes c))) got in
      let found = got-queue info.processes i (state.classes c) parts.0 parts.1 in
      (decided.take (behaviour script system) state c i t).1 (record {
        request = parts.0;
        others = found.1.0;
        first = found.1.1;
        whose = parts.2;
        free = rw count found.0;
      }))
      (λ legal.
      let l : LegalTake (behaviour script system) state c i t = (decided.take (behaviour script system) state c i t).0 legal in
      let found = (taken-queue info.processes i (state.classes c) l.request l.others l.first (rw count at l.free)).0 in
      rw found (and_from (i == i) (l.request.terminal == t) (eq-eqb i i refl) (eq-eqb l.request.terminal t l.whose)))
    where
      count : (behaviour script system).processes c ≡ info.processes
      count = ap processes_by here

  module _ (c i : ℕ) (serving : IsServing system script state own c i) where
    pub at-work : at_process (own.queues c) i ≡ Some serving.job.request
    at-work =
        let old : StandsForClass system serving.info (state.classes c) (own.queues c) (own.jobs c) = stands.classes c serving.info serving.here in
        let place = old.within i (rw serving.works refl) in
        ap (λ q. at_process q i) old.queue_is ∙ (works-queue serving.info.processes i (state.classes c) place.0 place.1 ∙ ap request_in serving.works)

    pub where-works : (test : Request → Context → Bool) → works_where own c i test ≡ test serving.job.request serving.context
    where-works test =
        ap (λ o. some_with (λ request. some_with (test request) (own.jobs c i)) o) at-work
        ∙ ap (some_with (test serving.job.request)) serving.ready

    pub reply-same : (t : ℕ) (fault : Option ℕ) → may_reply system own c i t fault ≡ is_legal_reply (behaviour script system) state c i t fault
    reply-same t fault =
        where-works _
        ∙ (ap (λ v. serving.job.request.terminal == t && replies v fault) serving.says
        ∙ ap (some_with (λ job. job.request.terminal == t && replies (server_verb (behaviour script system) c job) fault)) (sym serving.works))

    pub unit-same : unit_at own serving.job.request.terminal serving.job.request.unit ≡ unit_of state serving.job.request
    unit-same =
        ap (λ b. record { terminal = serving.job.request.terminal; number = serving.job.request.unit; birth = b })
        (ap (λ o. birth_for o own.births) (stands.disc.units serving.job.request.terminal ∙ ap (option_map (as_told (images_by serving.job.request.terminal state.before))) serving.is_open)
        ∙ ap birth_of (sym serving.is_open))

    module _ (op : FileOp) (mode : LockMode) (f status : ℕ) (call : FileCall) where
      abbrev body : LockRule → (ℕ → ℕ) → (ℕ → List (List ℕ)) → List Lock → unit.Unit → Bool
      body rule keys files locks one =
          is_same_op op (plain_op call.op) && (is_same_mode mode (mode_of rule call.op)
          && (f == call.file
          && (status == (answer_of (keys call.file) (files call.file) call.op call).status
          && is_empty (holders (lock_for rule (keys call.file) (files call.file) one call) locks))))

      call-same : is_call_for own op mode f status serving.job.request call ≡ is_call (behaviour script system) state op mode f status serving.job call
      call-same =
          ap (λ r. body r own.disc.key_length own.disc.files own.disc.locks (unit_at own serving.job.request.terminal serving.job.request.unit)) stands.disc.rule
          ∙ (ap (λ k. body (behaviour script system).rule k own.disc.files own.disc.locks (unit_at own serving.job.request.terminal serving.job.request.unit)) stands.disc.keys
          ∙ (ap (λ x. body (behaviour script system).rule (behaviour script system).key_length x own.disc.locks (unit_at own serving.job.request.terminal serving.job.request.unit)) stands.disc.files
          ∙ (ap (λ l. body (behaviour script system).rule (behaviour script system).key_length state.files l (unit_at own serving.job.request.terminal serving.job.request.unit)) stands.disc.locks
          ∙ ap (body (behaviour script system).rule (behaviour script system).key_length state.files state.locks) unit-same)))

    by-verb : (op : FileOp) (mode : LockMode) (f status : ℕ) (v : Verb)
        → asks_file (is_call_for own op mode f status serving.job.request) v ≡ asks_file (is_call (behaviour script system) state op mode f status serving.job) v
    by-verb op mode f status (verb.File call) = call-same op mode f status call
    by-verb op mode f status verb.Show = refl
    by-verb op mode f status (verb.Accept screen) = refl
    by-verb op mode f status verb.Begin = refl
    by-verb op mode f status (verb.Send class message) = refl
    by-verb op mode f status verb.End = refl
    by-verb op mode f status verb.Drop = refl
    by-verb op mode f status verb.Redo = refl
    by-verb op mode f status verb.Stop = refl
    by-verb op mode f status (verb.Fault code) = refl
    by-verb op mode f status (verb.Reply reply) = refl

    pub file-same : (op : FileOp) (mode : LockMode) (f status : ℕ) → may_file system own c i op mode f status ≡ is_legal_file (behaviour script system) state c i op mode f status
    file-same op mode f status =
        where-works _
        ∙ (by-verb op mode f status (verb_in system serving.context)
        ∙ (ap (asks_file (is_call (behaviour script system) state op mode f status serving.job)) serving.says
        ∙ ap (some_with (λ job. asks_file (is_call (behaviour script system) state op mode f status job) (server_verb (behaviour script system) c job))) (sym serving.works)))
