-- The steps of a process that works on a request, by the verb at which its server stands.
use Rattle.std.proofs.Common.{◌≡◌, ℕ, ◌<◌, ◌≤◌, ◌==◌, ◌&&◌, Bool, true, false, List, [], ◌∷◌, length, Option, Some, None, refl, ap, sym, subst, ◌∙◌, arith}
use Rattle.std.proofs.lemmas.Bool.{and_from, and_right, eq-eqb}
use Rattle.std.proofs.lemmas.Option.{same_Some, slice_get_within}
use Rattle.std.specs.Prelude.{Contains, slice_get}
use Rattle.pw_class.specs.Queue.{at_process}
use Rattle.pw_class.specs.declared.request.Request.{Request}
use Rattle.pw_code.specs.Locks.{mode_of}
use Rattle.pw_code.specs.declared.context.Context.{Context}
use Rattle.pw_code.specs.declared.file.FileCall.{FileCall}
use Rattle.pw_code.specs.declared.file.FileOp.{FileOp}
use Rattle.pw_code.specs.declared.lock.LockMode.{LockMode}
use Rattle.pw_code.specs.declared.system.ClassInfo.{ClassInfo}
use Rattle.pw_code.specs.declared.system.System.{System}
use Rattle.pw_code.specs.declared.unit.Unit as unit
use Rattle.pw_code.specs.declared.verb.Verb.{Verb}
use Rattle.pw_code.specs.declared.verb.Verb.TheVariants as verb
use Rattle.pw_event.specs.declared.event.Event.{Event}
use Rattle.pw_event.specs.declared.event.Event.TheVariants.{File, Reply}
use Rattle.pw_code_meaning.specs.OfSystem.{processes_by}
use Rattle.pw_world_state.specs.Asked.{verb_in}
use Rattle.pw_world_state.specs.Changes.{unit_at}
use Rattle.pw_world_state.specs.ClassTests.{is_call_for, may_file, may_reply, works_where}
use Rattle.pw_world_state.specs.Kept.{Kept}
use Rattle.pw_world_state.specs.May.{IsProcessOf}
use Rattle.pw_world_state.specs.Read.{IsServerRead}
use Rattle.pw_laws.proofs.decided.Values.{same_mode, same_op}
use Rattle.pw_laws.specs.legal.Values.{is_empty, is_same_mode, is_same_op, some_with}
use Rattle.pw_laws.specs.legal.Verbs.{asks_file, replies}
use Rattle.pw_locks.specs.Conflicts.{holders}
use Rattle.pw_onecopy.specs.Operation.{answer_of, plain_op}
use Rattle.pw_actor_queue.specs.declared.actor.Actor.TheVariants.{Process}
use Rattle.pw_entry_tests.proofs.CallLemmas.{works-none}
use Rattle.pw_entry_tests.proofs.NoStep.{no-step-of-process}
use Rattle.pw_entry_tests.proofs.Meets.{unit-of-open}
use Rattle.pw_entry_tests.specs.Actors.{IsActorIn}
use Rattle.pw_entry_tests.specs.Calls.{IsAtVerb}
use Rattle.pw_entry_tests.specs.Known.{IsKnown}
use Rattle.pw_entry_tests.specs.Steps.{IsStepOf}
use Rattle.pw_tmf.specs.Answers.{Foresees}
use Rattle.pw_tmf.specs.Leaving.{unit_told}
use Rattle.pw_tmf.specs.Operation.{lock_now}
use Rattle.pw_tmf.specs.Units.{IsRunning}
use Rattle.pw_tmf.specs.declared.answer.Foreseen.TheVariants.{Done, Conflict}

-- ---- a verb

-- an operation is no reply
no-reply : (call : FileCall) (fault : Option ℕ) → replies (verb.File call) fault ≡ false
no-reply call None = refl
no-reply call (Some x) = refl

-- what is neither an operation, nor a reply, nor a run fault
module _ (v : Verb) (file : (call : FileCall) → v ≡ verb.File call → ⊥) (reply : (bytes : List ℕ) → v ≡ verb.Reply bytes → ⊥)
    (stop : (x : ℕ) → v ≡ verb.Fault x → ⊥) where
  asks-no-file : (w : Verb) → v ≡ w → (test : FileCall → Bool) → asks_file test w ≡ false
  asks-no-file (verb.File call) e test = absurd (file call e)
  asks-no-file _ e test = refl

  asks-no-reply : (w : Verb) → v ≡ w → (fault : Option ℕ) → replies w fault ≡ false
  asks-no-reply (verb.Reply bytes) e fault = absurd (reply bytes e)
  asks-no-reply (verb.Fault x) e fault = absurd (stop x e)
  asks-no-reply _ e None = refl
  asks-no-reply _ e (Some x) = refl

-- ---- the process of an actor

class-of : (classes : List ClassInfo) (c i : ℕ) (info : Option ClassInfo) → slice_get classes c ≡ info → 1 ≤ i → i ≤ processes_by info
    → c < length classes
class-of classes c i None is low high = absurd (omega (arith, low, high))
class-of classes c i (Some info) is low high = slice_get_within classes c info is

pub process-of : (system : System) (c i : ℕ) → IsActorIn system (Process c i) → IsProcessOf system c i
process-of system c i h =
    record { class = class-of system.classes c i (slice_get system.classes c) refl h.0 h.1; low = h.0; high = h.1 }

-- ---- the unit of a request

module _ (system : System) (kept : Kept) (known : IsKnown system kept) (t n : ℕ) (h : IsRunning kept.disc (unit_at kept t n)) where
  is-open : unit_told t (kept.disc.units t) ≡ Some (unit_at kept t n)
  is-open = (unit-of-open system kept known (unit_at kept t n) h.is_open).open_unit

  -- it is the open one of its terminal
  pub own-unit : (own : unit.Unit) → unit_told t (kept.disc.units t) ≡ Some own → own ≡ unit_at kept t n
  own-unit own e = same_Some own (unit_at kept t n) (sym e ∙ is-open)

-- ---- the steps

module _ (system : System) (kept : Kept) (c i : ℕ) where
  -- of one whose server stands at no verb
  pub no-step-quiet : ((v : Verb) → IsAtVerb system kept c i v → ⊥) → (entry : Event) → IsStepOf system kept (Process c i) entry → ⊥
  no-step-quiet none =
      no-step-of-process system kept c i (λ read op mode f status. works-none system kept c i none read _)
      (λ read t fault. works-none system kept c i none read _)

  module _ (request : Request) (v : Verb) (works : at_process (kept.queues c) i ≡ Some request) (stands : IsAtVerb system kept c i v) where
    at : (test : Request → Context → Bool) → works_where kept c i test ≡ test request stands.context
    at test = ap (some_with (λ r. some_with (test r) (kept.jobs c i))) works ∙ ap (some_with (test request)) stands.job

    file-at : (op : FileOp) (mode : LockMode) (f status : ℕ)
        → may_file system kept c i op mode f status ≡ asks_file (is_call_for kept op mode f status request) v
    file-at op mode f status =
        at (λ r context. asks_file (is_call_for kept op mode f status r) (verb_in system context))
        ∙ ap (asks_file (is_call_for kept op mode f status request)) stands.asks

    reply-at : (t : ℕ) (fault : Option ℕ) → may_reply system kept c i t fault ≡ (request.terminal == t && replies v fault)
    reply-at t fault =
        at (λ r context. r.terminal == t && replies (verb_in system context) fault)
        ∙ ap (λ w. request.terminal == t && replies w fault) stands.asks

    is-read : IsServerRead kept c i
    is-read context at_job =
        let same : stands.context ≡ context = cc (sym stands.job ∙ at_job) in subst (λ (x : Context). x.at_verb ≡ true) same stands.at_verb

    pub reply-step : IsProcessOf system c i → (fault : Option ℕ) → replies v fault ≡ true
        → IsStepOf system kept (Process c i) (Reply c i request.terminal fault)
    reply-step there fault e = record {
      own = refl;
      there = there;
      read = is-read;
      passes = reply-at request.terminal fault ∙ and_from _ _ (eq-eqb request.terminal request.terminal refl) e;
    }

    no-step : ((test : FileCall → Bool) → asks_file test v ≡ false) → ((fault : Option ℕ) → replies v fault ≡ false)
        → (entry : Event) → IsStepOf system kept (Process c i) entry → ⊥
    no-step files faults =
        no-step-of-process system kept c i (λ read op mode f status. file-at op mode f status ∙ files _)
        (λ read t fault. reply-at t fault ∙ and_right _ _ (faults fault))

    -- at another verb
    pub no-step-other : ((call : FileCall) → v ≡ verb.File call → ⊥) → ((bytes : List ℕ) → v ≡ verb.Reply bytes → ⊥)
        → ((x : ℕ) → v ≡ verb.Fault x → ⊥) → (entry : Event) → IsStepOf system kept (Process c i) entry → ⊥
    no-step-other file reply stop = no-step (asks-no-file v file reply stop v refl) (asks-no-reply v file reply stop v refl)

  -- at an operation
  module _ (request : Request) (call : FileCall) (works : at_process (kept.queues c) i ≡ Some request) (stands : IsAtVerb system kept c i (verb.File call)) where
    pub file-step : IsProcessOf system c i → (status : ℕ) → Foresees (Done status) kept.disc (unit_at kept request.terminal request.unit) call
        → IsStepOf system kept (Process c i) (File c i (plain_op call.op) (mode_of kept.disc.rule call.op) call.file status)
    file-step there status h = record {
      own = refl;
      there = there;
      read = is-read request (verb.File call) works stands;
      passes =
          file-at request (verb.File call) works stands (plain_op call.op) (mode_of kept.disc.rule call.op) call.file status
          ∙ and_from _ _ ((same_op (plain_op call.op) (plain_op call.op)).1 refl)
          (and_from _ _ ((same_mode (mode_of kept.disc.rule call.op) (mode_of kept.disc.rule call.op)).1 refl)
          (and_from _ _ (eq-eqb call.file call.file refl)
          (and_from _ _ (eq-eqb status _ h.1) (ap is_empty h.0))));
    }

    stopped : {A : Type 0} (x : A) (xs : List A) → Contains xs x → is_empty xs ≡ false
    stopped x [] h = absurd (omega (arith, h.1))
    stopped x (y ∷ ys) h = refl

    pub no-step-conflict : (holder : unit.Unit) → Foresees (Conflict holder) kept.disc (unit_at kept request.terminal request.unit) call
        → (entry : Event) → IsStepOf system kept (Process c i) entry → ⊥
    no-step-conflict holder h =
        no-step-of-process system kept c i
        (λ read op mode f status. file-at request (verb.File call) works stands op mode f status ∙ fails op mode f status)
        (λ read t fault. reply-at request (verb.File call) works stands t fault ∙ and_right _ _ (no-reply call fault))
      where
        fails : (op : FileOp) (mode : LockMode) (f status : ℕ) → is_call_for kept op mode f status request call ≡ false
        fails op mode f status =
            and_right (is_same_op op (plain_op call.op)) _
            (and_right (is_same_mode mode (mode_of kept.disc.rule call.op)) _
            (and_right (f == call.file) _
            (and_right (status == (answer_of (kept.disc.key_length call.file) (kept.disc.files call.file) call.op call).status) _
            (stopped holder (holders (lock_now kept.disc (unit_at kept request.terminal request.unit) call) kept.disc.locks) h.among))))
