-- Requests in what is kept and in the state.
use Rattle.std.proofs.Common.{◌≡◌, ℕ, ◌+◌, ◌-◌, ◌<◌, ◌≤◌, List, length, Some, Bool, true, refl, sym, ap, subst, ◌∙◌, arith}
use Rattle.std.specs.List.{list_any}
use Rattle.std.proofs.lemmas.Bool.{eq-eqb, or_right}
use Rattle.pw_class.specs.Queue as queue
use Rattle.pw_class.specs.Queue.{at_process, works_for}
use Rattle.pw_code.specs.declared.system.System.{System}
use Rattle.pw_event.specs.declared.script.FailLine.{FailLine}
use Rattle.pw_code_meaning.specs.OfSystem.{behaviour, processes_by}
use Rattle.pw_world_state.specs.Kept.{Kept}
use Rattle.pw_world_state.specs.Stands.{Stands}
use Rattle.pw_world_state.specs.TerminalTests as kept
use Rattle.pw_world_state.proofs.Agreeing.{there-is}
use Rattle.pw_world_state.proofs.Testing.{any-same}
use Rattle.pw_onecopy.specs.Behaviour.{Behaviour}
use Rattle.pw_paired.specs.State.{Job, State}
use Rattle.pw_paired.specs.Units.{any_below, has_request, is_out, request_in}
use Rattle.pw_laws.proofs.requests.Classes.{IsProcess}
use Rattle.pw_laws.proofs.requests.Queues.{has-queue, works-queue}
use Rattle.pw_laws.proofs.Lacking.{any_below-true}

-- ---- numbers below a bound

-- ---- a process at work

-- its class has the request of a server at work
pub job-has : (sys : Behaviour) (state : State) (c i : ℕ) (job : Job) → IsProcess sys c i → (state.classes c).busy i ≡ Some job → has_request job.request.terminal (sys.processes c) (state.classes c) ≡ true
job-has sys state c i job of works =
    or_right (list_any (queue.is_of t) (state.classes c).waiting) (any_below (sys.processes c) at)
    (any_below-true (sys.processes c) at (i - 1) (omega (arith, of.from_one, of.within))
    (let e : i - 1 + 1 ≡ i = omega (arith, of.from_one) in
    ap (λ j. works_for t (request_in ((state.classes c).busy j))) e ∙ (ap (λ o. works_for t (request_in o)) works ∙ eq-eqb t t refl)))
  where
    t : ℕ
    t = job.request.terminal

    at : ℕ → Bool
    at j = works_for t (request_in ((state.classes c).busy (j + 1)))

-- so it is out
pub job-out : (sys : Behaviour) (state : State) (c i : ℕ) (job : Job) → IsProcess sys c i → (state.classes c).busy i ≡ Some job → is_out sys state job.request.terminal ≡ true
job-out sys state c i job of works =
    any_below-true sys.classes (λ d. has_request job.request.terminal (sys.processes d) (state.classes d)) c of.there (job-has sys state c i job of works)

-- ---- what is kept says the same

module _ (system : System) (script : List FailLine) (state : State) (own : Kept) (stands : Stands system script state own) where
  abbrev sys : Behaviour
  sys = behaviour script system

  pub has-same : (t c : ℕ) → c < length system.classes → queue.has_request t (own.queues c) ≡ has_request t (sys.processes c) (state.classes c)
  has-same t c low =
      let found = there-is system.classes c low in
      ap (queue.has_request t) (stands.classes c found.0 found.1).queue_is
      ∙ (sym (has-queue found.0.processes t (state.classes c)) ∙ ap (λ o. has_request t (processes_by o) (state.classes c)) (sym found.1))

  pub out-same : (t : ℕ) → kept.is_out system own t ≡ is_out sys state t
  out-same t = any-same (length system.classes) _ _ (has-same t)

  pub at-same : (c i : ℕ) → IsProcess sys c i → at_process (own.queues c) i ≡ request_in ((state.classes c).busy i)
  at-same c i of =
      let found = there-is system.classes c of.there in
      let high : i ≤ found.0.processes = subst (λ o. i ≤ processes_by o) found.1 of.within in
      ap (λ q. at_process q i) (stands.classes c found.0 found.1).queue_is ∙ works-queue found.0.processes i (state.classes c) of.from_one high
