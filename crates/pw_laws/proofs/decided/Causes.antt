-- The tests of causes and restarts decide what they say; where they look for a process, they miss
-- none where only processes of the system's classes work.
use Rattle.std.proofs.Common.{◌≡◌, ℕ, ◌+◌, ◌-◌, ◌<◌, Bool, true, List, Option, Some, Decides, refl, ap, ◌∙◌, arith}
use Rattle.pw_code.specs.declared.file.FileCall.{FileCall}
use Rattle.pw_code.specs.declared.unit.Unit as unit
use Rattle.pw_code.specs.declared.verb.Verb.TheVariants as verb
use Rattle.pw_event.specs.declared.event.Cause.{Cause}
use Rattle.pw_event.specs.declared.event.Cause.TheVariants as cause
use Rattle.pw_laws.proofs.Deciding.{DecidesIf, always, suppose, both, denied, like, itself, number, below, some, one_with, some_below, both_if, either_if, like_if, one_with_if}
use Rattle.pw_laws.proofs.decided.Terminals.{can}
use Rattle.pw_laws.proofs.decided.Values.{alone, gone, paired, server_by, takeover_by}
use Rattle.pw_laws.proofs.decided.Verbs as asked
use Rattle.pw_laws.specs.legal.Causes.{JobsAreThere, is_conflict}
use Rattle.pw_laws.specs.legal.Causes as test
use Rattle.pw_laws.specs.legal.Values.{some_with}
use Rattle.pw_paired.specs.End.{LegalSuspended}
use Rattle.pw_paired.specs.Failure.{Holds, LegalOlder, LegalRestart, Meets, unit_named}
use Rattle.pw_onecopy.specs.Path.{PathAnswer}
use Rattle.pw_paired.specs.Server.{server_verb}
use Rattle.pw_paired.specs.State.{Job, OpenUnit, State}
use Rattle.pw_onecopy.specs.Behaviour.{Behaviour}
use Rattle.pw_paired.specs.Terminal.{next_verb}

-- what the search for a process finds
record Found (sys : Behaviour) (state : State) (one other : unit.Unit) : Type 0 where
  class : ℕ
  there : class < sys.classes
  place : ℕ
  within : place < sys.processes class
  job : Job
  at_work : (state.classes class).busy (place + 1) ≡ Some job
  works : job.request.terminal ≡ one.terminal
  unit_is : job.request.unit ≡ one.number
  call : FileCall
  asks : server_verb sys class job ≡ verb.File call
  meets : test.call_meets sys state other job call ≡ true

found : (sys : Behaviour) (state : State) (one other : unit.Unit) → Decides (test.meets sys state one other) (Found sys state one other)
unfolding test.meets
found sys state one other =
    like (some_below (λ (class : ℕ). some_below (λ (i : ℕ). one_with (job_meets class) ((state.classes class).busy (i + 1))) (sys.processes class)) sys.classes)
    (λ h. record {
      class = h.0;
      there = h.1;
      place = h.2.0;
      within = h.2.1;
      job = h.2.2.0;
      at_work = h.2.2.1;
      works = h.2.2.2.0;
      unit_is = h.2.2.2.1.0;
      call = h.2.2.2.1.1.0;
      asks = h.2.2.2.1.1.1;
      meets = h.2.2.2.1.1.2;
    })
    (λ l. (l.class, l.there, (l.place, l.within, (l.job, l.at_work, (l.works, (l.unit_is, (l.call, l.asks, l.meets)))))))
  where
    job_meets : (class : ℕ) (job : Job) → Decides (test.job_meets sys state one other class job)
        ((job.request.terminal ≡ one.terminal) × ((job.request.unit ≡ one.number)
        × ((call : FileCall) × (server_verb sys class job ≡ verb.File call) × (test.call_meets sys state other job call ≡ true))))
    job_meets class job =
        both (number job.request.terminal one.terminal) (both (number job.request.unit one.number)
        (asked.file (λ (call : FileCall). itself (test.call_meets sys state other job call)) (server_verb sys class job)))

meet : (sys : Behaviour) (state : State) (one other : unit.Unit) → DecidesIf (JobsAreThere sys state) (test.meets sys state one other) (Meets sys state one other)
meet sys state one other =
    (λ e. of_found ((found sys state one other).0 e), λ there m. (found sys state one other).1 (to_found there m))
  where
    of_found : Found sys state one other → Meets sys state one other
    of_found h = record {
      class = h.class;
      process = h.place + 1;
      job = h.job;
      at_work = h.at_work;
      works = h.works;
      unit_is = h.unit_is;
      call = h.call;
      asks = h.asks;
      meets = h.meets;
    }

    to_found : JobsAreThere sys state → Meets sys state one other → Found sys state one other
    to_found there m =
        let process = there.processes m.class m.process m.job m.at_work in
        let from_one = process.0 in
        let one_more : m.process - 1 + 1 ≡ m.process = omega (arith, from_one) in
        record {
          class = m.class;
          there = there.classes m.class m.process m.job m.at_work;
          place = m.process - 1;
          within = let last = process.1 in omega (arith, from_one, last);
          job = m.job;
          at_work = ap (λ (i : ℕ). (state.classes m.class).busy i) one_more ∙ m.at_work;
          works = m.works;
          unit_is = m.unit_is;
          call = m.call;
          asks = m.asks;
          meets = m.meets;
        }

older : (sys : Behaviour) (state : State) (t : ℕ) (own : OpenUnit) (o m : ℕ)
    → DecidesIf (JobsAreThere sys state) (test.is_legal_older sys state t own o m) (LegalOlder sys state t own o m)
older sys state t own o m =
    like_if (one_with_if (λ (unit : OpenUnit). both_if (always (number unit.number m)) (both_if (always (below unit.birth own.birth))
    (both_if (always (denied (gone (state.modes (sys.pair_of t)))))
    (either_if (meet sys state (unit_named t own) (unit_named o unit)) (meet sys state (unit_named o unit) (unit_named t own)))))) (state.units o))
    (λ h. record { older = h.0; is_open = h.1; number = h.2.0; is_older = h.2.1.0; there = h.2.1.1.0; meets = h.2.1.1.1 })
    (λ l. (l.older, l.is_open, (l.number, (l.is_older, (l.there, l.meets)))))

pending_is : {passes : Cause → Bool} {own : Cause} → ((pending : Cause) → Decides (passes pending) (pending ≡ own)) → (pending : Option Cause)
    → Decides (some_with passes pending) (pending ≡ Some own)
pending_is each pending = like (one_with each pending) (λ h. h.1 ∙ ap (λ (c : Cause). Some c) h.2) (λ e. (_, e, refl))

holding : (sys : Behaviour) (state : State) (t : ℕ) (own : OpenUnit) (why : Cause)
    → DecidesIf (is_conflict why ≡ true → JobsAreThere sys state) (test.cause_holds sys state t own why) (Holds sys state t own why)
holding sys state t own (cause.Older o m) = suppose (λ h. h refl) (older sys state t own o m)
holding sys state t own (cause.Takeover p) =
    always (like (both (pending_is (takeover_by p) (state.terms t).pending) (alone (state.modes (sys.pair_of t))))
    (λ h. record { pending = h.0; alone = h.1 }) (λ l. (l.pending, l.alone)))
holding sys state t own (cause.Server k) =
    always (like (both (pending_is (server_by k) (state.terms t).pending) (paired (state.modes (sys.pair_of t))))
    (λ h. record { pending = h.0; paired = h.1 }) (λ l. (l.pending, l.paired)))
holding sys state t own cause.Redo =
    always (like (both (can sys state t) (asked.redo (next_verb sys state t))) (λ h. record { can = h.0; asks = h.1 }) (λ l. (l.can, l.asks)))

-- an attempt runs, and the cause holds for it
caused : (sys : Behaviour) (state : State) (t : ℕ) (why : Cause) (unit : OpenUnit)
    → DecidesIf (is_conflict why ≡ true → JobsAreThere sys state) (test.is_caused sys state t why unit)
    (((start : List PathAnswer) × (unit.running ≡ Some start)) × Holds sys state t unit why)
caused sys state t why unit = both_if (always (some unit.running)) (holding sys state t unit why)

-- whether RESTART t n cause is legal by its kind
pub restart : (sys : Behaviour) (state : State) (t n : ℕ) (why : Cause)
    → DecidesIf (is_conflict why ≡ true → JobsAreThere sys state) (test.is_legal_restart sys state t n why) (LegalRestart sys state t n why)
restart sys state t n why =
    like_if (one_with_if (λ (unit : OpenUnit). both_if (always (number unit.number n))
    (both_if (caused sys state t why unit) (always (below unit.restarts (sys.max_restarts t))))) (state.units t))
    (λ h. record {
      unit = h.0;
      caused = record { is_open = h.1; number = h.2.0; start = h.2.1.0.0.0; runs = h.2.1.0.0.1; holds = h.2.1.0.1 };
      few = h.2.1.1;
    })
    (λ l. (l.unit, l.caused.is_open, (l.caused.number, (((l.caused.start, l.caused.runs), l.caused.holds), l.few))))

-- whether END t SUSPENDED cause is legal by its kind
pub suspended : (sys : Behaviour) (state : State) (t : ℕ) (why : Cause)
    → DecidesIf (is_conflict why ≡ true → JobsAreThere sys state) (test.is_legal_suspended sys state t why) (LegalSuspended sys state t why)
suspended sys state t why =
    like_if (one_with_if (λ (unit : OpenUnit). both_if (caused sys state t why unit) (always (number unit.restarts (sys.max_restarts t)))) (state.units t))
    (λ h. record {
      unit = h.0;
      caused = record { is_open = h.1; number = refl; start = h.2.0.0.0; runs = h.2.0.0.1; holds = h.2.0.1 };
      full = h.2.1;
    })
    (λ l. (l.unit, l.caused.is_open, (((l.caused.start, l.caused.runs), l.caused.holds), l.full)))
