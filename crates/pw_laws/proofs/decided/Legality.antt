-- The test of legality decides it, and a log is a run exactly where each of its entries passes.
use Rattle.std.proofs.Common.{◌≡◌, true, List, [], ◌∷◌, Decides, refl}
use Rattle.pw_event.specs.declared.event.Event.{Event}
use Rattle.pw_event.specs.declared.event.Event.TheVariants.{Show, Key, CheckStart, CheckEnd, CheckCopy, Applied, Begin, Send, Take, File, Reply, Again, Commit, Back, Restart, FailTcp, FailServer, Takeover, Raise, End}
use Rattle.pw_laws.proofs.Deciding.{DecidesIf, always, given, both, itself, itself_not, both_if, like_if}
use Rattle.pw_laws.proofs.decided.Causes.{restart}
use Rattle.pw_laws.proofs.decided.Classes as class
use Rattle.pw_laws.proofs.decided.Pairs as pair
use Rattle.pw_laws.proofs.decided.Terminals as terminal
use Rattle.pw_laws.proofs.decided.Values.{same_number}
use Rattle.pw_laws.specs.legal.Causes.{JobsAreThere}
use Rattle.pw_laws.specs.legal.Legality.{is_by_conflict, is_run, is_run_from}
use Rattle.pw_laws.specs.legal.Legality as test
use Rattle.pw_laws.proofs.kept.Kept.{Inv}
use Rattle.pw_laws.proofs.kept.Runs.{keeps, kept-at-start, kept-from}
use Rattle.pw_onecopy.specs.IsBehaviour.{IsBehaviour}
use Rattle.pw_paired.specs.State.{State, starting}
use Rattle.pw_paired.specs.Step.{Fits, IsRun, IsRunFrom, Legal, after, effect, is_finished, line_due, line_wanted}
use Rattle.pw_onecopy.specs.Behaviour.{Behaviour}

fitting : (sys : Behaviour) (state : State) (entry : Event)
    → DecidesIf (is_by_conflict entry ≡ true → JobsAreThere sys state) (test.fits sys state entry) (Fits sys state entry)
fitting sys state (Show t phase attempt k) = always (terminal.show sys state t phase attempt k)
fitting sys state (Key t k) = always (terminal.key sys state t k)
fitting sys state (CheckStart t) = always (terminal.check_start sys state t)
fitting sys state (CheckEnd t) = always (terminal.check_end sys state t)
fitting sys state (CheckCopy t) = always (pair.check_copy sys state t)
fitting sys state (Applied t) = always (pair.applied sys state t)
fitting sys state (Begin t n r) = always (terminal.begin sys state t n r)
fitting sys state (Send t n c) = always (terminal.send sys state t n c)
fitting sys state (Take c i t) = always (class.take sys state c i t)
fitting sys state (File c i op mode f status) = always (class.file sys state c i op mode f status)
fitting sys state (Reply c i t fault) = always (class.reply sys state c i t fault)
fitting sys state (Again t n) = always (terminal.again sys state t n)
fitting sys state (Commit t n) = always (terminal.commit sys state t n)
fitting sys state (Back t n) = always (terminal.back sys state t n)
fitting sys state (Restart t n why) = restart sys state t n why
fitting sys state (FailTcp p primary k) = always (pair.fail_tcp sys p primary k)
fitting sys state (FailServer c i k) = always (pair.fail_server sys c i k)
fitting sys state (Takeover p) = always (pair.takeover state p)
fitting sys state (Raise p) = always (pair.raise sys state p)
fitting sys state (End t how) = pair.end sys state t how

-- whether the entry is legal
pub legality : (sys : Behaviour) (state : State) (entry : Event)
    → DecidesIf (is_by_conflict entry ≡ true → JobsAreThere sys state) (test.is_legal sys state entry) (Legal sys state entry)
unfolding test.is_legal
legality sys state entry =
    like_if (both_if (always (itself_not (is_finished sys state)))
    (both_if (always (same_number (line_due sys state entry) (line_wanted entry))) (fitting sys state entry)))
    (λ h. record { unfinished = h.0; due = h.1.0; fits = h.1.1 }) (λ l. (l.unfinished, (l.due, l.fits)))

-- a log of which each entry passes is a run
pub run-sound : (sys : Behaviour) (state : State) (log : List Event) → is_run_from sys state log ≡ true → IsRunFrom sys state log
run-sound sys state [] e = tt
run-sound sys state (entry ∷ log) e =
    let h = (both (itself (test.is_legal sys state entry)) (itself (is_run_from sys (effect sys state entry) log))).0 e in
    ((legality sys state entry).0 h.0, run-sound sys (effect sys state entry) log h.1)

-- Runs keep that only processes of the system's classes work, so that the test misses nothing.

there : {sys : Behaviour} {state : State} → Inv sys state → JobsAreThere sys state
there i = record {
  classes = λ c p job works. (i.requests.bounds.work c p job works).there;
  processes = λ c p job works. let process = i.requests.bounds.work c p job works in (process.from_one, process.within);
}

module _ (sys : Behaviour) (b : IsBehaviour sys) where
  -- behind a run only processes of the system's classes work
  pub jobs-there : (log : List Event) → IsRun sys log → JobsAreThere sys (after sys log)
  jobs-there log run = there (kept-from sys b (starting sys) (kept-at-start sys) log run)

  -- behind a run the test decides whether an entry is legal
  pub legal : (log : List Event) → IsRun sys log → (entry : Event)
      → Decides (test.is_legal sys (after sys log) entry) (Legal sys (after sys log) entry)
  legal log run entry = given (legality sys (after sys log) entry) (λ _. jobs-there log run)

  run_from : (state : State) → Inv sys state → (log : List Event) → IsRunFrom sys state log → is_run_from sys state log ≡ true
  run_from state i [] run = refl
  run_from state i (entry ∷ log) run =
      (both (itself (test.is_legal sys state entry)) (itself (is_run_from sys (effect sys state entry) log))).1
      ((legality sys state entry).1 (λ _. there i) run.0, run_from (effect sys state entry) (keeps sys b state i entry run.0) log run.1)

  -- whether the log is a run
  pub run : (log : List Event) → Decides (is_run sys log) (IsRun sys log)
  run log = (run-sound sys (starting sys) log, run_from (starting sys) (kept-at-start sys) log)
