use Rattle.std.proofs.Common.{◌≡◌, refl}
use Rattle.pw_invariants.proofs.Requests.{balance-keeps, units-step}
use Rattle.pw_invariants.proofs.Runs.{history-committed}
use Rattle.pw_invariants.proofs.histories.measures_step_by_requests.Goals as goal

pub returns-clause-units : goal.returns-clause-units
returns-clause-units g c = λ sys b keep measure step servers. units-step sys b g.I.Invariant.holds keep measure step servers

pub returns-clause-balanced : goal.returns-clause-balanced
returns-clause-balanced g c = λ sys b first keep measure step servers balance log run.
    (history-committed sys b (λ done records. g.I.Invariant.holds records × (measure records ≡ measure sys.records))
    (λ done. balance-keeps sys b g.I.Invariant.holds keep measure step servers balance (measure sys.records)) (first, refl) log (c.runs_are_serializable.ensures sys b log run)).1
