use Rattle.std.proofs.Common.{refl}
use Rattle.pw_invariants.proofs.Measures.{HasStepped, steps-kept}
use Rattle.pw_invariants.proofs.Runs.{history-committed, history-reported}
use Rattle.pw_invariants.proofs.histories.measures_step_by_units.Goals as goal

pub returns-clause-committed : goal.returns-clause-committed
returns-clause-committed g c = λ sys b first keeps measure step steps log run.
    let holds = g.I.Invariant.holds in
    (history-committed sys b (HasStepped sys holds measure step (measure sys.records)) (steps-kept sys holds measure step (measure sys.records) keeps steps)
    (record { meet = first; measured = refl }) log (c.runs_are_serializable.ensures sys b log run)).measured

pub returns-clause-reported : goal.returns-clause-reported
returns-clause-reported g c = λ sys b first keeps measure step steps log run.
    let holds = g.I.Invariant.holds in
    (history-reported sys b (HasStepped sys holds measure step (measure sys.records)) (steps-kept sys holds measure step (measure sys.records) keeps steps)
    (record { meet = first; measured = refl }) log (c.runs_are_serializable.ensures sys b log run)).measured
