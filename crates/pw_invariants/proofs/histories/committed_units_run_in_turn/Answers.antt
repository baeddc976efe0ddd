use Rattle.std.proofs.Common.{◌++◌}
use Rattle.pw_invariants.proofs.Runs.{throughout}
use Rattle.pw_invariants.proofs.Turns.{between, run-in-turn}
use Rattle.pw_invariants.proofs.histories.committed_units_run_in_turn.Goals as goal

pub returns-clause-whole : goal.returns-clause-whole
returns-clause-whole c = λ sys b log run. run-in-turn sys b log (c.runs_are_serializable.ensures sys b log run)

pub returns-clause-between : goal.returns-clause-between
returns-clause-between c = λ sys b log more run.
    between sys b log more (c.runs_are_serializable.ensures sys b log (throughout sys log more run)) (c.runs_are_serializable.ensures sys b (log ++ more) run)
