use Rattle.pw_generated_runs.proofs.Machines.{endings-may, records-counted}
use Rattle.pw_generated_runs.proofs.laws.runs_count_entries.Goals as goal

pub returns-clause-endings : goal.returns-clause-endings
returns-clause-endings c = λ sys b digits deck log run t lt.
    endings-may sys digits deck log (c.runs_are_serializable.ensures sys b log run) t lt

pub returns-clause-records : goal.returns-clause-records
returns-clause-records c = λ sys b digits deck log run all.
    records-counted sys digits deck log (c.runs_are_serializable.ensures sys b log run) all
