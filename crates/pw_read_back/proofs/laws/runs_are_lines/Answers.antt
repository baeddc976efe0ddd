use Rattle.pw_read_back.proofs.Reading.{run-behind, run-lines}
use Rattle.pw_read_back.proofs.laws.runs_are_lines.Goals as goal

pub returns-clause-each : goal.returns-clause-each
returns-clause-each c = run-lines

pub returns-clause-behind : goal.returns-clause-behind
returns-clause-behind c = run-behind
