use Rattle.pw_world_model.proofs.Outcomes.{outcome-ran, process-back, process-busy, terminal-back, terminal-work}
use Rattle.pw_world_model.proofs.RanOn.{process-ran, terminal-ran}
use Rattle.pw_world_model.proofs.pushing.running_laws.Goals as goal

pub returns-clause-terminal : goal.returns-clause-terminal
returns-clause-terminal c world books t info old new verb marked w here is on are = terminal-ran world books w t info old new verb marked here is on are

pub returns-clause-process : goal.returns-clause-process
returns-clause-process c world books p i info old new verb marked w here is on are = process-ran world books w p i info old new verb marked here is on are

pub returns-clause-outcome : goal.returns-clause-outcome
returns-clause-outcome c world books outcome marked w of on same are = outcome-ran world books w outcome of on same marked are

pub returns-clause-terminal_back : goal.returns-clause-terminal_back
returns-clause-terminal_back c world books t given new w low is = terminal-back world books w t given new low is

pub returns-clause-process_back : goal.returns-clause-process_back
returns-clause-process_back c world books p i given new w is = process-back world books w p i given new is

pub returns-clause-busy : goal.returns-clause-busy
returns-clause-busy c world books p i context w low is = process-busy world books w p i context low is

pub returns-clause-behind : goal.returns-clause-behind
returns-clause-behind c world books t given w low is = terminal-work world books w t given low is
