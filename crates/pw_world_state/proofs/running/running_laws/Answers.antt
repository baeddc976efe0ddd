use Rattle.pw_world_state.proofs.RunOn.{process-asks, process-on, terminal-asks, terminal-on}
use Rattle.pw_world_state.proofs.running.running_laws.Goals as goal

pub returns-clause-terminal : goal.returns-clause-terminal
returns-clause-terminal c system script state kept t info old new verb stands here is on =
    (terminal-on system script state kept stands t info old new verb here is on, terminal-asks system script state kept stands t info old new verb here is on)

pub returns-clause-process : goal.returns-clause-process
returns-clause-process k system script state kept c i info old new verb stands here is on =
    (process-on system script state kept stands c i info old new verb here is on, process-asks system script state kept stands c i info old new verb here is on)
