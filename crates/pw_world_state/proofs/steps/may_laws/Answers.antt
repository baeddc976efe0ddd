use Rattle.pw_world_state.proofs.Legally.{legal-may, may-legal}
use Rattle.pw_world_state.proofs.Mays.{may-same}
use Rattle.pw_world_state.proofs.steps.may_laws.Goals as goal

pub returns-clause-kind : goal.returns-clause-kind
returns-clause-kind c system script log kept entry valid b run stands there read fit =
    may-same system script valid b log run kept stands entry there read fit

pub returns-clause-legal : goal.returns-clause-legal
returns-clause-legal c = may-legal

pub returns-clause-passes : goal.returns-clause-passes
returns-clause-passes c = legal-may
