-- The laws of the next step by what is kept.
use Rattle.pw_world_state.proofs.NextSteps.{entry-same, may-step-at, step-same}
use Rattle.pw_world_state.proofs.next.next_laws.Goals as goal

pub returns-clause-step : goal.returns-clause-step
returns-clause-step c system script log kept t context valid b run stands is fit closed =
    step-same system script valid b log run kept stands t context is fit closed

pub returns-clause-entry : goal.returns-clause-entry
returns-clause-entry c system script log kept t context valid b run stands is s =
    entry-same system script valid b log run kept stands t context is s

pub returns-clause-may : goal.returns-clause-may
returns-clause-may c system script log kept t context valid b run stands is fit closed =
    may-step-at system script valid b log run kept stands t context is fit closed
