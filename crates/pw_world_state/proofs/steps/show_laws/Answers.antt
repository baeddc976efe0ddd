use Rattle.pw_world_state.proofs.Showing.{may-shows, shows-may}
use Rattle.pw_world_state.proofs.steps.show_laws.Goals as goal

pub returns-clause-shows : goal.returns-clause-shows
returns-clause-shows c system script log kept entry valid b run stands there read fit unfinished due passes =
    may-shows system script log kept valid b run stands entry there read fit unfinished due passes

pub returns-clause-passes : goal.returns-clause-passes
returns-clause-passes c system script log kept entry valid b run stands there read fit legal shows =
    shows-may system script log kept valid b run stands entry there read fit legal shows
