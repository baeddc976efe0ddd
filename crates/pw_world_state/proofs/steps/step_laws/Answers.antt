use Rattle.pw_world_state.proofs.EachEntry.{next-enters}
use Rattle.pw_world_state.proofs.Needed.{needs}
use Rattle.pw_world_state.proofs.steps.step_laws.Goals as goal

pub returns-clause-needs : goal.returns-clause-needs
returns-clause-needs c system script log kept entry valid b run stands there read more fit legal =
    needs system script valid b log run kept stands entry there read more fit legal.fits

pub returns-clause-next : goal.returns-clause-next
returns-clause-next c system script members log kept entry valid b run are stands there read more fit legal =
    next-enters system script members log kept entry b run are stands legal
    (needs system script valid b log run kept stands entry there read more fit legal.fits)
