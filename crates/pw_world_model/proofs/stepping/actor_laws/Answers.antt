use Rattle.pw_world_model.proofs.Steps.{acts, may-scripted, owner, placed}
use Rattle.pw_world_model.proofs.stepping.actor_laws.Goals as goal

pub returns-clause-script : goal.returns-clause-script
returns-clause-script c system script kept entry plain = may-scripted system script kept entry plain

pub returns-clause-owner : goal.returns-clause-owner
returns-clause-owner c system script entry b low = owner system script b entry low

pub returns-clause-actor : goal.returns-clause-actor
returns-clause-actor c system script entry b low = acts system script b entry low

pub returns-clause-placed : goal.returns-clause-placed
returns-clause-placed c system actor valid of = placed system valid actor of
