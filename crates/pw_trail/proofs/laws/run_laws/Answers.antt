use Rattle.pw_trail.proofs.CallRuns.{leaves, recovers, reopens}
use Rattle.pw_trail.proofs.laws.run_laws.Goals as goal

pub returns-clause-leaves : goal.returns-clause-leaves
returns-clause-leaves g c before calls first now stands run image may =
    leaves g.S.Synced.held g.S.Synced.images before calls first now stands run image may

pub returns-clause-recovers : goal.returns-clause-recovers
returns-clause-recovers g c system before calls image told h read = recovers system before calls image told h read

pub returns-clause-reopens : goal.returns-clause-reopens
returns-clause-reopens g c files before calls image other h same = reopens files before calls image other h same
