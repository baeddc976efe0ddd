use Rattle.pw_deck_runs.specs.recovery.Kept.{trail_state}
use Rattle.pw_store_runs.proofs.Beginning.{begins-stored}
use Rattle.pw_store_runs.proofs.system.begun.Goals as goal

pub returns-clause-begins : goal.returns-clause-begins
returns-clause-begins g c =
    let trail = c.in_ok-trail.trail in
    let opens = c.in_ok-trail.ensures in
    let state = trail_state trail.log.files trail.log.disk trail.log.is_broken trail.faults trail.tmf in
    begins-stored g.D.Disk.bytes g.D.Disk.may_leave c.args.own.now c.args.system.now (g.D.Disk.bytes c.args.disk) state
    c.found_laws.ensures.found c.found_laws.ensures.told c.requires.alike c.requires.own opens.files opens.read opens.faults
    opens.stands (trail.leads opens.stands.goes) c.in-Ok.now c.in-Ok.ensures
