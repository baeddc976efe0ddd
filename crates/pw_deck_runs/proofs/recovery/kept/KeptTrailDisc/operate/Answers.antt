use Rattle.std.proofs.Common.{ap}
use Rattle.pw_deck_runs.specs.recovery.Kept.{told_in, trail_state}
use Rattle.pw_deck_runs.proofs.Calling.{keeps-other, operation-counted}
use Rattle.pw_deck_runs.proofs.recovery.kept.KeptTrailDisc.operate.Goals as goal

pub invariant_of-self : goal.invariant_of-self
invariant_of-self g c =
    let old = c.self.inside.trail in
    let new = c.operate.new.self in
    let o = trail_state old.log.files old.log.disk old.log.is_broken old.faults old.tmf in
    let n = trail_state new.log.files new.log.disk new.log.is_broken new.faults new.tmf in
    keeps-other g.S.Synced.held g.S.Synced.images g.S.Synced.settled g.S.Synced.lasts
    g.N.TrailNaming.files g.N.TrailNaming.before g.N.TrailNaming.life
    o n (g.met.S.Synced.settled_may_stay new.log.disk)
    c.self.invariant (ap (λ log. log.files) c.operate.ensures.log) (ap (λ log. log.disk) c.operate.ensures.log)
    (ap (λ log. log.is_broken) c.operate.ensures.log)
    c.operate.ensures.steady
    (operation-counted c.operate.result (told_in o) (told_in n) c.args.unit.now c.args.call.now c.operate.ensures.answer)
