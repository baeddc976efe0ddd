use Rattle.std.proofs.Common.{ap, refl}
use Rattle.pw_deck_runs.specs.recovery.Kept.{told_in, trail_state}
use Rattle.pw_deck_runs.proofs.Calling.{keeps-other, none-counted}
use Rattle.pw_tmf.specs.Units.{begun}
use Rattle.pw_deck_runs.proofs.recovery.kept.KeptTrailDisc.begin.Goals as goal

pub invariant_of-self : goal.invariant_of-self
invariant_of-self g c =
    let old = c.self.inside.trail in
    let new = c.begin.new.self in
    let o = trail_state old.log.files old.log.disk old.log.is_broken old.faults old.tmf in
    let n = trail_state new.log.files new.log.disk new.log.is_broken new.faults new.tmf in
    keeps-other g.S.Synced.held g.S.Synced.images g.S.Synced.settled g.S.Synced.lasts
    g.N.TrailNaming.files g.N.TrailNaming.before g.N.TrailNaming.life
    o n (g.met.S.Synced.settled_may_stay new.log.disk)
    c.self.invariant (ap (λ log. log.files) c.begin.ensures.log) (ap (λ log. log.disk) c.begin.ensures.log)
    (ap (λ log. log.is_broken) c.begin.ensures.log)
    c.begin.ensures.steady
    (none-counted c.begin.result (told_in o) (begun (told_in o) c.args.unit.now) (told_in n) refl c.begin.ensures.ok c.begin.ensures.err)
