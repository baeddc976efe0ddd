use Rattle.std.proofs.Common.{ap}
use Rattle.pw_deck_runs.specs.recovery.Kept.{told_in, trail_state}
use Rattle.pw_deck_runs.proofs.Calling.{back-counted, keeps-other, none-counted}
use Rattle.pw_tmf.specs.Units.{all_backed_out}
use Rattle.pw_deck_runs.proofs.recovery.kept.KeptTrailDisc.back_out.Goals as goal

pub invariant_of-self : goal.invariant_of-self
invariant_of-self g c =
    let old = c.self.inside.trail in
    let new = c.back_out.new.self in
    let o = trail_state old.log.files old.log.disk old.log.is_broken old.faults old.tmf in
    let n = trail_state new.log.files new.log.disk new.log.is_broken new.faults new.tmf in
    keeps-other g.S.Synced.held g.S.Synced.images g.S.Synced.settled g.S.Synced.lasts
    g.N.TrailNaming.files g.N.TrailNaming.before g.N.TrailNaming.life
    o n (g.met.S.Synced.settled_may_stay new.log.disk)
    c.self.invariant (ap (λ log. log.files) c.back_out.ensures.log) (ap (λ log. log.disk) c.back_out.ensures.log)
    (ap (λ log. log.is_broken) c.back_out.ensures.log)
    c.back_out.ensures.steady
    (none-counted c.back_out.result (told_in o) (all_backed_out c.args.ends (told_in o) c.args.units.now) (told_in n)
    (back-counted c.args.ends (told_in o) c.args.units.now) c.back_out.ensures.ok c.back_out.ensures.err)
