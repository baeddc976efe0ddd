use Rattle.std.proofs.Common.{ap, arith}
use Rattle.pw_deck_runs.specs.recovery.Kept.{trail_state}
use Rattle.pw_deck_runs.proofs.Calling.{keeps-commit, on-ok}
use Rattle.pw_tmf.specs.Tmf.{told_of}
use Rattle.pw_tmf.specs.Told.{Told}
use Rattle.pw_trail.specs.Committing.{record_of}
use Rattle.pw_deck_runs.proofs.recovery.kept.KeptTrailDisc.commit.Goals as goal

pub invariant_of-self : goal.invariant_of-self
invariant_of-self g c =
    let old = c.self.inside.trail in
    let new = c.commit.new.self in
    keeps-commit g.S.Synced.held g.S.Synced.images g.S.Synced.settled g.S.Synced.lasts
    g.N.TrailNaming.files g.N.TrailNaming.before g.N.TrailNaming.life
    (trail_state old.log.files old.log.disk old.log.is_broken old.faults old.tmf)
    (trail_state new.log.files new.log.disk new.log.is_broken new.faults new.tmf)
    (g.met.S.Synced.settled_may_stay new.log.disk)
    c.self.invariant (record_of (told_of old.tmf) c.args.unit.now) c.commit.result c.commit.ensures.commits
    (on-ok c.commit.result c.commit.ensures.ok (λ is. omega (arith, ap (λ (t : Told). t.faults) is)))
    (on-ok c.commit.result c.commit.ensures.ok (λ is. ap (λ (t : Told). t.commits) is)) c.commit.ensures.err
    c.commit.ensures.unsettled c.commit.ensures.passes c.commit.ensures.fails c.commit.ensures.uncounted
