use Rattle.std.proofs.Common.{refl}
use Rattle.pw_tmf.specs.Tmf.{told_of}
use Rattle.pw_tmf.specs.Told.{Told}
use Rattle.pw_trail.proofs.Keeping.{can-begin, keeps-begin, leads-same}
use Rattle.pw_trail.proofs.trail.TrailDisc.begin.Goals as goal

pub invariant_of-self-2 : goal.invariant_of-self-2
invariant_of-self-2 g c =
    let old = c.args.self.now in
    let u = c.args.unit.now in
    let told : Told = told_of old.tmf in
    let next : Told = told_of c.begin.new.self in
    let k = keeps-begin c.begin.result told next u old.orderly (can-begin old.faults told u c.requires) refl c.begin.ensures.ok c.begin.ensures.err in
    record {
      of = k.files old.log.files old.of;
      orderly = k.orderly;
      leads = λ goes. leads-same old.log.files told next (g.S.Synced.held old.log.disk) k.same (old.leads goes);
      settled = leads-same old.log.files told next (g.S.Synced.settled old.log.disk) k.same old.settled;
    }
