use Rattle.std.proofs.Common.{refl}
use Rattle.pw_tmf.specs.Tmf.{told_of}
use Rattle.pw_tmf.specs.Told.{Told}
use Rattle.pw_tmf.proofs.WithFaults.{running-inside}
use Rattle.pw_trail.proofs.Keeping.{is-call, keeps-operate, leads-same}
use Rattle.pw_trail.proofs.trail.TrailDisc.operate.Goals as goal

pub operate-requires-clause-unit : goal.operate-requires-clause-unit
operate-requires-clause-unit g c = running-inside c.args.self.now.faults (told_of c.args.self.now.tmf) c.args.unit.now c.requires.unit

pub invariant_of-self-2 : goal.invariant_of-self-2
invariant_of-self-2 g c =
    let old = c.args.self.now in
    let u = c.args.unit.now in
    let told : Told = told_of old.tmf in
    let next : Told = told_of c.operate.new.self in
    let k = keeps-operate c.operate.result told next u c.args.call.now old.orderly (running-inside old.faults told u c.requires.unit) (is-call old.faults told c.args.call.now c.requires.call) refl c.operate.ensures in
    record {
      of = k.files old.log.files old.of;
      orderly = k.orderly;
      leads = λ goes. leads-same old.log.files told next (g.S.Synced.held old.log.disk) k.same (old.leads goes);
      settled = leads-same old.log.files told next (g.S.Synced.settled old.log.disk) k.same old.settled;
    }
