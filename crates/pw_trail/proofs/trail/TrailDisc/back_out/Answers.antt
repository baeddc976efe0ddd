use Rattle.std.proofs.Common.{◌≡◌, ◌∙◌, ap, refl}
use Rattle.pw_tmf.specs.Faulty.{with_faults}
use Rattle.pw_tmf.specs.Tmf.{told_of}
use Rattle.pw_tmf.specs.Told.{Told}
use Rattle.pw_tmf.specs.Units.{all_backed_out}
use Rattle.pw_tmf.proofs.WithFaults.{all-inside, faults-backed_out, on-ok-more}
use Rattle.pw_trail.proofs.Keeping.{keeps-back, leads-same}
use Rattle.pw_trail.proofs.trail.TrailDisc.back_out.Goals as goal

pub back_out-requires-clause-units : goal.back_out-requires-clause-units
back_out-requires-clause-units g c = all-inside c.args.ends c.args.self.now.faults (told_of c.args.self.now.tmf) c.args.units.now c.requires.units

pub invariant_of-self-2 : goal.invariant_of-self-2
invariant_of-self-2 g c =
    let old = c.args.self.now in
    let told : Told = told_of old.tmf in
    let next : Told = told_of c.back_out.new.self in
    let k = keeps-back c.back_out.result c.args.ends told next c.args.units.now old.orderly refl c.back_out.ensures.ok c.back_out.ensures.err in
    record {
      of = k.files old.log.files old.of;
      orderly = k.orderly;
      leads = λ goes. leads-same old.log.files told next (g.S.Synced.held old.log.disk) k.same (old.leads goes);
      settled = leads-same old.log.files told next (g.S.Synced.settled old.log.disk) k.same old.settled;
    }

pub returns-clause-ok : goal.returns-clause-ok
returns-clause-ok g c =
    let n = c.args.self.now.faults in
    let old : Told = told_of c.args.self.now.tmf in
    let new : Told = told_of c.back_out.new.self in
    on-ok-more c.back_out.result (new ≡ all_backed_out c.args.ends old c.args.units.now) _
    (λ is. ap (with_faults n) is ∙ faults-backed_out c.args.ends n old c.args.units.now) c.back_out.ensures.ok
