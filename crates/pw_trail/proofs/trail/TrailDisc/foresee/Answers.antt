use Rattle.pw_tmf.specs.Tmf.{told_of}
use Rattle.pw_tmf.proofs.WithFaults.{running-inside}
use Rattle.pw_trail.proofs.trail.TrailDisc.foresee.Goals as goal

pub foresee-requires-clause-unit : goal.foresee-requires-clause-unit
foresee-requires-clause-unit g c = running-inside c.args.self.now.faults (told_of c.args.self.now.tmf) c.args.unit.now c.requires.unit
