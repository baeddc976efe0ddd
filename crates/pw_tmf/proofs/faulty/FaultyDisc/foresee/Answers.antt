use Rattle.pw_tmf.proofs.WithFaults.{running-inside}
use Rattle.pw_tmf.proofs.faulty.FaultyDisc.foresee.Goals as goal

pub foresee-requires-clause-unit : goal.foresee-requires-clause-unit
foresee-requires-clause-unit g c = running-inside c.args.self.now.calls.faults (g.D.Disc.told c.args.self.now.inner) c.args.unit.now c.requires.unit
