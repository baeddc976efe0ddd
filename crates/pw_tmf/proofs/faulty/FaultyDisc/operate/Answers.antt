use Rattle.pw_tmf.proofs.WithFaults.{running-inside}
use Rattle.pw_tmf.proofs.faulty.FaultyDisc.operate.Goals as goal

pub operate-requires-clause-unit : goal.operate-requires-clause-unit
operate-requires-clause-unit g c = running-inside c.args.self.now.calls.faults (g.D.Disc.told c.args.self.now.inner) c.args.unit.now c.requires.unit
