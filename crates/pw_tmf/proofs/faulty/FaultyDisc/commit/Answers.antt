use Rattle.pw_tmf.proofs.WithFaults.{running-inside}
use Rattle.pw_tmf.proofs.faulty.FaultyDisc.commit.Goals as goal

pub commit-requires : goal.commit-requires
commit-requires g c = running-inside c.args.self.now.calls.faults (g.D.Disc.told c.args.self.now.inner) c.args.unit.now c.requires
