use Rattle.std.proofs.Common.{ap, sym, subst}
use Rattle.pw_tmf.specs.Tmf.{told_of}
use Rattle.pw_tmf.specs.Units.{IsRunning}
use Rattle.pw_tmf.proofs.WithFaults.{running-inside}
use Rattle.pw_disc.specs.Pair.{PairState, state_of}
use Rattle.pw_disc.proofs.pair.DiscPairDisc.foresee.Goals as goal

pub foresee-requires-clause-unit : goal.foresee-requires-clause-unit
foresee-requires-clause-unit c =
    running-inside c.self.inside.faults (told_of c.self.inside.primary) c.args.unit.now
    (subst (λ (p : PairState). IsRunning p.told c.args.unit.now) (sym (ap state_of c.self.view_is)) c.requires.unit)
