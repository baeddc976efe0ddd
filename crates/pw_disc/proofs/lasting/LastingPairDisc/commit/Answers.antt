use Rattle.std.proofs.Common.{ap}
use Rattle.pw_base.proofs.Plain.{on-ok}
use Rattle.pw_disc.proofs.LastingPairs.{call-keeps}
use Rattle.pw_disc.specs.Pair.{state_of}
use Rattle.pw_tmf.specs.Told.{Told}
use Rattle.pw_disc.proofs.lasting.LastingPairDisc.commit.Goals as goal

pub invariant_of-self : goal.invariant_of-self
invariant_of-self c =
    call-keeps (state_of c.self.inside.pair) c.self.invariant c.commit.result (state_of c.commit.new.self) c.commit.ensures.pair
    (on-ok c.commit.result c.commit.ensures.ok (λ told. ap (λ (t : Told). t.faults) told))
