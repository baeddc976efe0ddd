use Rattle.std.proofs.Common.{ap}
use Rattle.pw_base.proofs.Plain.{on-ok}
use Rattle.pw_disc.proofs.LastingPairs.{call-keeps}
use Rattle.pw_disc.specs.Pair.{state_of}
use Rattle.pw_tmf.specs.Told.{Told}
use Rattle.pw_disc.proofs.lasting.LastingPairDisc.begin.Goals as goal

pub invariant_of-self : goal.invariant_of-self
invariant_of-self c =
    call-keeps (state_of c.self.inside.pair) c.self.invariant c.begin.result (state_of c.begin.new.self) c.begin.ensures.pair
    (on-ok c.begin.result c.begin.ensures.ok (λ told. ap (λ (t : Told). t.faults) told))
