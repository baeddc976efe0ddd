use Rattle.std.proofs.Common.{◌∙◌, ap}
use Rattle.pw_base.proofs.Plain.{on-ok}
use Rattle.pw_disc.proofs.LastingPairs.{backed-faults, call-keeps}
use Rattle.pw_disc.specs.Pair.{state_of}
use Rattle.pw_tmf.specs.Told.{Told}
use Rattle.pw_disc.proofs.lasting.LastingPairDisc.back_out.Goals as goal

pub invariant_of-self : goal.invariant_of-self
invariant_of-self c =
    call-keeps (state_of c.self.inside.pair) c.self.invariant c.back_out.result (state_of c.back_out.new.self) c.back_out.ensures.pair
    (on-ok c.back_out.result c.back_out.ensures.ok (λ told. ap (λ (t : Told). t.faults) told ∙ backed-faults c.args.ends (state_of c.self.inside.pair).told c.args.units.now))
