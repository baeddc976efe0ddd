use Rattle.pw_disc.proofs.LastingPairs.{operation-keeps}
use Rattle.pw_disc.specs.Pair.{state_of}
use Rattle.pw_disc.proofs.lasting.LastingPairDisc.operate.Goals as goal

pub invariant_of-self : goal.invariant_of-self
invariant_of-self c =
    operation-keeps (state_of c.self.inside.pair) c.self.invariant c.operate.result (state_of c.operate.new.self) c.args.unit.now c.args.call.now
    c.operate.ensures.pair c.operate.ensures.answer
