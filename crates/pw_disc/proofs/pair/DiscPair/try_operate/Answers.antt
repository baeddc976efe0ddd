use Rattle.std.proofs.Common.{ap}
use Rattle.pw_disc.specs.Pair.{PairState, state_of}
use Rattle.pw_disc.proofs.Making.{operated}
use Rattle.pw_disc.proofs.pair.DiscPair.try_operate.Goals as goal

pub returns-clause-answer : goal.returns-clause-answer
returns-clause-answer c =
    operated c.in_ok-outcome.outcome c.into_answer.result (state_of c.prepare.new.self).told (state_of c.args.self.now).told
    (state_of c.make.new.self).told c.args.unit.now c.in_ok-call.call c.args.call.now
    (ap (λ (p : PairState). p.told) c.in_ok-prepare.ensures.ok.1)
    c.in_ok-call.ensures c.in_ok-outcome.ensures.makes c.into_answer.ensures
