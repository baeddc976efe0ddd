use Rattle.std.proofs.Common.{◌≡◌, ap, subst, Bool}
use Rattle.std.specs.Prelude.{IfOk}
use Rattle.pw_tmf.specs.Operation.{awaits}
use Rattle.pw_disc.specs.Pair.{PairState, state_of}
use Rattle.pw_disc.proofs.pair.DiscPairDisc.awaits.Goals as goal

pub returns : goal.returns
returns c =
    subst (λ (p : PairState). IfOk c.awaits.result (λ (is : Bool). is ≡ awaits p.told c.args.unit.now c.args.call.now c.args.holder.now))
    (ap state_of c.self.view_is) c.awaits.ensures
