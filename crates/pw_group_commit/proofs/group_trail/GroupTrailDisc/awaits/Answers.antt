use Rattle.std.proofs.Common.{◌≡◌, IfOk, subst}
use Rattle.pw_group_commit.specs.Discs.{DiscState, told_in}
use Rattle.pw_tmf.specs.Operation.{awaits}
use Rattle.pw_group_commit.proofs.group_trail.GroupTrailDisc.awaits.Goals as goal

pub returns : goal.returns
returns g c =
    subst (λ (s : DiscState g.row.S.Denot). IfOk c.awaits.result (λ awaits_it. awaits_it
    ≡ awaits (told_in s) c.args.unit.now c.args.call.now c.args.holder.now)) c.self.view_is c.awaits.ensures
