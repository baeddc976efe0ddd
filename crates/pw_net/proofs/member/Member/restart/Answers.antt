use Rattle.std.proofs.Common.{refl}
use Rattle.pw_net.proofs.Kept.{restart-now}
use Rattle.pw_net.proofs.member.Member.restart.Goals as goal

pub returns : goal.returns
returns c = rw (← c.self.view_is, restart-now c.self.inside.lost c.self.inside.last c.self.inside.standings.entries c.self.invariant.1) refl
