use Rattle.std.proofs.Common.{◌+◌, rules, sym, subst, arith}
use Rattle.pw_net.specs.Kept.{AreBegun}
use Rattle.pw_net.proofs.Kept.{put-next, begun-next}
use Rattle.pw_net.proofs.member.Member.start.Goals as goal

pub invariant_of-self-2 : goal.invariant_of-self-2
invariant_of-self-2 c = (
  omega (arith, c.self.invariant.0),
  subst (AreBegun (c.self.inside.last + 1)) (sym c.in_ok-insert.ensures.entries)
      (begun-next _ _ _ c.self.inside.standings.entries c.self.invariant.1),
)

pub returns-clause-after : goal.returns-clause-after
returns-clause-after c =
    rw (← c.self.view_is, c.in_ok-insert.ensures.entries, put-next _ _ _ _ c.self.inside.standings.entries c.self.invariant.0) (search rules)
