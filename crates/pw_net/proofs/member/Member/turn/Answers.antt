use Rattle.std.proofs.Common.{refl, sym, subst, Some}
use Rattle.pw_net.specs.Kept.{AreBegun, OpensNone}
use Rattle.pw_net.specs.Member.{Member, standing_of}
use Rattle.pw_net.proofs.Kept.{put-now, begun-put, open-number, stays}
use Rattle.pw_net.proofs.member.Member.turn.Goals as goal

pub invariant_of-self-2 : goal.invariant_of-self-2
invariant_of-self-2 c =
    let opens = subst (λ (m : Member). OpensNone (standing_of m c.args.id) (Some c.args.standing)) (sym c.self.view_is) c.requires in (
      c.self.invariant.0,
      subst (AreBegun c.self.inside.last) (sym c.in_ok-insert.ensures.entries)
          (begun-put _ _ _ c.self.inside.standings.entries (λ is. (open-number _ _ c.args.id c.self.inside.standings.entries c.self.invariant.1 (opens is)).1) c.self.invariant.1),
    )

pub returns-clause-ok : goal.returns-clause-ok
returns-clause-ok c =
    let opens = subst (λ (m : Member). OpensNone (standing_of m c.args.id) (Some c.args.standing)) (sym c.self.view_is) c.requires in
    rw (
      ← c.self.view_is,
      c.in_ok-insert.ensures.entries,
      put-now c.self.inside.lost c.args.id c.args.standing c.self.inside.standings.entries
          (stays _ _ _ (λ is. (open-number _ _ c.args.id c.self.inside.standings.entries c.self.invariant.1 (opens is)).0)),
    ) refl
