use Rattle.std.proofs.Common.{◌≡◌, refl, subst, sym}
use Rattle.pw_group_commit.specs.Discs.{DiscState, disc_state, told_in}
use Rattle.pw_group_commit.proofs.Telling.{keeps-call}
use Rattle.pw_tmf.specs.Tmf.{told_of}
use Rattle.pw_tmf.specs.Units.{CanBegin}
use Rattle.pw_trail.proofs.Keeping.{can-begin, keeps-begin}
use Rattle.pw_group_commit.proofs.group_trail.GroupTrailDisc.begin.Goals as goal

pub invariant_of-self-2 : goal.invariant_of-self-2
invariant_of-self-2 g c =
    let own = c.self.inside in
    let old : DiscState g.row.S.Denot = disc_state own.log own.faults own.tmf in
    let is : old ≡ c.args.self.now = c.self.view_is in
    let u = c.args.unit.now in
    let can = subst (λ (s : DiscState g.row.S.Denot). CanBegin (told_in s) u) (sym is) c.requires in
    keeps-call g.S.Synced.settled g.N.LogNaming.before old c.self.invariant c.begin.new.self
    (keeps-begin c.begin.result (told_of own.tmf) (told_of c.begin.new.self) u c.self.invariant.orderly
    (can-begin own.faults (told_of own.tmf) u can) refl c.begin.ensures.ok c.begin.ensures.err)
