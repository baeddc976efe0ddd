use Rattle.std.proofs.Common.{◌≡◌, subst, sym}
use Rattle.pw_group_commit.specs.Discs.{DiscState, disc_state, told_in}
use Rattle.pw_tmf.specs.Tmf.{told_of}
use Rattle.pw_tmf.specs.Units.{IsRunning}
use Rattle.pw_tmf.proofs.WithFaults.{running-inside}
use Rattle.pw_group_commit.proofs.group_trail.GroupTrailDisc.foresee.Goals as goal

pub foresee-requires-clause-unit : goal.foresee-requires-clause-unit
foresee-requires-clause-unit g c =
    let own = c.self.inside in
    let old : DiscState g.row.S.Denot = disc_state own.log own.faults own.tmf in
    let is : old ≡ c.args.self.now = c.self.view_is in
    let u = c.args.unit.now in
    running-inside own.faults (told_of own.tmf) u (subst (λ (s : DiscState g.row.S.Denot). IsRunning (told_in s) u) (sym is) c.requires.unit)
