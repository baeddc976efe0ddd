use Rattle.std.proofs.Common.{◌≡◌, refl, subst, sym}
use Rattle.pw_group_commit.specs.Discs.{DiscState, disc_state, told_in}
use Rattle.pw_group_commit.proofs.Telling.{keeps-call}
use Rattle.pw_tmf.specs.Operation.{IsCall}
use Rattle.pw_tmf.specs.Tmf.{told_of}
use Rattle.pw_tmf.specs.Units.{IsRunning}
use Rattle.pw_tmf.proofs.WithFaults.{running-inside}
use Rattle.pw_trail.proofs.Keeping.{is-call, keeps-operate}
use Rattle.pw_group_commit.proofs.group_trail.GroupTrailDisc.operate.Goals as goal

pub operate-requires-clause-unit : goal.operate-requires-clause-unit
operate-requires-clause-unit g c =
    let own = c.self.inside in
    let old : DiscState g.row.S.Denot = disc_state own.log own.faults own.tmf in
    let is : old ≡ c.args.self.now = c.self.view_is in
    let u = c.args.unit.now in
    running-inside own.faults (told_of own.tmf) u (subst (λ (s : DiscState g.row.S.Denot). IsRunning (told_in s) u) (sym is) c.requires.unit)

pub invariant_of-self-2 : goal.invariant_of-self-2
invariant_of-self-2 g c =
    let own = c.self.inside in
    let old : DiscState g.row.S.Denot = disc_state own.log own.faults own.tmf in
    let is : old ≡ c.args.self.now = c.self.view_is in
    let u = c.args.unit.now in
    let call = c.args.call.now in
    let runs = subst (λ (s : DiscState g.row.S.Denot). IsRunning (told_in s) u) (sym is) c.requires.unit in
    let calls = subst (λ (s : DiscState g.row.S.Denot). IsCall (told_in s) call) (sym is) c.requires.call in
    keeps-call g.S.Synced.settled g.N.LogNaming.before old c.self.invariant c.operate.new.self
    (keeps-operate c.operate.result (told_of own.tmf) (told_of c.operate.new.self) u call c.self.invariant.orderly
    (running-inside own.faults (told_of own.tmf) u runs) (is-call own.faults (told_of own.tmf) call calls) refl c.operate.ensures)
