use Rattle.std.proofs.Common.{◌≡◌, ◌∙◌, All, ap, subst, sym, true}
use Rattle.std.specs.Prelude.{OnOk}
use Rattle.pw_group_commit.specs.Discs.{DiscState, disc_state, told_in}
use Rattle.pw_group_commit.proofs.Telling.{keeps-unit}
use Rattle.pw_tmf.specs.Tmf.{told_of}
use Rattle.pw_tmf.specs.Told.{Told}
use Rattle.pw_tmf.specs.Units.{IsRunning, after_commit}
use Rattle.pw_tmf.proofs.WithFaults.{running-inside}
use Rattle.pw_trail.specs.Body.{fits}
use Rattle.pw_trail.specs.Committing.{record_of}
use Rattle.pw_trail.specs.declared.changes.UnitChanges.{UnitChanges}
use Rattle.pw_trail.proofs.Keeping.{record-fits, record-is}
use Rattle.pw_group_commit.proofs.group_trail.GroupTrailDisc.commit.Goals as goal

pub add-requires : goal.add-requires
add-requires g c =
    let own = c.self.inside in
    let u = c.args.unit.now in
    let told : Told = told_of own.tmf in
    let made : c.in_ok-made.made ≡ record_of told u =
    record-is told u c.in_ok-made.made c.in_ok-changed.changed.items c.in_ok-made.ensures c.in_ok-changed.ensures.changes in
    subst (λ (r : UnitChanges). All (λ change. fits own.log.files change ≡ true) r.changes) (sym made)
    (record-fits own.log.files told c.self.invariant.of c.self.invariant.orderly u.terminal)

pub commit-requires : goal.commit-requires
commit-requires g c =
    let own = c.self.inside in
    let old : DiscState g.row.S.Denot = disc_state own.log own.faults own.tmf in
    let is : old ≡ c.args.self.now = c.self.view_is in
    let u = c.args.unit.now in
    subst (λ (t : Told). IsRunning t u) (sym c.changes.ensures.told)
    (running-inside own.faults (told_of own.tmf) u (subst (λ (s : DiscState g.row.S.Denot). IsRunning (told_in s) u) (sym is) c.requires))

pub invariant_of-self-in-Ok : goal.invariant_of-self-in-Ok
invariant_of-self-in-Ok g c =
    let own = c.self.inside in
    let old : DiscState g.row.S.Denot = disc_state own.log own.faults own.tmf in
    let u = c.args.unit.now in
    let reply = c.args.reply in
    let told : Told = told_of own.tmf in
    let next : Told = told_of c.commit.new.self in
    let made : c.in_ok-made.made ≡ record_of told u =
    record-is told u c.in_ok-made.made c.in_ok-changed.changed.items c.in_ok-made.ensures c.in_ok-changed.ensures.changes in
    let done : OnOk c.commit.result (next ≡ after_commit (told_of c.changes.new.self) u reply) = c.commit.ensures.ok in
    let after : next ≡ after_commit told u reply =
    subst (λ r. OnOk r (next ≡ after_commit (told_of c.changes.new.self) u reply)) c.commit.ensures.answer done
    ∙ ap (λ (t : Told). after_commit t u reply) c.changes.ensures.told in
    keeps-unit g.S.Synced.settled g.N.LogNaming.before old c.self.invariant u reply c.add.new.self c.commit.new.self c.in_ok-made.made made
    c.add.ensures.files c.in-Ok.ensures.ok c.in-Ok.ensures.goes.0 after
