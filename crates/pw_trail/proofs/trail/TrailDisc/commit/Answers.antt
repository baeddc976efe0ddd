use Rattle.std.proofs.Common.{◌≡◌, ◌∙◌, List, ap, sym, subst, true}
use Rattle.std.specs.Prelude.{All, OnOk}
use Rattle.pw_code.specs.declared.file.FileInfo.{FileInfo}
use Rattle.pw_tmf.specs.Tmf.{told_of}
use Rattle.pw_tmf.specs.Told.{Told}
use Rattle.pw_tmf.specs.Units.{IsRunning, after_commit}
use Rattle.pw_tmf.proofs.WithFaults.{running-inside}
use Rattle.pw_trail.specs.Body.{fits}
use Rattle.pw_trail.specs.Committing.{LeadsTo, record_of}
use Rattle.pw_trail.specs.Restoring.{HasFiles}
use Rattle.pw_trail.specs.declared.changes.UnitChanges.{UnitChanges}
use Rattle.pw_trail.proofs.Keeping.{commit-files, keeps-commit, record-fits, record-is, recorded, recorded-or-not}
use Rattle.pw_trail.proofs.trail.TrailDisc.commit.Goals as goal

pub append-requires : goal.append-requires
append-requires g c =
    let old = c.args.self.now in
    let told : Told = told_of old.tmf in
    let made : c.in_ok-made.made ≡ record_of told c.args.unit.now = record-is told c.args.unit.now c.in_ok-made.made c.in_ok-changed.changed.items c.in_ok-made.ensures c.in_ok-changed.ensures.changes in
    subst (λ (r : UnitChanges). All (λ change. fits old.log.files change ≡ true) r.changes) (sym made) (record-fits old.log.files told old.of old.orderly c.args.unit.now.terminal)

pub commit-requires : goal.commit-requires
commit-requires g c =
    let old = c.args.self.now in
    subst (λ (t : Told). IsRunning t c.args.unit.now) (sym c.changes.ensures.told) (running-inside old.faults (told_of old.tmf) c.args.unit.now c.requires)

pub invariant_of-self-in-Ok : goal.invariant_of-self-in-Ok
invariant_of-self-in-Ok g c =
    let old = c.args.self.now in
    let u = c.args.unit.now in
    let reply = c.args.reply in
    let told : Told = told_of old.tmf in
    let next : Told = told_of c.commit.new.self in
    let made : c.in_ok-made.made ≡ record_of told u = record-is told u c.in_ok-made.made c.in_ok-changed.changed.items c.in_ok-made.ensures c.in_ok-changed.ensures.changes in
    let done : OnOk c.commit.result (next ≡ after_commit (told_of c.changes.new.self) u reply) = c.commit.ensures.ok in
    let is : next ≡ after_commit told u reply = subst (λ r. OnOk r (next ≡ after_commit (told_of c.changes.new.self) u reply)) c.commit.ensures.answer done ∙ ap (λ (t : Told). after_commit t u reply) c.changes.ensures.told in
    let files : c.append.new.self.files ≡ old.log.files = c.append.ensures.files in
    record {
      of = subst (λ (fs : List FileInfo). HasFiles fs next) (sym files) (commit-files old.log.files told next u reply old.of is);
      orderly = keeps-commit told next u reply old.orderly is;
      leads = λ goes.
          subst (λ (fs : List FileInfo). LeadsTo fs next (g.S.Synced.held c.append.new.self.disk)) (sym files)
          (subst (λ (t : Told). LeadsTo old.log.files t (g.S.Synced.held c.append.new.self.disk)) (sym is)
          (recorded old.log.files told old.of old.orderly u reply (g.S.Synced.held old.log.disk) (old.leads c.if-self.false) c.in_ok-made.made made (g.S.Synced.held c.append.new.self.disk) c.in-Ok.ensures.held));
      settled =
          let left = g.S.Synced.settled c.append.new.self.disk in
          subst (λ (fs : List FileInfo). LeadsTo fs next left) (sym files)
          (subst (λ (t : Told). LeadsTo old.log.files t left) (sym is)
          (recorded old.log.files told old.of old.orderly u reply (g.S.Synced.held old.log.disk) (old.leads c.if-self.false) c.in_ok-made.made made left
          (c.in-Ok.ensures.stored left (g.met.S.Synced.settled_may_stay c.append.new.self.disk))));
    }

pub returns-clause-images : goal.returns-clause-images
returns-clause-images g c goes image may =
    let old = c.args.self.now in
    let u = c.args.unit.now in
    let told : Told = told_of old.tmf in
    let made : c.in_ok-made.made ≡ record_of told u = record-is told u c.in_ok-made.made c.in_ok-changed.changed.items c.in_ok-made.ensures c.in_ok-changed.ensures.changes in
    recorded-or-not old.log.files told old.of old.orderly u c.args.reply (g.S.Synced.held old.log.disk) (old.leads goes) c.in_ok-made.made made image (c.append.ensures.images goes image may)
