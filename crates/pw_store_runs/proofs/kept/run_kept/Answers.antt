use Rattle.std.proofs.Common.{◌≡◌, ◌∙◌, ap, arith, rules, subst, sym, true}
use Rattle.pw_code_meaning.specs.OfSystem.{behaviour}
use Rattle.pw_group_commit.specs.Discs.{told_in}
use Rattle.pw_store_runs.proofs.Leaving.{has-failed, ran-stored, stopped-stored}
use Rattle.pw_store_runs.specs.Left.{RanStored, StoppedStored}
use Rattle.pw_tmf.specs.Committed.{committed}
use Rattle.pw_tmf.specs.Told.{Told}
use Rattle.pw_world.specs.States.{seen}
use Rattle.pw_world_model.specs.Worlds.{IsDiscOf}
use Rattle.pw_store_runs.proofs.kept.run_kept.Goals as goal

pub run_over-requires-after_bounds : goal.run_over-requires-after_bounds
run_over-requires-after_bounds g c κs within =
    subst (IsDiscOf c.args.setup.system c.args.setup.script) (sym c.in_ok-disc.ensures) c.requires.disc

pub returns-in-Ok-text : goal.returns-in-Ok-text
returns-in-Ok-text g c =
    let leaves = rw c.in-Ended.is at c.in_ok-over.ensures in
    let last = c.disc_of-disc.ensures in
    let told = c.flush.ensures.told in
    let sys = behaviour c.args.setup.script c.args.setup.system in
    subst (λ (disk : g.row.S.Denot). RanStored g.N.LogNaming.files g.N.LogNaming.before sys c.args.setup.system c.args.run.bounds.events
    c.in-Ended.ended c.in-Ok-text.text (g.S.Synced.images disk)
    (g.F.Follower.was_told c.close-disk.result.1)) (sym c.close-disk.ensures.disk)
    (ran-stored g.S.Synced.held g.S.Synced.images g.S.Synced.settled g.S.Synced.faulted g.N.LogNaming.files g.N.LogNaming.before g.N.LogNaming.least
    c.flush.new.self c.close-disk.ensures.log c.close-disk.ensures.keeps (g.F.Follower.was_told c.close-disk.result.1) c.close-disk.ensures.told c.args.setup.system c.args.setup.script c.args.run.bounds.events
    (told_in c.in_ok-disc.disc).faults c.args.run.bounds.room (seen told_in c.in-Ended.world) leaves.0 last.run (told ∙ last.told)
    (ap (λ (t : Told). committed t) told ∙ last.committed) last.room last.commits c.in-Ok.ensures.ok.0 c.in-Ok.ensures.ok.1
    c.in-Ended.ended c.in-Ok-text.text leaves.1 c.in-Ok-text.ensures)

pub returns-in-Err-Failed : goal.returns-in-Err-Failed
returns-in-Err-Failed g c =
    let leaves = rw c.in-Ended.is at c.in_ok-over.ensures in
    let last = c.disc_of-disc.ensures in
    let told = c.flush.ensures.told in
    let sys = behaviour c.args.setup.script c.args.setup.system in
    let broken : c.flush.new.self.log.is_broken ≡ true = search rules in
    subst (λ (disk : g.row.S.Denot). StoppedStored g.N.LogNaming.files g.N.LogNaming.before sys (g.S.Synced.images disk)
    (g.F.Follower.was_told c.close-disk-in-Err-Failed.result.1) g.N.LogNaming.least (g.S.Synced.faulted disk)) (sym c.close-disk-in-Err-Failed.ensures.disk)
    (stopped-stored g.S.Synced.held g.S.Synced.images g.S.Synced.settled g.S.Synced.faulted g.N.LogNaming.files g.N.LogNaming.before g.N.LogNaming.least
    c.flush.new.self c.close-disk-in-Err-Failed.ensures.log c.close-disk-in-Err-Failed.ensures.keeps
    (g.F.Follower.was_told c.close-disk-in-Err-Failed.result.1) c.close-disk-in-Err-Failed.ensures.told c.args.setup.system c.args.setup.script c.args.run.bounds.events
    (told_in c.in_ok-disc.disc).faults c.args.run.bounds.room (seen told_in c.in-Ended.world) leaves.0 last.run (told ∙ last.told)
    (ap (λ (t : Told). committed t) told ∙ last.committed) last.room last.commits broken)

pub returns : goal.returns
returns g c =
    let leaves = rw c.in-Failed.is at c.in_ok-over.ensures in
    let last = c.disc_of-disc-in-Failed.ensures in
    let disc = c.disc_of-disc-in-Failed.result in
    let shut = c.close-disk-in-Failed.ensures in
    let was_told = g.F.Follower.was_told c.close-disk-in-Failed.result.1 in
    let sys = behaviour c.args.setup.script c.args.setup.system in
    let world = seen told_in c.in-Failed.world in
    let faults = (told_in c.in_ok-disc.disc).faults in
    let broken =
    has-failed g.S.Synced.held g.S.Synced.images g.S.Synced.settled g.S.Synced.faulted g.N.LogNaming.files g.N.LogNaming.before g.N.LogNaming.least
    disc shut.log shut.keeps was_told shut.told c.args.setup.system c.args.setup.script c.args.run.bounds.events faults c.args.run.bounds.room world leaves.0 last.run last.told
    last.committed last.room last.commits (omega (arith, ap (λ (t : Told). t.faults) c.in_ok-disc.ensures, c.requires.faults)) leaves.1.0 in
    subst (λ (disk : g.row.S.Denot). StoppedStored g.N.LogNaming.files g.N.LogNaming.before sys (g.S.Synced.images disk) was_told
    g.N.LogNaming.least (g.S.Synced.faulted disk)) (sym shut.disk)
    (stopped-stored g.S.Synced.held g.S.Synced.images g.S.Synced.settled g.S.Synced.faulted g.N.LogNaming.files g.N.LogNaming.before g.N.LogNaming.least
    disc shut.log shut.keeps was_told shut.told c.args.setup.system c.args.setup.script c.args.run.bounds.events faults c.args.run.bounds.room world leaves.0 last.run last.told
    last.committed last.room last.commits broken)
