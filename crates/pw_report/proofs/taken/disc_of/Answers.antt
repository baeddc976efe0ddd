use Rattle.std.proofs.Common.{◌∙◌, ap}
use Rattle.pw_report.proofs.Committing.{images-there}
use Rattle.pw_tmf.specs.Committed.{committed}
use Rattle.pw_tmf.specs.Told.{Told}
use Rattle.pw_world.specs.States.{seen}
use Rattle.pw_world_model.specs.Seen.{state_of, sys_of}
use Rattle.pw_report.proofs.taken.disc_of.Goals as goal

pub returns : goal.returns
returns g c =
    let world = seen g.D.Disc.told c.args.world in
    let sys = sys_of world in
    let told = ap g.D.Disc.told c.into_disc.ensures in
    let leaves = c.run_laws.ensures.leaves sys c.holds.ensures.deck world.log c.holds.ensures.run in
    let knows = c.run_laws.ensures.knows sys c.holds.ensures.deck world.log c.holds.ensures.run in
    let tells = c.holds.ensures.stands.disc in
    let there = images-there sys (state_of world) world.kept.disc tells knows c.holds.ensures.terminals in
    record {
      told = told;
      committed =
          ap (λ (t : Told). committed t) told
          ∙ c.committed_laws.ensures sys (state_of world) world.kept.disc tells leaves.keyed leaves.single there;
      run = c.holds.ensures.run;
      room = c.holds.ensures.room;
      commits = c.holds.ensures.commits;
    }
