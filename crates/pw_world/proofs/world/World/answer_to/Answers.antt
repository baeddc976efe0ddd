use Rattle.std.proofs.Common.{false, refl}
use Rattle.pw_world.proofs.Applying.{leaves-out}
use Rattle.pw_world.specs.States.{seen}
use Rattle.pw_world_model.proofs.Steps.{placed}
use Rattle.pw_world_state.specs.Members.{members_of}
use Rattle.pw_world_model.specs.Answers.{with_out}
use Rattle.pw_world.proofs.world.World.answer_to.Goals as goal

pub returns-in-Some-clause-placed : goal.returns-in-Some-clause-placed
returns-in-Some-clause-placed g c =
    placed c.args.self.now.keep.system c.holds.ensures.valid c.args.outcome.actor c.requires.actor

pub returns-in-None-clause-leaves : goal.returns-in-None-clause-leaves
returns-in-None-clause-leaves g c =
    let told = g.D.Disc.told in
    let after = seen told c.advance.new.self in
    leaves-out (members_of c.args.self.now.keep.system) (seen told c.args.self.now) c.args.outcome after
    (with_out c.args.outcome.actor false after) refl c.advance.result c.advance.ensures.leaves

pub returns-in-None-clause-placed : goal.returns-in-None-clause-placed
returns-in-None-clause-placed g c =
    placed c.args.self.now.keep.system c.holds.ensures.valid c.args.outcome.actor c.requires.actor
