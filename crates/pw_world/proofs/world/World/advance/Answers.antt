use Rattle.std.proofs.Common.{ap, subst}
use Rattle.pw_code.specs.declared.system.System.{System}
use Rattle.pw_world.proofs.Applying.{advance-comes, advances, after-from}
use Rattle.pw_world.specs.Applying.{StepsTo}
use Rattle.pw_world.specs.States.{seen}
use Rattle.pw_world_state.specs.Members.{members_of}
use Rattle.pw_world_model.specs.Seen.{Seen}
use Rattle.pw_world.proofs.world.World.advance.Goals as goal

pub run_back_for-requires-clause-ran : goal.run_back_for-requires-clause-ran
run_back_for-requires-clause-ran g c κs within =
    let told = g.D.Disc.told in
    let mid = seen told c.run_on-given.new.self in
    let after = seen told c.make_step-answer.new.self in
    after-from (members_of mid.system) (seen told c.args.self.now) c.args.outcome c.make_step-answer.result mid after
    c.run_on-given.ensures.ran c.make_step-answer.ensures c.run_on-given.result c.run_on-given.ensures.back

pub returns-clause-comes : goal.returns-clause-comes
returns-clause-comes g c =
    let told = g.D.Disc.told in
    let mid = seen told c.run_on-given.new.self in
    let after = seen told c.make_step-answer.new.self in
    advance-comes (members_of mid.system) (seen told c.args.self.now) c.args.outcome c.make_step-answer.result mid after
    c.run_on-given.ensures.ran c.make_step-answer.ensures c.requires.passes

pub returns-clause-leaves : goal.returns-clause-leaves
returns-clause-leaves g c =
    let told = g.D.Disc.told in
    let world = seen told c.args.self.now in
    let answer = c.make_step-answer.result in
    let given = c.run_on-given in
    let mid = seen told given.new.self in
    let after = seen told c.make_step-answer.new.self in
    let step =
    subst (λ (s : System). StepsTo (members_of s) mid c.args.outcome.actor answer after)
    (ap (λ (w : Seen). w.system) given.ensures.ran) c.make_step-answer.ensures in
    advances (members_of world.system) world c.args.outcome answer mid after given.ensures.ran step given.result
    (seen told c.run_back_for.new.self) c.requires.actor given.ensures.given given.ensures.back c.run_back_for.ensures
