use Rattle.std.proofs.Common.{inl, subst}
use Rattle.pw_world.proofs.Claiming.{no-work}
use Rattle.pw_world.proofs.Working.{step-works}
use Rattle.pw_world.specs.Found.{FindsStep, IsFound}
use Rattle.pw_world.specs.Ledgers.{books_of}
use Rattle.pw_world.specs.States.{seen}
use Rattle.pw_world_state.specs.Members.{members_of}
use Rattle.pw_world.proofs.world.World.step_for.Goals as goal

pub enter_step-requires-clause-found : goal.enter_step-requires-clause-found
enter_step-requires-clause-found g c κs within =
    let world = seen g.D.Disc.told c.args.self.now in
    (c.args.actor, subst (FindsStep world c.args.actor) c.in-Some.is c.in_ok-entry.ensures)

pub returns-in-Some-clause-works : goal.returns-in-Some-clause-works
returns-in-Some-clause-works g c =
    let told = g.D.Disc.told in
    let world = seen told c.args.self.now in
    let found : IsFound world c.args.actor c.in-Some.entry = subst (FindsStep world c.args.actor) c.in-Some.is c.in_ok-entry.ensures in
    step-works (members_of world.system) world (books_of c.args.self.now.ledger) c.holds.ensures c.args.actor c.requires.actor
    c.requires.inside c.requires.sound c.requires.room c.enter_step.result (seen told c.enter_step.new.self)
    (inl (c.in-Some.entry, found.enabled)) c.requires.read (c.enter_step.ensures c.args.actor found)

pub returns-in-None-clause-works : goal.returns-in-None-clause-works
returns-in-None-clause-works g c known =
    let world = seen g.D.Disc.told c.args.self.now in
    no-work world c.args.actor c.requires.read (subst (FindsStep world c.args.actor) c.in-None.is c.in_ok-entry.ensures)
