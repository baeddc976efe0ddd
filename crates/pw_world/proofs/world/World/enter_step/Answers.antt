use Rattle.pw_world.proofs.Applying.{can-push, step-done}
use Rattle.pw_world.specs.Ledgers.{books_of}
use Rattle.pw_world.specs.States.{seen}
use Rattle.pw_world_model.proofs.Steps.{there}
use Rattle.pw_world.proofs.world.World.enter_step.Goals as goal

pub is_unbuilt-requires-after_bounds : goal.is_unbuilt-requires-after_bounds
is_unbuilt-requires-after_bounds g c κs within =
    let world = seen g.D.Disc.told c.args.self.now in
    there world (books_of c.args.self.now.ledger) c.holds.ensures c.args.entry.now c.requires.found.1.enabled.legal

pub know_entry-requires-after_bounds : goal.know_entry-requires-after_bounds
know_entry-requires-after_bounds g c κs within =
    let world = seen g.D.Disc.told c.args.self.now in
    there world (books_of c.args.self.now.ledger) c.holds.ensures c.args.entry.now c.requires.found.1.enabled.legal

pub push-requires-clause-can : goal.push-requires-clause-can
push-requires-clause-can g c κs within =
    let world = seen g.D.Disc.told c.args.self.now in
    can-push world (books_of c.args.self.now.ledger) c.holds.ensures c.requires.found.0 c.args.entry.now c.requires.found.1
    c.requires.room c.know_entry.ensures

pub returns-in-Ok : goal.returns-in-Ok
returns-in-Ok g c actor found =
    let world = seen g.D.Disc.told c.args.self.now in
    step-done world (books_of c.args.self.now.ledger) c.holds.ensures actor c.args.entry.now found
    (λ waits. let is = c.is_unbuilt.ensures.1 waits in let not_so = c.if-is_unbuilt.false in absurd (cc (is, not_so)))
    c.know_entry.ensures (seen g.D.Disc.told c.push.new.self) c.in-Ok.ensures.ok
