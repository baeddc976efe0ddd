use Rattle.std.proofs.Common.{◌↔◌, rules}
use Rattle.std.specs.Prelude.{IsTrue}
use Rattle.pw_world.proofs.Entering.{may-come}
use Rattle.pw_world.specs.Entering.{MayCome}
use Rattle.pw_world.specs.Ledgers.{books_of}
use Rattle.pw_world.specs.States.{WorldState, seen}
use Rattle.pw_world.proofs.world.World.may_come.Goals as goal

pub returns-else-not-finished-clause-must : goal.returns-else-not-finished-clause-must
returns-else-not-finished-clause-must g c =
    let w : WorldState g.row.D.Denot = record { keep = c.self.inside.keep; first = c.self.inside.first.value; script = c.self.inside.script.lines; limit = c.self.inside.limit; failed = c.self.inside.failed; ledger = c.self.inside.ledger } in
    let both : IsTrue c.if-is_there.value ↔ MayCome
    (seen g.D.Disc.told c.args.self.now) c.args.event.now = search rules in
    λ legal. both.1
    (rw (← c.self.view_is)
    (may-come (seen g.D.Disc.told w) (books_of w.ledger) c.self.invariant c.args.event.now
    (rw (← c.self.view_is) at legal)))
