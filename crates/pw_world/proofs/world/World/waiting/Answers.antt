use Rattle.std.proofs.Common.{◌∙◌}
use Rattle.pw_world.proofs.Workers.{wait-for}
use Rattle.pw_world.specs.Ledgers.{books_of}
use Rattle.pw_world.specs.States.{WorldState, seen}
use Rattle.pw_world.proofs.world.World.waiting.Goals as goal

pub returns : goal.returns
returns g c =
    let w : WorldState g.row.D.Denot = record { keep = c.self.inside.keep; first = c.self.inside.first.value; script = c.self.inside.script.lines; limit = c.self.inside.limit; failed = c.self.inside.failed; ledger = c.self.inside.ledger } in
    let low = rw (← c.self.view_is) at c.requires in
    rw (← c.self.view_is)
    (c.waiting.ensures ∙ wait-for (seen g.D.Disc.told w) (books_of w.ledger) c.self.invariant c.args.class low)
