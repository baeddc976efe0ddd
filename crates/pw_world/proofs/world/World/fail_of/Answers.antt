use Rattle.pw_world.proofs.FoundSteps.{due-low, fail-found}
use Rattle.pw_world.specs.Ledgers.{books_of}
use Rattle.pw_world.specs.Owners.{owner_in}
use Rattle.pw_world.specs.States.{WorldState, seen}
use Rattle.pw_world.proofs.world.World.fail_of.Goals as goal

pub fail_entry-requires : goal.fail_entry-requires
fail_entry-requires g c =
    let w : WorldState g.row.D.Denot = record { keep = c.self.inside.keep; first = c.self.inside.first.value; script = c.self.inside.script.lines; limit = c.self.inside.limit; failed = c.self.inside.failed; ledger = c.self.inside.ledger } in
    due-low (seen g.D.Disc.told w) (books_of w.ledger) (owner_in w.keep.system c.args.actor) c.args.number c.self.invariant
    (rw (← c.self.view_is) at c.requires.due)

pub returns : goal.returns
returns g c =
    let w : WorldState g.row.D.Denot = record { keep = c.self.inside.keep; first = c.self.inside.first.value; script = c.self.inside.script.lines; limit = c.self.inside.limit; failed = c.self.inside.failed; ledger = c.self.inside.ledger } in
    rw (← c.self.view_is)
    (fail-found (seen g.D.Disc.told w) (books_of w.ledger) c.self.invariant c.args.actor c.args.number (rw (← c.self.view_is) at c.requires.unfinished)
    (rw (← c.self.view_is) at c.requires.due) c.fail_entry.result c.fail_entry.ensures)
