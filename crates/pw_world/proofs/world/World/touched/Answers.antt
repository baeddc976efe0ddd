use Rattle.std.proofs.Common.{◌++◌, ◌∙◌, List, [], ap}
use Rattle.pw_world_store.specs.Keeps.{kept_in}
use Rattle.pw_world.proofs.Listing.{touched-whole}
use Rattle.pw_world.specs.Ledgers.{books_of}
use Rattle.pw_world.specs.States.{WorldState, seen}
use Rattle.pw_world.specs.Touched.{named}
use Rattle.pw_world_model.proofs.Steps.{there}
use Rattle.pw_actor_queue.specs.declared.actor.Actor.{Actor}
use Rattle.pw_world.proofs.world.World.touched.Goals as goal

pub push_named-requires-after_bounds : goal.push_named-requires-after_bounds
push_named-requires-after_bounds g c κs within =
    let w : WorldState g.row.D.Denot = record { keep = c.self.inside.keep; first = c.self.inside.first.value; script = c.self.inside.script.lines; limit = c.self.inside.limit; failed = c.self.inside.failed; ledger = c.self.inside.ledger } in
    let can = rw (← c.self.view_is) at c.requires in
    rw (← c.self.view_is) (there (seen g.D.Disc.told w) (books_of w.ledger) c.self.invariant c.args.entry.now can.legal)

pub push_cancelled-requires-after_bounds : goal.push_cancelled-requires-after_bounds
push_cancelled-requires-after_bounds g c κs within =
    let w : WorldState g.row.D.Denot = record { keep = c.self.inside.keep; first = c.self.inside.first.value; script = c.self.inside.script.lines; limit = c.self.inside.limit; failed = c.self.inside.failed; ledger = c.self.inside.ledger } in
    let can = rw (← c.self.view_is) at c.requires in
    rw (← c.self.view_is) (there (seen g.D.Disc.told w) (books_of w.ledger) c.self.invariant c.args.entry.now can.legal)

pub returns : goal.returns
returns g c =
    let w : WorldState g.row.D.Denot = record { keep = c.self.inside.keep; first = c.self.inside.first.value; script = c.self.inside.script.lines; limit = c.self.inside.limit; failed = c.self.inside.failed; ledger = c.self.inside.ledger } in
    rw (← c.self.view_is)
    (touched-whole g.D.Disc.told w c.self.invariant c.args.entry.now (rw (← c.self.view_is) at c.requires) [] c.push_named.new.actors.items c.push_cancelled.new.actors.items
    ((rw (← c.self.view_is) at c.in_ok-push_named.ensures) ∙ ap (λ (items : List Actor). items ++ named w.keep.system (kept_in g.D.Disc.told w.keep) c.args.entry.now) c.in_ok-actors.ensures.items) (rw (← c.self.view_is) at c.in_ok-push_cancelled.ensures))
