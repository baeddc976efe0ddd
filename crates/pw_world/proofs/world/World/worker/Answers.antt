-- The book of a class has the request of each process at work.
use Rattle.std.proofs.Common.{◌≡◌, ◌∙◌, Option, Some, None, ap, sym}
use Rattle.std.specs.Option.{option_copied, option_map}
use Rattle.pw_class.specs.Book.{queue_at}
use Rattle.pw_class.specs.Queue.{at_process}
use Rattle.pw_class.specs.declared.request.Request.{Request}
use Rattle.pw_world.proofs.Workers.{works-for}
use Rattle.pw_world.specs.Ledgers.{books_of}
use Rattle.pw_world.specs.States.{WorldState, seen}
use Rattle.pw_world.proofs.world.World.worker.Goals as goal

pub returns-in-Some : goal.returns-in-Some
returns-in-Some g c =
    let w : WorldState g.row.D.Denot = record { keep = c.self.inside.keep; first = c.self.inside.first.value; script = c.self.inside.script.lines; limit = c.self.inside.limit; failed = c.self.inside.failed; ledger = c.self.inside.ledger } in
    let low = rw (← c.self.view_is) at c.requires in
    let found : Some c.in-Some.request.now ≡ at_process (queue_at w.keep.book c.args.class) c.args.process = sym (ap option_copied c.in-Some.is) ∙ c.request.ensures in
    rw (← c.self.view_is)
    (ap (option_map (λ (request : Request). request.terminal)) found
    ∙ works-for (seen g.D.Disc.told w) (books_of w.ledger) c.self.invariant c.args.class low c.args.process)

pub returns-in-None : goal.returns-in-None
returns-in-None g c =
    let w : WorldState g.row.D.Denot = record { keep = c.self.inside.keep; first = c.self.inside.first.value; script = c.self.inside.script.lines; limit = c.self.inside.limit; failed = c.self.inside.failed; ledger = c.self.inside.ledger } in
    let low = rw (← c.self.view_is) at c.requires in
    let found : None ≡ at_process (queue_at w.keep.book c.args.class) c.args.process = sym (ap option_copied c.in-None.is) ∙ c.request.ensures in
    rw (← c.self.view_is)
    (ap (option_map (λ (request : Request). request.terminal)) found
    ∙ works-for (seen g.D.Disc.told w) (books_of w.ledger) c.self.invariant c.args.class low c.args.process)
