use Rattle.std.proofs.Common.{◌∙◌, Some, ap, is_some, sym}
use Rattle.pw_base.proofs.Plain.{on-ok}
use Rattle.pw_class.specs.Book.{IsAt}
use Rattle.pw_class.specs.declared.request.RequestPlace.TheVariants.{Busy, Waiting}
use Rattle.pw_world.proofs.ShownValues.{if-some}
use Rattle.pw_world.proofs.Touching.{request-grows, request-nowhere}
use Rattle.pw_world.specs.States.{WorldState}
use Rattle.pw_world.proofs.world.World.push_request.Goals as goal

pub returns-in_ok-push-in-Some-Waiting : goal.returns-in_ok-push-in-Some-Waiting
returns-in_ok-push-in-Some-Waiting g c =
    let w : WorldState g.row.D.Denot = record { keep = c.self.inside.keep; first = c.self.inside.first.value; script = c.self.inside.script.lines; limit = c.self.inside.limit; failed = c.self.inside.failed; ledger = c.self.inside.ledger } in
    let place = Waiting c.in-Some-Waiting.class in
    rw (← c.self.view_is)
    (request-grows g.D.Disc.told w c.self.invariant c.known_parts.ensures c.args.terminal place c.args.actors.now.items c.push.new.self.items
    (if-some (IsAt w.keep.book c.args.terminal) c.request_of.result place c.request_of.ensures.place (c.in-Some-Waiting.is ∙ ap Some c.in-Some-Waiting.field-0-is))
    c.in_ok-push-in-Some-Waiting.ensures.items)

pub returns-in-Some-Busy : goal.returns-in-Some-Busy
returns-in-Some-Busy g c =
    let w : WorldState g.row.D.Denot = record { keep = c.self.inside.keep; first = c.self.inside.first.value; script = c.self.inside.script.lines; limit = c.self.inside.limit; failed = c.self.inside.failed; ledger = c.self.inside.ledger } in
    let place = Busy c.in-Some-Busy.class c.in-Some-Busy.process in
    rw (← c.self.view_is)
    (on-ok c.push_process.result c.push_process.ensures (λ added.
    request-grows g.D.Disc.told w c.self.invariant c.known_parts.ensures c.args.terminal place c.args.actors.now.items c.push_process.new.actors.items
    (if-some (IsAt w.keep.book c.args.terminal) c.request_of.result place c.request_of.ensures.place (c.in-Some-Busy.is ∙ ap Some c.in-Some-Busy.field-0-is)) added))

pub returns-in-None : goal.returns-in-None
returns-in-None g c =
    let w : WorldState g.row.D.Denot = record { keep = c.self.inside.keep; first = c.self.inside.first.value; script = c.self.inside.script.lines; limit = c.self.inside.limit; failed = c.self.inside.failed; ledger = c.self.inside.ledger } in
    rw (← c.self.view_is)
    (request-nowhere g.D.Disc.told w c.self.invariant c.known_parts.ensures c.args.terminal c.args.actors.now.items
    (sym c.request_of.ensures.found ∙ ap is_some c.in-None.is))
