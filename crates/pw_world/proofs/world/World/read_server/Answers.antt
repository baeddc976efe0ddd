use Rattle.std.proofs.Common.{◌∙◌, Some, ap, subst, sym}
use Rattle.std.proofs.lemmas.Result.{on_ok_weaker}
use Rattle.std.specs.Option.{IfSome}
use Rattle.std.specs.Prelude.{is_some}
use Rattle.pw_class.specs.Book.{IsAt}
use Rattle.pw_world.proofs.ReadFor.{busy-read, none-works, waits}
use Rattle.pw_world.specs.Ledgers.{books_of}
use Rattle.pw_world.specs.States.{WorldState, seen}
use Rattle.pw_world.proofs.Baring.{bare}
use Rattle.pw_world.proofs.world.World.read_server.Goals as goal

pub returns-in-Some-Busy-clause-read : goal.returns-in-Some-Busy-clause-read
returns-in-Some-Busy-clause-read g c =
    let w : WorldState g.row.D.Denot = record { keep = c.self.inside.keep; first = c.self.inside.first.value; script = c.self.inside.script.lines; limit = c.self.inside.limit; failed = c.self.inside.failed; ledger = c.self.inside.ledger } in
    let k = w.keep in
    let bared = bare k.system k.seats
    (g.D.Disc.told k.disc) k.book k.jobs k.pairs k.births c.known_parts.ensures in
    let at = subst (λ o. IfSome o (IsAt k.book c.args.terminal))
    (c.in-Some-Busy.is ∙ ap Some c.in-Some-Busy.field-0-is) c.request_of.ensures.place in
    let ran = rw (← c.self.view_is) at c.read.ensures.ran in
    on_ok_weaker c.read.result
    (λ none. busy-read (seen g.D.Disc.told w) (books_of w.ledger) c.self.invariant c.args.terminal
    (seen g.D.Disc.told c.read.new.self)
    c.in-Some-Busy.class c.in-Some-Busy.process bared at ran none) c.read.ensures.read

pub returns-in-Some-Waiting-clause-read : goal.returns-in-Some-Waiting-clause-read
returns-in-Some-Waiting-clause-read g c =
    let w : WorldState g.row.D.Denot = record { keep = c.self.inside.keep; first = c.self.inside.first.value; script = c.self.inside.script.lines; limit = c.self.inside.limit; failed = c.self.inside.failed; ledger = c.self.inside.ledger } in
    let k = w.keep in
    let bared = bare k.system k.seats
    (g.D.Disc.told k.disc) k.book k.jobs k.pairs k.births c.known_parts.ensures in
    let at = subst (λ o. IfSome o (IsAt k.book c.args.terminal))
    (c.in-Some-Waiting.is ∙ ap Some c.in-Some-Waiting.field-0-is) c.request_of.ensures.place in
    rw (← c.self.view_is)
    (waits (seen g.D.Disc.told w)
    (books_of w.ledger) c.self.invariant c.args.terminal c.in-Some-Waiting.field-0-0 bared at)

pub returns-in-None-clause-read : goal.returns-in-None-clause-read
returns-in-None-clause-read g c =
    let w : WorldState g.row.D.Denot = record { keep = c.self.inside.keep; first = c.self.inside.first.value; script = c.self.inside.script.lines; limit = c.self.inside.limit; failed = c.self.inside.failed; ledger = c.self.inside.ledger } in
    rw (← c.self.view_is)
    (none-works (seen g.D.Disc.told w) (books_of w.ledger) c.self.invariant c.args.terminal
    (sym c.request_of.ensures.found ∙ ap is_some c.in-None.is))
