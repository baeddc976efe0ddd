use Rattle.std.proofs.Common.{◌∙◌, ap}
use Rattle.pw_world_state.proofs.Agreeing.{there-is}
use Rattle.pw_world_state.specs.Kept.{KeptTerminal}
use Rattle.pw_world.proofs.ShownValues.{ready-values}
use Rattle.pw_world.specs.Ledgers.{books_of}
use Rattle.pw_world.specs.States.{WorldState, seen}
use Rattle.pw_world.proofs.world.World.know_closed.Goals as goal

pub returns : goal.returns
returns g c =
    let w : WorldState g.row.D.Denot = record { keep = c.self.inside.keep; first = c.self.inside.first.value; script = c.self.inside.script.lines; limit = c.self.inside.limit; failed = c.self.inside.failed; ledger = c.self.inside.ledger } in
    let world = seen g.D.Disc.told w in
    let t = c.args.terminal in
    let found = there-is w.keep.system.terminals t (rw (← c.self.view_is) at c.requires) in
    rw (← c.self.view_is)
    (λ context a is closes.
    let fit = c.context_laws.ensures.ready world (books_of w.ledger) t found.0 context c.self.invariant found.1 is in
    c.context_laws.ensures.closed w.keep.system context a c.self.invariant.valid fit.0 fit.1
    (ready-values c.seat.result.now.ready context c.know_if_ready.ensures
    (ap (λ (k : KeptTerminal). k.ready) c.seat.ensures.kept ∙ is)) closes)
