use Rattle.std.proofs.Common.{ap, refl, subst, sym}
use Rattle.pw_world.proofs.Claiming.{next-of}
use Rattle.pw_world.specs.Ledgers.{LedgerState, books_of}
use Rattle.pw_world.specs.States.{IsMonitor, WorldState, seen}
use Rattle.pw_world.proofs.world.World.next.Goals as goal

pub invariant_of-self : goal.invariant_of-self
invariant_of-self g c =
    let told = g.D.Disc.told in
    let w : WorldState g.row.D.Denot = record { keep = c.self.inside.keep; first = c.self.inside.first.value; script = c.self.inside.script.lines; limit = c.self.inside.limit; failed = c.self.inside.failed; ledger = c.self.inside.ledger } in
    subst (λ (l : LedgerState). IsMonitor told (record w { ledger = l })) (sym c.next.ensures.same) c.self.invariant

pub returns-clause-next : goal.returns-clause-next
returns-clause-next g c =
    let told = g.D.Disc.told in
    let w : WorldState g.row.D.Denot = record { keep = c.self.inside.keep; first = c.self.inside.first.value; script = c.self.inside.script.lines; limit = c.self.inside.limit; failed = c.self.inside.failed; ledger = c.self.inside.ledger } in
    let unfinished = rw (← c.self.view_is) at c.requires in
    rw (← c.self.view_is)
    (next-of (seen told w) (books_of w.ledger) w.ledger.notes c.next.result c.self.invariant refl refl unfinished
    (c.idle_laws.ensures (seen told w) (books_of w.ledger) c.self.invariant unfinished) c.next.ensures.next)

pub returns-clause-same : goal.returns-clause-same
returns-clause-same g c =
    let w : WorldState g.row.D.Denot = record { keep = c.self.inside.keep; first = c.self.inside.first.value; script = c.self.inside.script.lines; limit = c.self.inside.limit; failed = c.self.inside.failed; ledger = c.self.inside.ledger } in
    rw (← c.self.view_is) (ap (λ (l : LedgerState). record w { ledger = l }) c.next.ensures.same)
