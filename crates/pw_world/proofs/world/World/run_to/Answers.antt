use Rattle.std.proofs.Common.{◌∙◌, ap}
use Rattle.pw_world.proofs.RanTo.{has-program, ran-monitor, ran-read, ran-seen, runs-at}
use Rattle.pw_world.specs.Ledgers.{books_of}
use Rattle.pw_world.specs.States.{WorldState, seen}
use Rattle.pw_world_model.specs.Seen.{Seen, work_of}
use Rattle.pw_world.proofs.world.World.run_to.Goals as goal

pub set_ready-requires-clause-program : goal.set_ready-requires-clause-program
set_ready-requires-clause-program g c κs within =
    let w : WorldState g.row.D.Denot = record { keep = c.self.inside.keep; first = c.self.inside.first.value; script = c.self.inside.script.lines; limit = c.self.inside.limit; failed = c.self.inside.failed; ledger = c.self.inside.ledger } in
    let runs = rw (← c.self.view_is) at c.requires.runs in
    has-program (seen g.D.Disc.told w) (books_of w.ledger) c.self.invariant c.args.actor runs.given
    (rw (← c.self.view_is) at c.requires.actor) runs.is

pub set_ready-requires-clause-verb : goal.set_ready-requires-clause-verb
set_ready-requires-clause-verb g c κs within =
    let w : WorldState g.row.D.Denot = record { keep = c.self.inside.keep; first = c.self.inside.first.value; script = c.self.inside.script.lines; limit = c.self.inside.limit; failed = c.self.inside.failed; ledger = c.self.inside.ledger } in
    (runs-at (seen g.D.Disc.told w)
    (books_of w.ledger) c.self.invariant c.args.actor c.args.verb c.args.work
    (rw (← c.self.view_is) at c.requires.actor)
    (rw (← c.self.view_is) at c.requires.runs)).0

pub set_ready-requires-clause-stands : goal.set_ready-requires-clause-stands
set_ready-requires-clause-stands g c κs within =
    let w : WorldState g.row.D.Denot = record { keep = c.self.inside.keep; first = c.self.inside.first.value; script = c.self.inside.script.lines; limit = c.self.inside.limit; failed = c.self.inside.failed; ledger = c.self.inside.ledger } in
    (runs-at (seen g.D.Disc.told w)
    (books_of w.ledger) c.self.invariant c.args.actor c.args.verb c.args.work
    (rw (← c.self.view_is) at c.requires.actor)
    (rw (← c.self.view_is) at c.requires.runs)).1

pub invariant_of-self : goal.invariant_of-self
invariant_of-self g c =
    let w : WorldState g.row.D.Denot = record { keep = c.self.inside.keep; first = c.self.inside.first.value; script = c.self.inside.script.lines; limit = c.self.inside.limit; failed = c.self.inside.failed; ledger = c.self.inside.ledger } in
    ran-monitor g.D.Disc.told w c.set_ready.new.keep c.mark_all.new.self c.args.actor c.args.verb
    c.args.work c.mark_all.ensures.rest c.mark_all.ensures.notes
    c.self.invariant (rw (← c.self.view_is) at c.requires.actor)
    (rw (← c.self.view_is) at c.requires.runs) c.set_ready.ensures

pub returns-clause-ran : goal.returns-clause-ran
returns-clause-ran g c =
    let w : WorldState g.row.D.Denot = record { keep = c.self.inside.keep; first = c.self.inside.first.value; script = c.self.inside.script.lines; limit = c.self.inside.limit; failed = c.self.inside.failed; ledger = c.self.inside.ledger } in
    rw (← c.self.view_is)
    (ran-seen g.D.Disc.told w c.set_ready.new.keep c.mark_all.new.self c.args.actor c.args.work
    c.mark_all.ensures.rest c.mark_all.ensures.notes c.set_ready.ensures)

pub returns-clause-read : goal.returns-clause-read
returns-clause-read g c =
    let w : WorldState g.row.D.Denot = record { keep = c.self.inside.keep; first = c.self.inside.first.value; script = c.self.inside.script.lines; limit = c.self.inside.limit; failed = c.self.inside.failed; ledger = c.self.inside.ledger } in
    let runs = rw (← c.self.view_is) at c.requires.runs in
    ap (λ (s : Seen). work_of s c.args.actor)
    (ran-seen g.D.Disc.told w c.set_ready.new.keep c.mark_all.new.self c.args.actor c.args.work
    c.mark_all.ensures.rest c.mark_all.ensures.notes c.set_ready.ensures)
    ∙ ran-read (seen g.D.Disc.told w) c.args.actor runs.given c.args.work
    (runs-at (seen g.D.Disc.told w)
    (books_of w.ledger) c.self.invariant c.args.actor c.args.verb c.args.work
    (rw (← c.self.view_is) at c.requires.actor) runs).1 runs.is
