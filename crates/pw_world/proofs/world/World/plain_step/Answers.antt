use Rattle.std.proofs.lemmas.Result.{IfOk-weaker}
use Rattle.pw_world_store.specs.Keeps.{kept_in}
use Rattle.pw_world.proofs.FoundSteps.{plain-found, same-in}
use Rattle.pw_world.specs.Found.{FindsStep}
use Rattle.pw_world.specs.Ledgers.{books_of}
use Rattle.pw_world.specs.States.{WorldState, seen}
use Rattle.pw_entry_tests.specs.Steps.{IsStepFound}
use Rattle.pw_world.proofs.Baring.{bare}
use Rattle.pw_world.proofs.KnownWorlds.{is-known, next-known}
use Rattle.pw_world.proofs.world.World.plain_step.Goals as goal

pub step-requires-clause-actor : goal.step-requires-clause-actor
step-requires-clause-actor g c κs within =
    same-in c.self.inside.keep.system c.args.actor (rw (← c.self.view_is) at c.requires.actor)

pub step-requires-clause-known : goal.step-requires-clause-known
step-requires-clause-known g c κs within =
    let w : WorldState g.row.D.Denot = record { keep = c.self.inside.keep; first = c.self.inside.first.value; script = c.self.inside.script.lines; limit = c.self.inside.limit; failed = c.self.inside.failed; ledger = c.self.inside.ledger } in
    let k = w.keep in
    is-known (seen g.D.Disc.told w) (books_of w.ledger) c.self.invariant
    (bare k.system k.seats (g.D.Disc.told k.disc) k.book k.jobs k.pairs k.births c.known_parts.ensures)

pub step-requires-clause-next : goal.step-requires-clause-next
step-requires-clause-next g c κs within =
    let w : WorldState g.row.D.Denot = record { keep = c.self.inside.keep; first = c.self.inside.first.value; script = c.self.inside.script.lines; limit = c.self.inside.limit; failed = c.self.inside.failed; ledger = c.self.inside.ledger } in
    next-known (seen g.D.Disc.told w) (books_of w.ledger) c.self.invariant c.args.actor (rw (← c.self.view_is) at c.requires.actor) (rw (← c.self.view_is) at c.know_actor.ensures)

pub returns : goal.returns
returns g c =
    let w : WorldState g.row.D.Denot = record { keep = c.self.inside.keep; first = c.self.inside.first.value; script = c.self.inside.script.lines; limit = c.self.inside.limit; failed = c.self.inside.failed; ledger = c.self.inside.ledger } in
    rw (← c.self.view_is)
    (IfOk-weaker c.step.result (IsStepFound w.keep.system (kept_in g.D.Disc.told w.keep) c.args.actor) (FindsStep (seen g.D.Disc.told w) c.args.actor)
    (plain-found (seen g.D.Disc.told w) (books_of w.ledger) c.self.invariant c.args.actor (rw (← c.self.view_is) at c.requires.unfinished)
    (rw (← c.self.view_is) at c.requires.read) (rw (← c.self.view_is) at c.requires.undue) (rw (← c.self.view_is) at c.know_actor.ensures))
    c.step.ensures)
