use Rattle.std.proofs.Common.{◌≡◌, subst}
use Rattle.std.proofs.lemmas.Result.{IfOk-weaker}
use Rattle.std.specs.Prelude.{◌↔◌, IfOk, IsTrue}
use Rattle.pw_world_state.specs.May.{may}
use Rattle.pw_world_state.specs.Meeting.{IsStepRead}
use Rattle.pw_world.proofs.Entering.{can-push, is-step}
use Rattle.pw_world.specs.Ledgers.{books_of}
use Rattle.pw_world.specs.States.{WorldState, seen}
use Rattle.pw_world_model.specs.Pushed.{CanPush}
use Rattle.pw_world_model.specs.Seen.{state_of, sys_of}
use Rattle.pw_paired.specs.Step.{Legal}
use Rattle.pw_world.proofs.Baring.{bare}
use Rattle.pw_world.proofs.KnownWorlds.{is-known}
use Rattle.pw_world.proofs.world.World.passes.Goals as goal

pub may-requires-clause-known : goal.may-requires-clause-known
may-requires-clause-known g c κs within =
    let w : WorldState g.row.D.Denot = record { keep = c.self.inside.keep; first = c.self.inside.first.value; script = c.self.inside.script.lines; limit = c.self.inside.limit; failed = c.self.inside.failed; ledger = c.self.inside.ledger } in
    let k = w.keep in
    is-known (seen g.D.Disc.told w) (books_of w.ledger) c.self.invariant
    (bare k.system k.seats (g.D.Disc.told k.disc) k.book k.jobs k.pairs k.births c.known_parts.ensures)

pub returns-clause-exact : goal.returns-clause-exact
returns-clause-exact g c =
    let w : WorldState g.row.D.Denot = record { keep = c.self.inside.keep; first = c.self.inside.first.value; script = c.self.inside.script.lines; limit = c.self.inside.limit; failed = c.self.inside.failed; ledger = c.self.inside.ledger } in
    let world = seen g.D.Disc.told w in
    let event = c.args.event.now in
    let found = subst
    (λ lines. IfOk c.may.result
    (λ passed. IsStepRead world.system world.kept event → passed ≡ may world.system lines world.kept
    event)) c.as_slice.ensures c.may.ensures in
    rw (← c.self.view_is)
    (IfOk-weaker c.may.result
    (λ passed. IsStepRead world.system world.kept event → passed ≡ may world.system world.script
    world.kept event)
    (λ step. IsTrue step ↔ Legal (sys_of world) (state_of world) event)
    (λ passed same. is-step world (books_of w.ledger) c.self.invariant event
    (rw (← c.self.view_is) at c.requires.comes) (rw (← c.self.view_is) at c.requires.read)
    (rw (← c.self.view_is) at c.know_entry.ensures) passed same) found)

pub returns-clause-can : goal.returns-clause-can
returns-clause-can g c =
    let w : WorldState g.row.D.Denot = record { keep = c.self.inside.keep; first = c.self.inside.first.value; script = c.self.inside.script.lines; limit = c.self.inside.limit; failed = c.self.inside.failed; ledger = c.self.inside.ledger } in
    let world = seen g.D.Disc.told w in
    let event = c.args.event.now in
    let read = rw (← c.self.view_is) at c.requires.read in
    let values = rw (← c.self.view_is) at c.know_entry.ensures in
    let found = subst
    (λ lines. IfOk c.may.result
    (λ passed. IsStepRead world.system world.kept event → passed ≡ may world.system lines world.kept
    event)) c.as_slice.ensures c.may.ensures in
    rw (← c.self.view_is)
    (IfOk-weaker c.may.result
    (λ passed. IsStepRead world.system world.kept event → passed ≡ may world.system world.script
    world.kept event)
    (λ step. IsTrue step → CanPush world event)
    (λ passed same yes. can-push world (books_of w.ledger) c.self.invariant event
    (rw (← c.self.view_is) at c.requires.room) read values
    ((is-step world (books_of w.ledger) c.self.invariant event
    (rw (← c.self.view_is) at c.requires.comes) read values passed same).0 yes)) found)
