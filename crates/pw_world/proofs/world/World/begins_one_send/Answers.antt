use Rattle.std.proofs.Common.{◌≡◌, ◌∙◌, ap, subst, sym}
use Rattle.pw_world_state.specs.Asked.{verb_in}
use Rattle.pw_world.proofs.Screens.{begins-ready, not-unready, ready-is, send-is}
use Rattle.pw_world.proofs.ShownValues.{if-some}
use Rattle.pw_world.specs.Ledgers.{books_of}
use Rattle.pw_world.specs.States.{WorldState, seen}
use Rattle.pw_world_model.specs.OneSends.{begins_one_send}
use Rattle.pw_world_model.specs.Pushed.{CanPush}
use Rattle.pw_world_model.specs.Seen.{state_of, sys_of}
use Rattle.pw_world_store.specs.declared.seat.Ready.{Ready}
use Rattle.pw_world.proofs.world.World.begins_one_send.Goals as goal

pub returns-in-Some : goal.returns-in-Some
returns-in-Some g c =
    let w : WorldState g.row.D.Denot = record { keep = c.self.inside.keep; first = c.self.inside.first.value; script = c.self.inside.script.lines; limit = c.self.inside.limit; failed = c.self.inside.failed; ledger = c.self.inside.ledger } in
    let world = seen g.D.Disc.told w in
    let t = c.in-Begin.terminal in
    let ready : Ready = c.in-Some.ready in
    let can = subst (CanPush world) c.in-Begin.is (rw (← c.self.view_is) at c.requires) in
    rw (← c.self.view_is)
    (c.asks_send.ensures
    ∙ (send-is world (books_of w.ledger) c.self.invariant t c.in-Begin.unit c.in-Begin.restarts can ready.context
    (ready-is c.seat.result.now (world.kept.terminals t) ready c.seat.ensures.kept c.in-Some.is) ready.verb
    (if-some (λ (at : Ready). at.verb ≡ verb_in w.keep.system at.context) c.seat.result.now.ready ready c.seat.ensures.verb c.in-Some.is)
    ∙ ap (begins_one_send (sys_of world) (state_of world)) (sym c.in-Begin.is)))

pub returns-in-None : goal.returns-in-None
returns-in-None g c =
    let w : WorldState g.row.D.Denot = record { keep = c.self.inside.keep; first = c.self.inside.first.value; script = c.self.inside.script.lines; limit = c.self.inside.limit; failed = c.self.inside.failed; ledger = c.self.inside.ledger } in
    let world = seen g.D.Disc.told w in
    let t = c.in-Begin.terminal in
    let can = subst (CanPush world) c.in-Begin.is (rw (← c.self.view_is) at c.requires) in
    let some = begins-ready world (books_of w.ledger) c.self.invariant t c.in-Begin.unit c.in-Begin.restarts can in
    absurd (not-unready c.seat.result.now (world.kept.terminals t) some.0 c.seat.ensures.kept some.1 c.in-None.is)
