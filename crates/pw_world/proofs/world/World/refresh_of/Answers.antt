use Rattle.std.proofs.Common.{◌∙◌, ap, subst, sym}
use Rattle.pw_world.proofs.Screens.{not-unready, ready-is, refresh-is, shows-ready}
use Rattle.pw_world.specs.Ledgers.{books_of}
use Rattle.pw_world.specs.States.{WorldState, seen}
use Rattle.pw_world_model.specs.Pushed.{CanPush}
use Rattle.pw_world_model.specs.Seen.{state_of, sys_of}
use Rattle.pw_paired.specs.Shown.{refresh_of}
use Rattle.pw_world.proofs.world.World.refresh_of.Goals as goal

pub unreachable-requires : goal.unreachable-requires
unreachable-requires g c =
    let w : WorldState g.row.D.Denot = record { keep = c.self.inside.keep; first = c.self.inside.first.value; script = c.self.inside.script.lines; limit = c.self.inside.limit; failed = c.self.inside.failed; ledger = c.self.inside.ledger } in
    let world = seen g.D.Disc.told w in
    let t = c.in-Show.terminal in
    let can = subst (CanPush world) c.in-Show.is (rw (← c.self.view_is) at c.requires) in
    let some = shows-ready world (books_of w.ledger) c.self.invariant t c.in-Show.phase c.in-Show.attempt c.in-Show.k can in
    not-unready c.seat.result.now (world.kept.terminals t) some.0 c.seat.ensures.kept some.1 c.in_default-ready.is

pub returns : goal.returns
returns g c =
    let w : WorldState g.row.D.Denot = record { keep = c.self.inside.keep; first = c.self.inside.first.value; script = c.self.inside.script.lines; limit = c.self.inside.limit; failed = c.self.inside.failed; ledger = c.self.inside.ledger } in
    let world = seen g.D.Disc.told w in
    let t = c.in-Show.terminal in
    let can = subst (CanPush world) c.in-Show.is (rw (← c.self.view_is) at c.requires) in
    rw (← c.self.view_is)
    (refresh-is world (books_of w.ledger) c.self.invariant t c.in-Show.phase c.in-Show.attempt c.in-Show.k can c.in-Some.ready.context
    (ready-is c.seat.result.now (world.kept.terminals t) c.in-Some.ready c.seat.ensures.kept c.in-Some.is) c.in_ok-image.image c.in_ok-image.ensures
    ∙ ap (refresh_of (sys_of world) (state_of world)) (sym c.in-Show.is))
