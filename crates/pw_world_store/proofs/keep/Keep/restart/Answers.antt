use Rattle.std.proofs.Common.{◌<◌, ◌∙◌, ◌-◌, ◌^◌, [], ap, false, refl, subst, sym, length}
use Rattle.std.proofs.lemmas.List.Elements.{All-cons, All-nil}
use Rattle.pw_code.specs.declared.unit.Unit.{Unit}
use Rattle.pw_world_store.specs.Calls.{cancel_of}
use Rattle.pw_world_state.specs.Changes as kept
use Rattle.pw_world_state.specs.Changes.{unit_at}
use Rattle.pw_world_state.specs.Kept.{Kept}
use Rattle.pw_world_store.specs.Seats.{seat_restarted}
use Rattle.pw_world_store.specs.declared.seat.Seat.{Seat}
use Rattle.pw_tmf.specs.Units.{IsRunning, backed_out}
use Rattle.pw_world_store.proofs.Parts.{alike-at, seat-is, seat-there, unit-step}
use Rattle.pw_world_store.proofs.Restarting.{keep-restarted, restarted-kept}
use Rattle.pw_world_store.proofs.keep.Keep.restart.Goals as goal

pub back_out-requires-clause-units : goal.back_out-requires-clause-units
back_out-requires-clause-units g c =
    let disc = g.D.Disc.told c.self.inside.disc in
    let asked = rw (← c.self.view_is) at c.unit_at.ensures in
    All-cons (IsRunning disc) c.unit_at.result [] (subst (IsRunning disc) (sym asked) (rw (← c.self.view_is) at c.requires.runs)) (All-nil (IsRunning disc))

pub restart-requires : goal.restart-requires
restart-requires g c =
    let t = c.args.terminal in
    let lt : t < length c.self.inside.seats.items = seat-there t c.self.invariant (rw (← c.self.view_is) at c.requires.known) in
    subst (λ (s : Seat). s.restarts < 2 ^ 32 - 1) (seat-is c.self.inside.seats.items t c.index_mut.result.now lt c.index_mut.ensures.value) (rw (← c.self.view_is) at c.requires.few)

pub invariant_of-self-2 : goal.invariant_of-self-2
invariant_of-self-2 g c =
    let t = c.args.terminal in
    let lt : t < length c.self.inside.seats.items = seat-there t c.self.invariant (rw (← c.self.view_is) at c.requires.known) in
    keep-restarted c.self.inside.system c.self.inside.seats.items (g.D.Disc.told c.self.inside.disc) (g.D.Disc.told c.back_out.new.self) c.self.inside.classes c.self.inside.jobs.items c.self.inside.pairs.items
    t c.unit_at.result c.args.cause c.index_mut.result.now c.restart.new.self c.self.invariant lt (ap (λ (u : Unit). u.terminal) c.unit_at.ensures)
    c.index_mut.ensures.value c.restart.ensures c.in_ok-back_out.ensures.ok

pub returns-clause-ok : goal.returns-clause-ok
returns-clause-ok g c =
    let t = c.args.terminal in
    let disc = g.D.Disc.told c.self.inside.disc in
    let lt : t < length c.self.inside.seats.items = seat-there t c.self.invariant (rw (← c.self.view_is) at c.requires.known) in
    let asked = rw (← c.self.view_is) at c.unit_at.ensures in
    let before = unit-step g.D.Disc.told (kept.restarted c.args.cause) (λ (kept : Kept). backed_out false kept.disc (unit_at kept t c.args.number)) (λ (kept : Kept). kept.births) (record { system = c.self.inside.system; seats = c.self.inside.seats.items; disc = c.self.inside.disc; book = c.self.inside.classes; jobs = c.self.inside.jobs.items; pairs = c.self.inside.pairs.items; births = c.self.inside.births }) c.back_out.new.self c.self.inside.births t c.restart.new.self lt
    (alike-at (seat_restarted c.args.cause) (kept.restarted c.args.cause) (restarted-kept c.args.cause) c.self.inside.seats.items t c.index_mut.result.now c.restart.new.self lt
    c.index_mut.ensures.value c.restart.ensures)
    (c.in_ok-back_out.ensures.ok ∙ ap (λ (u : Unit). backed_out false disc u) asked) refl in
    rw (← c.self.view_is) (record {
      system = c.cancel_one.ensures.system ∙ before.system;
      kept = c.cancel_one.ensures.kept ∙ ap (cancel_of t) before.kept;
    })
