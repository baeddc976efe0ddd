use Rattle.std.proofs.Common.{◌<◌, ap, refl, subst, sym, length}
use Rattle.pw_world_store.specs.Keeps.{HasVerb}
use Rattle.pw_world_state.specs.Changes.{with_ready}
use Rattle.pw_world_store.specs.Seats.{ready_at}
use Rattle.pw_world_store.specs.declared.seat.Seat.{Seat}
use Rattle.pw_world_store.proofs.Parts.{alike-at, keep-own, seat-step, seat-there}
use Rattle.pw_world_store.proofs.keep.Keep.run_on.Goals as goal

pub invariant_of-self : goal.invariant_of-self
invariant_of-self g c =
    let lt : c.args.terminal < length c.self.inside.seats.items = seat-there c.args.terminal c.self.invariant (rw (← c.self.view_is) at c.requires.known) in
    keep-own c.self.inside.system c.self.inside.seats.items (g.D.Disc.told c.self.inside.disc) c.self.inside.classes c.self.inside.jobs.items c.self.inside.pairs.items c.args.terminal c.index_mut.result.now c.run_on.new.self c.self.invariant lt c.index_mut.ensures.value
    (subst (HasVerb c.self.inside.system) (sym c.run_on.ensures) (rw (← c.self.view_is) at c.requires.verb))
    (ap (λ (s : Seat). s.unit) c.run_on.ensures) (ap (λ (s : Seat). s.start) c.run_on.ensures)

pub returns : goal.returns
returns g c =
    let lt : c.args.terminal < length c.self.inside.seats.items = seat-there c.args.terminal c.self.invariant (rw (← c.self.view_is) at c.requires.known) in
    rw (← c.self.view_is)
    (seat-step g.D.Disc.told (with_ready c.args.context) (record { system = c.self.inside.system; seats = c.self.inside.seats.items; disc = c.self.inside.disc; book = c.self.inside.classes; jobs = c.self.inside.jobs.items; pairs = c.self.inside.pairs.items; births = c.self.inside.births }) c.args.terminal c.run_on.new.self lt
    (alike-at (ready_at c.args.verb c.args.context) (with_ready c.args.context) (λ s. refl) c.self.inside.seats.items c.args.terminal c.index_mut.result.now c.run_on.new.self lt
    c.index_mut.ensures.value c.run_on.ensures))
