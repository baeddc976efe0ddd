use Rattle.std.proofs.Common.{◌<◌, Some, refl, subst, length}
use Rattle.pw_world_store.specs.Calls.{pended}
use Rattle.pw_world_store.specs.Keeps.{HasVerb}
use Rattle.pw_world_store.specs.declared.seat.Seat.{Seat}
use Rattle.pw_world_store.proofs.Parts.{alike-at, keep-own, seat-is, seat-step, seat-there}
use Rattle.pw_world_store.proofs.keep.Keep.pend.Goals as goal

pub invariant_of-self : goal.invariant_of-self
invariant_of-self g c =
    let t = c.args.terminal in
    let seats = c.self.inside.seats.items in
    let lt : t < length seats = seat-there t c.self.invariant (rw (← c.self.view_is) at c.requires.known) in
    let here = seat-is seats t c.index_mut.result.now lt c.index_mut.ensures.value in
    keep-own c.self.inside.system c.self.inside.seats.items (g.D.Disc.told c.self.inside.disc) c.self.inside.classes c.self.inside.jobs.items c.self.inside.pairs.items t c.index_mut.result.now _ c.self.invariant lt c.index_mut.ensures.value
    (subst (HasVerb c.self.inside.system) here (c.self.invariant.verbs t)) refl refl

pub returns : goal.returns
returns g c =
    let lt : c.args.terminal < length c.self.inside.seats.items = seat-there c.args.terminal c.self.invariant (rw (← c.self.view_is) at c.requires.known) in
    rw (← c.self.view_is)
    (seat-step g.D.Disc.told (pended c.args.cause) (record { system = c.self.inside.system; seats = c.self.inside.seats.items; disc = c.self.inside.disc; book = c.self.inside.classes; jobs = c.self.inside.jobs.items; pairs = c.self.inside.pairs.items; births = c.self.inside.births }) c.args.terminal _ lt
    (alike-at (λ (s : Seat). record s { pending = Some c.args.cause }) (pended c.args.cause) (λ s. refl) c.self.inside.seats.items c.args.terminal c.index_mut.result.now _ lt
    c.index_mut.ensures.value refl))
