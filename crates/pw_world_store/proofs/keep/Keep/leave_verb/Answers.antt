use Rattle.std.proofs.Common.{◌<◌, ◌∙◌, ap, refl, subst, sym, length}
use Rattle.pw_world_store.specs.Keeps.{HasVerb, kept_of}
use Rattle.pw_world_store.specs.Calls.{before_verb}
use Rattle.pw_world_store.specs.Seats.{seat_before_verb}
use Rattle.pw_world_store.specs.declared.seat.Seat.{Seat}
use Rattle.pw_world_store.proofs.Parts.{alike-at, keep-own, seat-is, seat-step, seat-there}
use Rattle.pw_world_store.proofs.keep.Keep.leave_verb.Goals as goal

pub invariant_of-self : goal.invariant_of-self
invariant_of-self g c =
    let lt : c.args.terminal < length c.self.inside.seats.items = seat-there c.args.terminal c.self.invariant (rw (← c.self.view_is) at c.requires) in
    keep-own c.self.inside.system c.self.inside.seats.items (g.D.Disc.told c.self.inside.disc) c.self.inside.classes c.self.inside.jobs.items c.self.inside.pairs.items c.args.terminal c.index_mut.result.now c.leave_verb.new.self c.self.invariant lt c.index_mut.ensures.value
    (subst (HasVerb c.self.inside.system) (sym c.leave_verb.ensures.left) tt)
    (ap (λ (s : Seat). s.unit) c.leave_verb.ensures.left) (ap (λ (s : Seat). s.start) c.leave_verb.ensures.left)

pub returns-clause-context : goal.returns-clause-context
returns-clause-context g c =
    let lt : c.args.terminal < length c.self.inside.seats.items = seat-there c.args.terminal c.self.invariant (rw (← c.self.view_is) at c.requires) in
    rw (← c.self.view_is)
    (c.leave_verb.ensures.context
    ∙ ap (λ (s : Seat). (kept_of s).ready) (sym (seat-is c.self.inside.seats.items c.args.terminal c.index_mut.result.now lt c.index_mut.ensures.value)))

pub returns-clause-left : goal.returns-clause-left
returns-clause-left g c =
    let lt : c.args.terminal < length c.self.inside.seats.items = seat-there c.args.terminal c.self.invariant (rw (← c.self.view_is) at c.requires) in
    rw (← c.self.view_is)
    (seat-step g.D.Disc.told before_verb (record { system = c.self.inside.system; seats = c.self.inside.seats.items; disc = c.self.inside.disc; book = c.self.inside.classes; jobs = c.self.inside.jobs.items; pairs = c.self.inside.pairs.items; births = c.self.inside.births }) c.args.terminal c.leave_verb.new.self lt
    (alike-at seat_before_verb before_verb (λ s. refl) c.self.inside.seats.items c.args.terminal c.index_mut.result.now c.leave_verb.new.self lt
    c.index_mut.ensures.value c.leave_verb.ensures.left))
