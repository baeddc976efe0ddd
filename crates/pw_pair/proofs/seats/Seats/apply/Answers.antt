-- The seat at the terminal's place is changed, and the others stay.
use Rattle.std.proofs.Common.{ℕ, sym, ap, cond, ◌∙◌, arith}
use Rattle.pw_pair.specs.Seats.{applied, is_built, is_lacking, is_sound, is_waiting}
use Rattle.pw_pair.proofs.Sound.{applied-sound, built-waits-not, built-whole}
use Rattle.pw_pair.proofs.At.{changed-seat, counted-seat, default-at, kept-seat, room-seat, same-count, seat-passes, seat-sound, told-count, within-at}
use Rattle.pw_pair.proofs.seats.Seats.apply.Goals as goal

pub returns-in_default : goal.returns-in_default
returns-in_default c = default-at c.self.inside.places c.self.inside.seats.items c.args.self.now c.args.terminal c.self.view_is c.self.invariant.places_are applied (sym c.get.ensures.value ∙ sym c.copied.ensures ∙ c.in_default.is)

pub index_mut-seat-requires : goal.index_mut-seat-requires
index_mut-seat-requires c = let lt = within-at c.self.inside.places c.self.inside.seats.items c.args.self.now c.args.terminal c.self.view_is c.self.invariant.places_are c.in-Some.place (sym c.get.ensures.value ∙ sym c.copied.ensures ∙ c.in-Some.is) in omega (arith, lt, c.self.inside.seats.ok.0)

pub apply-requires : goal.apply-requires
apply-requires c =
    built-whole c.index_mut-seat.result.now
    (seat-sound c.self.inside.places c.self.inside.seats.items c.args.self.now c.args.terminal c.self.view_is c.self.invariant.places_are c.in-Some.place (sym c.get.ensures.value ∙ sym c.copied.ensures ∙ c.in-Some.is) c.index_mut-seat.result.now c.index_mut-seat.ensures.value c.self.inside.lacking c.self.inside.waiting c.self.invariant)
    (seat-passes c.self.inside.places c.self.inside.seats.items c.args.self.now c.args.terminal c.self.view_is c.self.invariant.places_are c.in-Some.place (sym c.get.ensures.value ∙ sym c.copied.ensures ∙ c.in-Some.is) c.index_mut-seat.result.now c.index_mut-seat.ensures.value is_built c.requires)

pub recount-self-inside-requires-clause-counted : goal.recount-self-inside-requires-clause-counted
recount-self-inside-requires-clause-counted c =
    rw c.is_lacking-before.ensures (counted-seat c.self.inside.places c.self.inside.seats.items c.args.self.now c.args.terminal c.self.view_is c.self.invariant.places_are c.in-Some.place (sym c.get.ensures.value ∙ sym c.copied.ensures ∙ c.in-Some.is) c.index_mut-seat.result.now c.index_mut-seat.ensures.value is_lacking c.self.inside.lacking c.self.invariant.lacks)

pub recount-self-inside-requires-clause-room : goal.recount-self-inside-requires-clause-room
recount-self-inside-requires-clause-room c =
    let own = room-seat c.self.inside.places c.self.inside.seats.items c.args.self.now c.args.terminal c.self.view_is c.self.invariant.places_are c.in-Some.place (sym c.get.ensures.value ∙ sym c.copied.ensures ∙ c.in-Some.is) c.index_mut-seat.result.now c.index_mut-seat.ensures.value is_lacking c.self.inside.lacking c.apply.new.self c.self.invariant.lacks in
    omega (arith, own, ap {B = ℕ} (λ b. cond b 1 0) c.is_lacking-before.ensures, ap {B = ℕ} (λ b. cond b 1 0) c.is_lacking-after.ensures, c.len.ensures, c.self.inside.seats.ok.0)

pub invariant_of-self : goal.invariant_of-self
invariant_of-self c =
    kept-seat c.self.inside.places c.self.inside.seats.items c.args.self.now c.args.terminal c.self.view_is c.self.invariant.places_are c.in-Some.place (sym c.get.ensures.value ∙ sym c.copied.ensures ∙ c.in-Some.is) c.index_mut-seat.result.now c.index_mut-seat.ensures.value
    c.self.inside.lacking _ c.self.inside.waiting _ c.apply.new.self c.self.invariant (ap (λ s. s.terminal) c.apply.ensures)
    (λ h. ap is_sound c.apply.ensures ∙ applied-sound c.index_mut-seat.result.now h)
    (told-count _ _ _ _ _ _ c.recount-self-inside.ensures c.is_lacking-before.ensures c.is_lacking-after.ensures)
    (same-count c.self.inside.waiting (is_waiting c.index_mut-seat.result.now) (is_waiting c.apply.new.self)
    (ap is_waiting c.apply.ensures ∙ sym (built-waits-not c.index_mut-seat.result.now.flight (seat-passes c.self.inside.places c.self.inside.seats.items c.args.self.now c.args.terminal c.self.view_is c.self.invariant.places_are c.in-Some.place (sym c.get.ensures.value ∙ sym c.copied.ensures ∙ c.in-Some.is) c.index_mut-seat.result.now c.index_mut-seat.ensures.value is_built c.requires))))

pub returns : goal.returns
returns c =
    changed-seat c.self.inside.places c.self.inside.seats.items c.args.self.now c.args.terminal c.self.view_is c.self.invariant.places_are c.in-Some.place (sym c.get.ensures.value ∙ sym c.copied.ensures ∙ c.in-Some.is) c.index_mut-seat.result.now c.index_mut-seat.ensures.value
    applied c.apply.new.self c.apply.ensures
