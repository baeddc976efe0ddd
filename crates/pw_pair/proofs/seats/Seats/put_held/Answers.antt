-- The seat at the terminal's place is changed, and the others stay.
use Rattle.std.proofs.Common.{ℕ, sym, ap, cond, ◌∙◌, arith}
use Rattle.pw_pair.specs.Seats.{is_lacking, is_sound, is_waiting, with_held}
use Rattle.pw_pair.proofs.Sound.{held-sound}
use Rattle.pw_pair.specs.Rooms.{is_used}
use Rattle.pw_pair.proofs.At.{changed-seat, counted-seat, default-at, kept-seat, one-more, room-seat, seat-terminal, told-count, within-at}
use Rattle.pw_pair.proofs.seats.Seats.put_held.Goals as goal

pub returns-in_default-clause-seats : goal.returns-in_default-clause-seats
returns-in_default-clause-seats c = default-at c.self.inside.places c.self.inside.seats.items c.args.self.now c.args.held.terminal c.self.view_is c.self.invariant.places_are (with_held c.args.held) (sym c.get.ensures.value ∙ sym c.copied.ensures ∙ c.in_default.is)

pub index_mut-seat-requires : goal.index_mut-seat-requires
index_mut-seat-requires c = let lt = within-at c.self.inside.places c.self.inside.seats.items c.args.self.now c.args.held.terminal c.self.view_is c.self.invariant.places_are c.in-Some.place (sym c.get.ensures.value ∙ sym c.copied.ensures ∙ c.in-Some.is) in omega (arith, lt, c.self.inside.seats.ok.0)

pub recount-self-inside-requires-clause-counted : goal.recount-self-inside-requires-clause-counted
recount-self-inside-requires-clause-counted c =
    rw c.is_lacking-before.ensures (counted-seat c.self.inside.places c.self.inside.seats.items c.args.self.now c.args.held.terminal c.self.view_is c.self.invariant.places_are c.in-Some.place (sym c.get.ensures.value ∙ sym c.copied.ensures ∙ c.in-Some.is) c.index_mut-seat.result.now c.index_mut-seat.ensures.value is_lacking c.self.inside.lacking c.self.invariant.lacks)

pub recount-self-inside-requires-clause-room : goal.recount-self-inside-requires-clause-room
recount-self-inside-requires-clause-room c =
    let own = room-seat c.self.inside.places c.self.inside.seats.items c.args.self.now c.args.held.terminal c.self.view_is c.self.invariant.places_are c.in-Some.place (sym c.get.ensures.value ∙ sym c.copied.ensures ∙ c.in-Some.is) c.index_mut-seat.result.now c.index_mut-seat.ensures.value is_lacking c.self.inside.lacking c.put_held.new.self c.self.invariant.lacks in
    omega (arith, own, ap {B = ℕ} (λ b. cond b 1 0) c.is_lacking-before.ensures, ap {B = ℕ} (λ b. cond b 1 0) c.is_lacking-after.ensures, c.len.ensures, c.self.inside.seats.ok.0)

pub recount-self-inside-requires-2-clause-counted : goal.recount-self-inside-requires-2-clause-counted
recount-self-inside-requires-2-clause-counted c =
    rw c.is_waiting-waited.ensures (counted-seat c.self.inside.places c.self.inside.seats.items c.args.self.now c.args.held.terminal c.self.view_is c.self.invariant.places_are c.in-Some.place (sym c.get.ensures.value ∙ sym c.copied.ensures ∙ c.in-Some.is) c.index_mut-seat.result.now c.index_mut-seat.ensures.value is_waiting c.self.inside.waiting c.self.invariant.waits)

pub recount-self-inside-requires-2-clause-room : goal.recount-self-inside-requires-2-clause-room
recount-self-inside-requires-2-clause-room c =
    let own = room-seat c.self.inside.places c.self.inside.seats.items c.args.self.now c.args.held.terminal c.self.view_is c.self.invariant.places_are c.in-Some.place (sym c.get.ensures.value ∙ sym c.copied.ensures ∙ c.in-Some.is) c.index_mut-seat.result.now c.index_mut-seat.ensures.value is_waiting c.self.inside.waiting c.put_held.new.self c.self.invariant.waits in
    omega (arith, own, ap {B = ℕ} (λ b. cond b 1 0) c.is_waiting-waited.ensures, ap {B = ℕ} (λ b. cond b 1 0) c.is_waiting-waits.ensures, c.len-2.ensures, c.self.inside.seats.ok.0)

pub invariant_of-self : goal.invariant_of-self
invariant_of-self c =
    kept-seat c.self.inside.places c.self.inside.seats.items c.args.self.now c.args.held.terminal c.self.view_is c.self.invariant.places_are c.in-Some.place (sym c.get.ensures.value ∙ sym c.copied.ensures ∙ c.in-Some.is) c.index_mut-seat.result.now c.index_mut-seat.ensures.value
    c.self.inside.lacking _ c.self.inside.waiting _ c.put_held.new.self c.self.invariant (ap (λ s. s.terminal) c.put_held.ensures)
    (λ h. ap is_sound c.put_held.ensures ∙ held-sound c.args.held c.index_mut-seat.result.now (sym (seat-terminal c.self.inside.places c.self.inside.seats.items c.args.self.now c.args.held.terminal c.self.view_is c.self.invariant.places_are c.in-Some.place (sym c.get.ensures.value ∙ sym c.copied.ensures ∙ c.in-Some.is) c.index_mut-seat.result.now c.index_mut-seat.ensures.value)) c.requires)
    (told-count _ _ _ _ _ _ c.recount-self-inside.ensures c.is_lacking-before.ensures c.is_lacking-after.ensures)
    (told-count _ _ _ _ _ _ c.recount-self-inside-2.ensures c.is_waiting-waited.ensures c.is_waiting-waits.ensures)

pub returns-clause-seats : goal.returns-clause-seats
returns-clause-seats c =
    changed-seat c.self.inside.places c.self.inside.seats.items c.args.self.now c.args.held.terminal c.self.view_is c.self.invariant.places_are c.in-Some.place (sym c.get.ensures.value ∙ sym c.copied.ensures ∙ c.in-Some.is) c.index_mut-seat.result.now c.index_mut-seat.ensures.value
    (with_held c.args.held) c.put_held.new.self c.put_held.ensures

pub returns-clause-used : goal.returns-clause-used
returns-clause-used c =
    let lt = within-at c.self.inside.places c.self.inside.seats.items c.args.self.now c.args.held.terminal c.self.view_is c.self.invariant.places_are
    c.in-Some.place (sym c.get.ensures.value ∙ sym c.copied.ensures ∙ c.in-Some.is) in
    one-more is_used c.self.inside.seats.items c.args.self.now c.in-Some.place c.index_mut-seat.result.now c.put_held.new.self c.self.view_is lt
