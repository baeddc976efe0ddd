-- The message is in flight at the terminal's place.
use Rattle.std.proofs.Common.{ℕ, sym, ap, cond, ◌∙◌, get_or, arith}
use Rattle.pw_pair.specs.Bodies.{body_of}
use Rattle.pw_pair.specs.Seats.{is_lacking, is_sound, is_waiting, start_of, with_carried, with_message}
use Rattle.pw_pair.proofs.At.{changed-seat, counted-seat, default-at, kept-seat, room-seat, same-count, told-count, within-at}
use Rattle.pw_pair.proofs.Sound.{message-sound}
use Rattle.pw_pair.proofs.seats.Seats.send.Goals as goal

pub returns-in_default-clause-ok : goal.returns-in_default-clause-ok
returns-in_default-clause-ok c = default-at c.self.inside.places c.self.inside.seats.items c.args.self.now c.args.terminal c.self.view_is c.self.invariant.places_are (with_message c.args.kind c.args.unit c.args.image) (sym c.get.ensures.value ∙ sym c.copied.ensures ∙ c.in_default.is)

pub body_at-requires : goal.body_at-requires
body_at-requires c = let lt = within-at c.self.inside.places c.self.inside.seats.items c.args.self.now c.args.terminal c.self.view_is c.self.invariant.places_are c.in-Some.place (sym c.get.ensures.value ∙ sym c.copied.ensures ∙ c.in-Some.is) in rw c.as_slice.ensures.value lt

pub index_mut-seat-requires : goal.index_mut-seat-requires
index_mut-seat-requires c = let lt = within-at c.self.inside.places c.self.inside.seats.items c.args.self.now c.args.terminal c.self.view_is c.self.invariant.places_are c.in-Some.place (sym c.get.ensures.value ∙ sym c.copied.ensures ∙ c.in-Some.is) in omega (arith, lt, c.self.inside.seats.ok.0)

pub recount-self-inside-requires-clause-counted : goal.recount-self-inside-requires-clause-counted
recount-self-inside-requires-clause-counted c =
    rw c.is_waiting-waited.ensures (counted-seat c.self.inside.places c.self.inside.seats.items c.args.self.now c.args.terminal c.self.view_is c.self.invariant.places_are c.in-Some.place (sym c.get.ensures.value ∙ sym c.copied.ensures ∙ c.in-Some.is) c.index_mut-seat.result.now c.index_mut-seat.ensures.value is_waiting c.self.inside.waiting c.self.invariant.waits)

pub recount-self-inside-requires-clause-room : goal.recount-self-inside-requires-clause-room
recount-self-inside-requires-clause-room c =
    let own = room-seat c.self.inside.places c.self.inside.seats.items c.args.self.now c.args.terminal c.self.view_is c.self.invariant.places_are c.in-Some.place (sym c.get.ensures.value ∙ sym c.copied.ensures ∙ c.in-Some.is) c.index_mut-seat.result.now c.index_mut-seat.ensures.value is_waiting c.self.inside.waiting c.put_flight.new.self c.self.invariant.waits in
    omega (arith, own, ap {B = ℕ} (λ b. cond b 1 0) c.is_waiting-waited.ensures, ap {B = ℕ} (λ b. cond b 1 0) c.is_waiting-waits.ensures, c.len.ensures, c.self.inside.seats.ok.0)

pub invariant_of-self : goal.invariant_of-self
invariant_of-self c =
    let sent = (c.put_flight.ensures ∙ ap (λ b. with_carried (record { kind = c.args.kind; unit = c.args.unit; body = b }) c.index_mut-seat.result.now)
    (c.in_ok-body.ensures c.index_mut-seat.result.now ∙ ap (λ s. body_of (start_of s.memory) c.args.image)
    (ap (λ l. get_or l c.in-Some.place c.index_mut-seat.result.now) c.as_slice.ensures.value ∙ sym c.index_mut-seat.ensures.value))) in
    kept-seat c.self.inside.places c.self.inside.seats.items c.args.self.now c.args.terminal c.self.view_is c.self.invariant.places_are c.in-Some.place (sym c.get.ensures.value ∙ sym c.copied.ensures ∙ c.in-Some.is) c.index_mut-seat.result.now c.index_mut-seat.ensures.value
    c.self.inside.lacking c.self.inside.lacking c.self.inside.waiting _ c.put_flight.new.self c.self.invariant (ap (λ s. s.terminal) sent)
    (λ h. ap is_sound sent ∙ message-sound c.args.kind c.args.unit c.args.image c.index_mut-seat.result.now h c.requires)
    (same-count c.self.inside.lacking (is_lacking c.index_mut-seat.result.now) (is_lacking c.put_flight.new.self) (ap is_lacking sent))
    (told-count _ _ _ _ _ _ c.recount-self-inside.ensures c.is_waiting-waited.ensures c.is_waiting-waits.ensures)

pub returns-clause-ok : goal.returns-clause-ok
returns-clause-ok c =
    let sent = (c.put_flight.ensures ∙ ap (λ b. with_carried (record { kind = c.args.kind; unit = c.args.unit; body = b }) c.index_mut-seat.result.now)
    (c.in_ok-body.ensures c.index_mut-seat.result.now ∙ ap (λ s. body_of (start_of s.memory) c.args.image)
    (ap (λ l. get_or l c.in-Some.place c.index_mut-seat.result.now) c.as_slice.ensures.value ∙ sym c.index_mut-seat.ensures.value))) in
    changed-seat c.self.inside.places c.self.inside.seats.items c.args.self.now c.args.terminal c.self.view_is c.self.invariant.places_are c.in-Some.place (sym c.get.ensures.value ∙ sym c.copied.ensures ∙ c.in-Some.is) c.index_mut-seat.result.now c.index_mut-seat.ensures.value
    (with_message c.args.kind c.args.unit c.args.image) c.put_flight.new.self sent
