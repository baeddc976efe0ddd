-- The seat at the terminal's place is changed, and the others stay.
use Rattle.std.proofs.Common.{ℕ, sym, ap, cond, ◌∙◌, arith}
use Rattle.pw_pair.specs.Seats.{built, is_lacking, is_sound, is_waiting, stands_for}
use Rattle.pw_pair.proofs.Sound.{built-sound}
use Rattle.pw_pair.proofs.At.{changed-seat, counted-seat, default-at, kept-seat, room-seat, same-count, seat-has, told-count, within-at}
use Rattle.pw_pair.proofs.seats.Seats.put_image.Goals as goal

pub returns-in_default : goal.returns-in_default
returns-in_default c = default-at c.self.inside.places c.self.inside.seats.items c.args.self.now c.args.terminal c.self.view_is c.self.invariant.places_are built (sym c.get.ensures.value ∙ sym c.copied.ensures ∙ c.in_default.is)

pub index_mut-seat-requires : goal.index_mut-seat-requires
index_mut-seat-requires c = let lt = within-at c.self.inside.places c.self.inside.seats.items c.args.self.now c.args.terminal c.self.view_is c.self.invariant.places_are c.in-Some.place (sym c.get.ensures.value ∙ sym c.copied.ensures ∙ c.in-Some.is) in omega (arith, lt, c.self.inside.seats.ok.0)

pub put_image-requires : goal.put_image-requires
put_image-requires c = (seat-has c.self.inside.places c.self.inside.seats.items c.args.self.now c.args.terminal c.self.view_is c.self.invariant.places_are c.in-Some.place (sym c.get.ensures.value ∙ sym c.copied.ensures ∙ c.in-Some.is) c.index_mut-seat.result.now c.index_mut-seat.ensures.value (stands_for c.args.image) c.requires)

pub recount-self-inside-requires-clause-counted : goal.recount-self-inside-requires-clause-counted
recount-self-inside-requires-clause-counted c =
    rw c.is_waiting-waited.ensures (counted-seat c.self.inside.places c.self.inside.seats.items c.args.self.now c.args.terminal c.self.view_is c.self.invariant.places_are c.in-Some.place (sym c.get.ensures.value ∙ sym c.copied.ensures ∙ c.in-Some.is) c.index_mut-seat.result.now c.index_mut-seat.ensures.value is_waiting c.self.inside.waiting c.self.invariant.waits)

pub recount-self-inside-requires-clause-room : goal.recount-self-inside-requires-clause-room
recount-self-inside-requires-clause-room c =
    let own = room-seat c.self.inside.places c.self.inside.seats.items c.args.self.now c.args.terminal c.self.view_is c.self.invariant.places_are c.in-Some.place (sym c.get.ensures.value ∙ sym c.copied.ensures ∙ c.in-Some.is) c.index_mut-seat.result.now c.index_mut-seat.ensures.value is_waiting c.self.inside.waiting c.put_image.new.self c.self.invariant.waits in
    omega (arith, own, ap {B = ℕ} (λ b. cond b 1 0) c.is_waiting-waited.ensures, ap {B = ℕ} (λ b. cond b 1 0) c.is_waiting-waits.ensures, c.len.ensures, c.self.inside.seats.ok.0)

pub invariant_of-self : goal.invariant_of-self
invariant_of-self c =
    kept-seat c.self.inside.places c.self.inside.seats.items c.args.self.now c.args.terminal c.self.view_is c.self.invariant.places_are c.in-Some.place (sym c.get.ensures.value ∙ sym c.copied.ensures ∙ c.in-Some.is) c.index_mut-seat.result.now c.index_mut-seat.ensures.value
    c.self.inside.lacking c.self.inside.lacking c.self.inside.waiting _ c.put_image.new.self c.self.invariant (ap (λ s. s.terminal) c.put_image.ensures)
    (λ h. ap is_sound c.put_image.ensures ∙ built-sound c.index_mut-seat.result.now h)
    (same-count c.self.inside.lacking (is_lacking c.index_mut-seat.result.now) (is_lacking c.put_image.new.self) (ap is_lacking c.put_image.ensures))
    (told-count _ _ _ _ _ _ c.recount-self-inside.ensures c.is_waiting-waited.ensures c.is_waiting-waits.ensures)

pub returns : goal.returns
returns c =
    changed-seat c.self.inside.places c.self.inside.seats.items c.args.self.now c.args.terminal c.self.view_is c.self.invariant.places_are c.in-Some.place (sym c.get.ensures.value ∙ sym c.copied.ensures ∙ c.in-Some.is) c.index_mut-seat.result.now c.index_mut-seat.ensures.value
    built c.put_image.new.self c.put_image.ensures
