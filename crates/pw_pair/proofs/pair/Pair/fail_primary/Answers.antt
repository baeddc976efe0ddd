-- Nothing is in flight any more, and there is room for what is held.
use Rattle.std.proofs.Common.{List, ap, map, subst, ◌∙◌, arith}
use Rattle.std.specs.List.{count_by, list_any}
use Rattle.std.specs.Prelude.{vec_capacity}
use Rattle.std.proofs.lemmas.List.{length-map}
use Rattle.std.proofs.lemmas.List.Sums.{count_by-le-length}
use Rattle.pw_pair.specs.Rooms.{FitsIn, is_used}
use Rattle.pw_pair.specs.Seats.{is_flying, without_flight}
use Rattle.pw_pair.specs.declared.mode.Mode.{Mode}
use Rattle.pw_pair.specs.declared.mode.Mode.TheVariants.{Paired}
use Rattle.pw_pair.specs.declared.seat.BackupSeat.{BackupSeat}
use Rattle.pw_pair.proofs.Room.{none-flies}
use Rattle.pw_pair.proofs.pair.Pair.fail_primary.Goals as goal

pub invariant_of-self : goal.invariant_of-self
invariant_of-self c =
    let seats = c.self.inside.seats in
    let room = c.self.inside.room in
    record {
      empty = c.self.invariant.empty;
      fits =
          let paired : FitsIn Paired seats (vec_capacity room) = subst (λ (m : Mode). FitsIn m seats (vec_capacity room)) c.in-Paired.is c.self.invariant.fits in
          let same = ap (λ (l : List BackupSeat). count_by is_used l) c.drop_flights.ensures in
          let most = count_by-le-length is_used (map without_flight seats) in
          let size = length-map seats without_flight in
          omega (arith, paired, same, most, size);
      still = ap (list_any is_flying) c.drop_flights.ensures ∙ none-flies seats;
    }
