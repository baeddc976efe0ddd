-- Where the seat of each terminal is.
use Rattle.std.specs.Prelude.{◌≡◌, ℕ, ◌<◌, true, List, map, length, slice_index, count_by, Some}
use Rattle.std.specs.BTreeMap.{BTreeMap, get}
use Rattle.std.specs.List.{list_all}
use Rattle.std.specs.Ordering.{nat_cmp}
use Rattle.pw_pair.specs.Seats.{is_lacking, is_sound, is_waiting}
use Rattle.pw_pair.specs.declared.seat.BackupSeat.{BackupSeat}

-- the terminals of seats
abbrev pub terminals_of : List BackupSeat → List ℕ
terminals_of seats = map (λ seat. seat.terminal) seats

-- The map has the place of each terminal of the list, and no other.
pub record ArePlaces (places : BTreeMap ℕ ℕ) (terminals : List ℕ) : Type 0 where
  pub here : (k : ℕ) → k < length terminals
      → get nat_cmp places (slice_index terminals k) ≡ Some k
  pub there : (terminal k : ℕ) → get nat_cmp places terminal ≡ Some k
      → (k < length terminals) × (slice_index terminals k ≡ terminal)

-- What seats keep: each terminal has one, which the map finds; each is sound; so many are of live
-- terminals that the memory lacks; and so many have a message in flight that is not built.
pub record AreSeats (seats : List BackupSeat) (places : BTreeMap ℕ ℕ) (lacking waiting : ℕ) : Type 0 where
  pub places_are : ArePlaces places (terminals_of seats)
  pub sound : list_all is_sound seats ≡ true
  pub lacks : lacking ≡ count_by is_lacking seats
  pub waits : waiting ≡ count_by is_waiting seats
