-- What is left leads to the whole, is sound, and leaves room.
use Rattle.std.proofs.Common.{◌≡◌, ◌+◌, ◌≤◌, true, map}
use Rattle.std.specs.Prelude.{vec_len, vec_capacity, count_by}
use Rattle.std.specs.List.{list_all}
use Rattle.pw_pair.specs.Rooms.{is_used}
use Rattle.pw_pair.specs.Seats.{held_is_sound, put_each}
use Rattle.pw_pair.proofs.seats.Seats.put_all.Given as goal

abbrev pub invariant-loop-held : goal.invariant-loop-held
invariant-loop-held l = record {
  leads : map (put_each l.images.items) l.self ≡ map (put_each l.initial.images.items) l.initial.self;
  sound : list_all held_is_sound l.images.items ≡ true;
  room : count_by is_used l.self + vec_len l.images ≤ vec_capacity l.images;
}

abbrev pub decreases-loop-held : goal.decreases-loop-held
decreases-loop-held l = vec_len l.images
