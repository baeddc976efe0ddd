-- The memory of those so far is moved, and there is room for the others'.
use Rattle.std.proofs.Common.{◌≡◌, ◌+◌, ◌≤◌, ◌++◌, map, take, drop}
use Rattle.std.specs.Prelude.{vec_len, vec_capacity, count_by}
use Rattle.pw_pair.specs.Pairs.{memory_of}
use Rattle.pw_pair.specs.Rooms.{is_used}
use Rattle.pw_pair.specs.Seats.{without_backup}
use Rattle.pw_pair.proofs.seats.move_memory.Given as goal

abbrev pub invariant-loop-seat : goal.invariant-loop-seat
invariant-loop-seat l = record {
  seats : l.seat-items ≡ map without_backup (take l.seat-index l.initial.seat-items) ++ drop l.seat-index l.initial.seat-items;
  images : l.images.items ≡ l.initial.images.items ++ memory_of (take l.seat-index l.initial.seat-items);
  room : vec_len l.images + count_by is_used (drop l.seat-index l.initial.seat-items) ≤ vec_capacity l.images;
}
