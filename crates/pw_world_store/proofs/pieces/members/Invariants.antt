use Rattle.std.proofs.Common.{◌≡◌, map, take}
use Rattle.pw_world_store.proofs.pieces.members.Given as goal

abbrev pub invariant-loop-seat : goal.invariant-loop-seat
invariant-loop-seat l = l.terminals.items ≡ map (λ seat. seat.terminal) (take l.seat-index l.seats)
