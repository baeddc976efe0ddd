use Rattle.std.proofs.Common.{◌≡◌, map, take}
use Rattle.pw_world_store.specs.Starting.{seat_for}
use Rattle.pw_world_store.proofs.starting.first_seats.Given as goal

abbrev pub invariant-loop-terminal : goal.invariant-loop-terminal
invariant-loop-terminal l = l.seats.items ≡ map (seat_for l.system) (take l.terminal-index l.system.terminals)
