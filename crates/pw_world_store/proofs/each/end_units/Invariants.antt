-- What is left to be changed leads to all.
use Rattle.std.proofs.Common.{◌≡◌, drop, length}
use Rattle.pw_world_store.specs.Each.{changed_each}
use Rattle.pw_world_store.specs.Seats.{seat_unit_over}
use Rattle.pw_world_store.proofs.each.end_units.Given as goal

abbrev pub invariant-loop-terminal : goal.invariant-loop-terminal
invariant-loop-terminal l = record {
  leads : changed_each (λ t. seat_unit_over) (drop l.terminal-index l.terminals) l.seats.items ≡ changed_each (λ t. seat_unit_over) l.terminals l.initial.seats.items;
  size : length l.seats.items ≡ length l.initial.seats.items;
}
