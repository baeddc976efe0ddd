-- What is still to be added leads to all seats.
use Rattle.std.proofs.Common.{◌≡◌, [], drop}
use Rattle.pw_pair.specs.Seats.{seats_with}
use Rattle.pw_pair.proofs.seats.Seats.new.Given as goal

abbrev pub invariant-loop-terminal : goal.invariant-loop-terminal
invariant-loop-terminal l = seats_with l.seats (drop l.terminal-index l.terminals) ≡ seats_with [] l.terminals
