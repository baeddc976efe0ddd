-- Those so far are counted.
use Rattle.std.proofs.Common.{◌≡◌, ◌&&◌, take}
use Rattle.std.specs.Prelude.{◌==◌, count_by}
use Rattle.pw_status.specs.declared.attempts.AttemptSeat.{AttemptSeat}
use Rattle.pw_status.proofs.attempts.running_of_pair.Given as goal

abbrev pub invariant-loop-seat : goal.invariant-loop-seat
invariant-loop-seat l = l.count ≡ count_by (λ (seat : AttemptSeat). seat.tcp == l.tcp && seat.runs) (take l.seat-index l.seats)
