use Rattle.pw_seat_laws.proofs.Steps.{servers-keep-seats}
use Rattle.pw_seat_laws.proofs.seats.seat_servers_keep_seats.Goals as goal

pub returns : goal.returns
returns c = λ rule choices before. servers-keep-seats rule choices before
