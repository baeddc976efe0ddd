use Rattle.std.proofs.Common.{◌≡◌, ◌∙◌, Some, ap, sym}
use Rattle.std.specs.Option.{option_copied}
use Rattle.std.specs.Prelude.{find}
use Rattle.pw_pair.specs.Pairs.{passes}
use Rattle.pw_pair.specs.Seats.{is_waiting}
use Rattle.pw_world.proofs.Lending.{own-seat, waits}
use Rattle.pw_world.proofs.lend.first_terminal.Goals as goal

pub returns-in-Some-clause-waits : goal.returns-in-Some-clause-waits
returns-in-Some-clause-waits c =
    let seats = c.args.pair.now.seats in
    let seat = c.in-Some.seat.now in
    let found : find is_waiting seats ≡ Some seat =
    sym c.first_waiting.ensures ∙ ap option_copied c.in-Some.is in
    ap (passes is_waiting) (own-seat is_waiting seats seat c.requires found) ∙ waits seats seat found
