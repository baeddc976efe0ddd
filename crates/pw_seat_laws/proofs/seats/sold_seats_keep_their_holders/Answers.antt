use Rattle.std.proofs.Common.{◌++◌}
use Rattle.pw_invariants.proofs.Runs.{history-committed, history-reported, kept-between, throughout}
use Rattle.pw_invariants.proofs.Servers.{servers-keep}
use Rattle.pw_paired.specs.Step.{after}
use Rattle.pw_paired.specs.Units.{committed_files}
use Rattle.pw_seat_laws.proofs.Rows.{keeps-itself}
use Rattle.pw_seat_laws.proofs.seats.sold_seats_keep_their_holders.Goals as goal
use Rattle.pw_seat_laws.specs.Seats.{KeepsSeats}
use Rattle.pw_seat_laws.specs.Servers.{seat_deck}
use Rattle.pw_tree_meaning.specs.OfDeck.{behaviour}

pub returns-clause-onwards : goal.returns-clause-onwards
returns-clause-onwards c = λ rule choices sound log more run.
    let sys = behaviour rule (seat_deck choices) in
    let is = c.deck_laws.ensures rule (seat_deck choices) sound in
    let before = committed_files sys (after sys log) 0 in
    let keeps = c.seat_servers_keep_seats.ensures rule choices before in
    kept-between sys is (λ records. KeepsSeats before (records 0)) (servers-keep sys is (λ records. KeepsSeats before (records 0)) keeps) log more
    (c.runs_are_serializable.ensures sys is log (throughout sys log more run)) (c.runs_are_serializable.ensures sys is (log ++ more) run) (keeps-itself before)

pub returns-clause-committed : goal.returns-clause-committed
returns-clause-committed c = λ rule choices sound log run.
    let sys = behaviour rule (seat_deck choices) in
    let is = c.deck_laws.ensures rule (seat_deck choices) sound in
    let before = sys.records 0 in
    let keeps = c.seat_servers_keep_seats.ensures rule choices before in
    history-committed sys is (λ done records. KeepsSeats before (records 0)) (λ done. servers-keep sys is (λ records. KeepsSeats before (records 0)) keeps) (keeps-itself before)
    log (c.runs_are_serializable.ensures sys is log run)

pub returns-clause-reported : goal.returns-clause-reported
returns-clause-reported c = λ rule choices sound log run.
    let sys = behaviour rule (seat_deck choices) in
    let is = c.deck_laws.ensures rule (seat_deck choices) sound in
    let before = sys.records 0 in
    let keeps = c.seat_servers_keep_seats.ensures rule choices before in
    history-reported sys is (λ done records. KeepsSeats before (records 0)) (λ done. servers-keep sys is (λ records. KeepsSeats before (records 0)) keeps) (keeps-itself before)
    log (c.runs_are_serializable.ensures sys is log run)
