use Rattle.std.proofs.Common.{◌≡◌, ◌++◌, List, Some, ap, sym, ◌∙◌}
use Rattle.std.specs.Prelude.{slice_get}
use Rattle.pw_serial_order.specs.Entries.{terminal_in}
use Rattle.pw_serial_order.specs.declared.block.Block.{Block}
use Rattle.pw_serial_order.specs.declared.seat.OrderSeat.{OrderSeat}
use Rattle.pw_serial_order.proofs.Tables.{gives_at, kept_at}
use Rattle.pw_serial_order.proofs.seats.read_seat.Goals as goal

pub returns-clause-kept : goal.returns-clause-kept
returns-clause-kept c =
    let there : slice_get c.args.seats.now.items c.in-Some.terminal ≡ Some c.in-Some-seat_at.seat =
    ap (λ (l : List OrderSeat). slice_get l c.in-Some.terminal) (sym c.as_slice.ensures.value) ∙ (sym c.seat_at.ensures ∙ c.in-Some-seat_at.is) in
    c.put_seat.ensures
    ∙ kept_at c.args.entry.now c.args.one_send (terminal_in c.args.entry.now) c.in-Some.terminal c.args.seats.now.items c.in-Some-seat_at.seat c.in_ok-next.next
    (sym c.terminal_in.ensures ∙ c.in-Some.is) there c.in_ok-next.ensures

pub returns-clause-order : goal.returns-clause-order
returns-clause-order c =
    let there : slice_get c.args.seats.now.items c.in-Some.terminal ≡ Some c.in-Some-seat_at.seat =
    ap (λ (l : List OrderSeat). slice_get l c.in-Some.terminal) (sym c.as_slice.ensures.value) ∙ (sym c.seat_at.ensures ∙ c.in-Some-seat_at.is) in
    c.in_ok-put.ensures.ok
    ∙ ap (λ (l : List Block). c.args.order.now.items ++ l)
    (gives_at c.args.entry.now (terminal_in c.args.entry.now) c.in-Some.terminal c.args.seats.now.items c.in-Some-seat_at.seat _
    (sym c.terminal_in.ensures ∙ c.in-Some.is) there c.in_ok-seat_gives.ensures)
