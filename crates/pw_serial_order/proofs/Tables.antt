-- An entry of a terminal, by its seat.
use Rattle.std.proofs.Common.{◌≡◌, ℕ, zero, suc, ◌+◌, ◌<◌, Bool, List, [], ◌∷◌, ◌++◌, length, map, take, drop, get_or, arith, Option, Some, None, add-one, append_assoc, ap, sym, ◌∙◌}
use Rattle.std.proofs.Math.ListN.{set}
use Rattle.std.specs.Prelude.{slice_get, slice_set}
use Rattle.pw_event.specs.declared.event.Event.{Event}
use Rattle.pw_serial_order.specs.Entries.{changed_in, given_at, left_at, left_to, seat_behind, seat_gives, seats_behind, terminal_gives}
use Rattle.pw_serial_order.specs.declared.block.Block.{Block}
use Rattle.pw_serial_order.specs.declared.seat.OrderSeat.{OrderSeat}

-- the seats behind it
pub kept_at : (entry : Event) (one_send : Bool) (found : Option ℕ) (t : ℕ) (seats : List OrderSeat) (seat next : OrderSeat)
    → found ≡ Some t → slice_get seats t ≡ Some seat → next ≡ seat_behind one_send entry seat → slice_set seats t next ≡ seats_behind one_send entry found seats
kept_at entry one_send found t seats seat next is there behind =
    ap (slice_set seats t) behind
    ∙ (ap (λ (o : Option OrderSeat). changed_in o t (seat_behind one_send entry) seats) (sym there) ∙ ap (λ (o : Option ℕ). seats_behind one_send entry o seats) (sym is))

-- its blocks
pub gives_at : (entry : Event) (found : Option ℕ) (t : ℕ) (seats : List OrderSeat) (seat : OrderSeat) (blocks : List Block)
    → found ≡ Some t → slice_get seats t ≡ Some seat → blocks ≡ seat_gives entry t seat → blocks ≡ terminal_gives entry found seats
gives_at entry found t seats seat blocks is there gives =
    gives ∙ (ap (given_at entry t) (sym there) ∙ ap (λ (o : Option ℕ). terminal_gives entry o seats) (sym is))

-- nothing where no seat is kept
pub kept_none : (entry : Event) (one_send : Bool) (found : Option ℕ) (t : ℕ) (seats : List OrderSeat) → found ≡ Some t → slice_get seats t ≡ None → seats ≡ seats_behind one_send entry found seats
kept_none entry one_send found t seats is none =
    ap (λ (o : Option OrderSeat). changed_in o t (seat_behind one_send entry) seats) (sym none) ∙ ap (λ (o : Option ℕ). seats_behind one_send entry o seats) (sym is)

pub gives_none : (entry : Event) (found : Option ℕ) (t : ℕ) (seats : List OrderSeat) → found ≡ Some t → slice_get seats t ≡ None → [] ≡ terminal_gives entry found seats
gives_none entry found t seats is none = ap (given_at entry t) (sym none) ∙ ap (λ (o : Option ℕ). terminal_gives entry o seats) (sym is)

-- the blocks of one terminal more
pub left_more : (whose : OrderSeat → Bool) (seats : List OrderSeat) (t : ℕ) (at : Option OrderSeat) (before so_far behind : List Block) → at ≡ slice_get seats t
    → so_far ≡ before ++ left_to whose seats t → behind ≡ so_far ++ left_at whose t at → behind ≡ before ++ left_to whose seats (t + 1)
left_more whose seats t at before so_far behind there so is =
    rw add-one
    (is ∙ (ap (λ (l : List Block). l ++ left_at whose t at) so
    ∙ (append_assoc before (left_to whose seats t) (left_at whose t at)
    ∙ ap (λ (o : Option OrderSeat). before ++ (left_to whose seats t ++ left_at whose t o)) there)))

set-step : (g : OrderSeat → OrderSeat) (first : List OrderSeat) (i : ℕ) (x d : OrderSeat) → i < length first → x ≡ g (get_or (map g (take i first) ++ drop i first) i d)
    → set (map g (take i first) ++ drop i first) i x ≡ map g (take (suc i) first) ++ drop (suc i) first
set-step g [] i x d within is = absurd (omega arith)
set-step g (a ∷ first) zero x d within is = ap (λ (y : OrderSeat). y ∷ first) is
set-step g (a ∷ first) (suc i) x d within is = ap (λ (l : List OrderSeat). g a ∷ l) (set-step g first i x d (omega arith) is)

-- one seat more is changed
pub each_step : (g : OrderSeat → OrderSeat) (items first : List OrderSeat) (i : ℕ) (x d : OrderSeat) → items ≡ map g (take i first) ++ drop i first → i < length first → x ≡ g (get_or items i d)
    → set items i x ≡ map g (take (i + 1) first) ++ drop (i + 1) first
each_step g items first i x d so within is =
    rw add-one
    (ap (λ (l : List OrderSeat). set l i x) so ∙ set-step g first i x d within (is ∙ ap (λ (l : List OrderSeat). g (get_or l i d)) so))
