-- What an entry gives, and what it leaves of what is kept.
use Rattle.std.specs.Prelude.{ℕ, zero, suc, ◌+◌, Bool, true, false, List, [], ◌∷◌, ◌++◌, length, slice_get, slice_set, Option, Some, None, if◌then◌else◌}
use Rattle.pw_event.specs.declared.event.Ending.{Ending}
use Rattle.pw_event.specs.declared.event.Ending.TheVariants as ending
use Rattle.pw_event.specs.declared.event.Event.{Event}
use Rattle.pw_event.specs.declared.event.Event.TheVariants.{Show, Key, CheckStart, CheckEnd, CheckCopy, Applied, Begin, Reply, Again, Commit, Back, Restart, FailTcp, Takeover, Raise, End}
use Rattle.pw_serial_order.specs.Pairs.{is_seat_of_pair, lacks, loss_of, mode_behind, of_pair, seat_behind_loss}
use Rattle.pw_serial_order.specs.Seats.{again, path_answered, applied, attempt_begun, check_copy, check_end, check_start, done, unit_closed, is_new, send_replied, attempt_restarted, resumed, without_memory}
use Rattle.pw_serial_order.specs.declared.block.Block.{Block}
use Rattle.pw_serial_order.specs.declared.block.Block.TheVariants.{Out, Ended, Done}
use Rattle.pw_serial_order.specs.declared.block.How.TheVariants.{Commit as committed, Dropped, Restart as restart, Left}
use Rattle.pw_serial_order.specs.declared.mark.PathMark.{PathMark}
use Rattle.pw_serial_order.specs.declared.pair.Loss.{Loss}
use Rattle.pw_serial_order.specs.declared.pair.Loss.TheVariants.{Nothing, Primary, Backup, Pair}
use Rattle.pw_serial_order.specs.declared.pair.OrderMode.{OrderMode}
use Rattle.pw_serial_order.specs.declared.pair.OrderMode.TheVariants.{Alone, Backed}
use Rattle.pw_serial_order.specs.declared.seat.MarkedUnit.{MarkedUnit}
use Rattle.pw_serial_order.specs.declared.seat.OrderSeat.{OrderSeat}

-- what contracts see of an order: what is kept of each terminal and of each pair
pub record Shadow : Type 0 where
  pub seats : List OrderSeat
  pub modes : List OrderMode

-- the terminal whose seat alone an entry may change, if there is one
abbrev pub terminal_in : Event → Option ℕ
terminal_in (Show t phase attempt k) = Some t
terminal_in (Key t k) = Some t
terminal_in (CheckStart t) = Some t
terminal_in (CheckEnd t) = Some t
terminal_in (CheckCopy t) = Some t
terminal_in (Applied t) = Some t
terminal_in (Begin t n r) = Some t
terminal_in (Reply c i t fault) = Some t
terminal_in (Again t n) = Some t
terminal_in (Commit t n) = Some t
terminal_in (Back t n) = Some t
terminal_in (Restart t n cause) = Some t
terminal_in (End t ending) = Some t
terminal_in _ = None

-- an ending with which an open unit is left
abbrev pub leaves : Ending → Bool
leaves ending.Stopped = false
leaves ending.NoEntries = true
leaves (ending.Fault x) = true
leaves (ending.Suspended cause) = true
leaves ending.Lost = false

-- behind a REPLY
abbrev pub seat_behind_reply : Option ℕ → OrderSeat → OrderSeat
seat_behind_reply None seat = send_replied seat
seat_behind_reply (Some x) seat = path_answered seat

-- the seat of its terminal behind an entry; a BEGIN is of one SEND or begins with Begun
abbrev pub seat_behind : Bool → Event → OrderSeat → OrderSeat
seat_behind one_send (Show t phase attempt k) seat = path_answered seat
seat_behind one_send (Key t k) seat = path_answered seat
seat_behind one_send (CheckStart t) seat = check_start seat
seat_behind one_send (CheckEnd t) seat = check_end seat
seat_behind one_send (CheckCopy t) seat = check_copy seat
seat_behind one_send (Applied t) seat = applied seat
seat_behind one_send (Begin t n r) seat = attempt_begun n one_send seat
seat_behind one_send (Reply c i t fault) seat = seat_behind_reply fault seat
seat_behind one_send (Again t n) seat = again seat
seat_behind one_send (Commit t n) seat = unit_closed n seat
seat_behind one_send (Back t n) seat = unit_closed n seat
seat_behind one_send (Restart t n cause) seat = attempt_restarted seat
seat_behind one_send (End t ending) seat = done (leaves ending) seat
seat_behind one_send _ seat = seat

-- a SHOW or KEY
abbrev pub out_given : ℕ → OrderSeat → List Block
out_given t seat = if is_new seat then Out t ∷ [] else []

-- a REPLY
abbrev pub reply_given : ℕ → Option ℕ → OrderSeat → List Block
reply_given t None seat =
    if seat.path.within then [] else Ended t (seat.path.ended + 1) committed ∷ []
reply_given t (Some x) seat = []

-- an attempt that runs is left
abbrev pub attempt_left : ℕ → ℕ → Option PathMark → List Block
attempt_left t n None = []
attempt_left t n (Some start) = Ended t n Left ∷ []

-- the same of an open unit, if there is one
abbrev pub unit_left : ℕ → Option MarkedUnit → List Block
unit_left t None = []
unit_left t (Some unit) = attempt_left t unit.number unit.running

-- the blocks of an entry of the terminal, from its seat before
abbrev pub seat_gives : Event → ℕ → OrderSeat → List Block
seat_gives (Show own phase attempt k) t seat = out_given t seat
seat_gives (Key own k) t seat = out_given t seat
seat_gives (Reply c i own fault) t seat = reply_given t fault seat
seat_gives (Commit own n) t seat = Ended t n committed ∷ []
seat_gives (Back own n) t seat = Ended t n Dropped ∷ []
seat_gives (Restart own n cause) t seat = Ended t n restart ∷ []
seat_gives (End own ending) t seat = unit_left t seat.unit ++ Done t ending ∷ []
seat_gives _ t seat = []

-- the same where the terminal is kept
abbrev pub given_at : Event → ℕ → Option OrderSeat → List Block
given_at entry t None = []
given_at entry t (Some seat) = seat_gives entry t seat

-- the running attempt of a seat is left, where it is one of these
abbrev pub left_at : (OrderSeat → Bool) → ℕ → Option OrderSeat → List Block
left_at whose t None = []
left_at whose t (Some seat) = if whose seat then unit_left t seat.unit else []

-- the same of the first n, in order
abbrev pub left_to : (OrderSeat → Bool) → List OrderSeat → ℕ → List Block
left_to whose seats zero = []
left_to whose seats (suc t) = left_to whose seats t ++ left_at whose t (slice_get seats t)

-- the same of all
abbrev pub all_left : (OrderSeat → Bool) → List OrderSeat → List Block
all_left whose seats = left_to whose seats (length seats)

-- what a pair loses when a member fails, nothing where it is not kept
abbrev pub loss_in : Option OrderMode → Bool → Bool → Loss
loss_in None primary lacking = Nothing
loss_in (Some mode) primary lacking = loss_of mode primary lacking

-- what the pair of this number loses when a member of it fails
abbrev pub loss_at : Shadow → ℕ → Bool → Loss
loss_at shadow p primary = loss_in (slice_get shadow.modes p) primary (lacks p shadow.seats)

-- the running attempts of a pair that is lost are left
abbrev pub loss_gives : Loss → ℕ → List OrderSeat → List Block
loss_gives Nothing p seats = []
loss_gives Primary p seats = []
loss_gives Backup p seats = []
loss_gives Pair p seats = all_left (is_seat_of_pair (Some p)) seats

-- the same of an entry by its terminal, if it has one
abbrev pub terminal_gives : Event → Option ℕ → List OrderSeat → List Block
terminal_gives entry None seats = []
terminal_gives entry (Some t) seats = given_at entry t (slice_get seats t)

-- the blocks that an entry gives
abbrev pub blocks_given : Shadow → Event → List Block
blocks_given shadow (FailTcp p primary k) = loss_gives (loss_at shadow p primary) p shadow.seats
blocks_given shadow entry = terminal_gives entry (terminal_in entry) shadow.seats

-- a list with the item at a place changed, if there is one
abbrev pub changed_in : {A : Type 0} → Option A → ℕ → (A → A) → List A → List A
changed_in None place change items = items
changed_in (Some item) place change items = slice_set items place (change item)

-- a list with the item at a place changed
abbrev pub changed_at : {A : Type 0} → ℕ → (A → A) → List A → List A
changed_at place change items = changed_in (slice_get items place) place change items

-- the seats behind an entry of a terminal
abbrev pub seats_behind : Bool → Event → Option ℕ → List OrderSeat → List OrderSeat
seats_behind one_send entry None seats = seats
seats_behind one_send entry (Some t) seats = changed_at t (seat_behind one_send entry) seats

-- what is kept behind a loss
abbrev pub shadow_behind_loss : Loss → ℕ → Shadow → Shadow
shadow_behind_loss loss p shadow = record {
  seats = of_pair p (seat_behind_loss loss) shadow.seats;
  modes = changed_at p (mode_behind loss) shadow.modes;
}

-- what is kept behind an entry
abbrev pub shadow_behind : Bool → Event → Shadow → Shadow
shadow_behind one_send (FailTcp p primary k) shadow =
    shadow_behind_loss (loss_at shadow p primary) p shadow
shadow_behind one_send (Takeover p) shadow = record {
  seats = of_pair p resumed shadow.seats;
  modes = changed_at p (λ mode. Alone) shadow.modes;
}
shadow_behind one_send (Raise p) shadow = record {
  seats = of_pair p without_memory shadow.seats;
  modes = changed_at p (λ mode. Backed) shadow.modes;
}
shadow_behind one_send entry shadow =
    record shadow { seats = seats_behind one_send entry (terminal_in entry) shadow.seats }
