-- Room for the memory of a pair when it leaves.
use Rattle.std.specs.Global.{Vec}
use Rattle.std.specs.List.{list_any}
use Rattle.std.specs.Prelude.{◌≡◌, ◌≤◌, ℕ, ◌||◌, Bool, false, is_some, List, [], length, count_by, vec_capacity}
use Rattle.pw_pair.specs.Seats.{is_flying}
use Rattle.pw_pair.specs.declared.backup.Held.{Held}
use Rattle.pw_pair.specs.declared.message.CheckKind.{CheckKind}
use Rattle.pw_pair.specs.declared.message.CheckKind.TheVariants.{Start, End, Copy}
use Rattle.pw_pair.specs.declared.mode.Mode.{Mode}
use Rattle.pw_pair.specs.declared.mode.Mode.TheVariants.{Alone, Raising, Paired, Down, Gone}
use Rattle.pw_pair.specs.declared.seat.BackupSeat.{BackupSeat}

-- something of the terminal is in memory or in flight
abbrev pub is_used : BackupSeat → Bool
is_used seat = is_some seat.memory || is_some seat.flight

-- Where the memory grows, there is room for each terminal; where it waits to be taken, for what is held.
abbrev pub FitsIn : Mode → List BackupSeat → ℕ → Type 0
FitsIn Raising seats capacity = length seats ≤ capacity
FitsIn Paired seats capacity = length seats ≤ capacity
FitsIn Down seats capacity = count_by is_used seats ≤ capacity
FitsIn Alone seats capacity = Unit {0}
FitsIn Gone seats capacity = Unit {0}

-- COPY is sent in Raising, START and END in Paired
abbrev pub MaySend : Mode → CheckKind → Type 0
MaySend Raising Copy = Unit {0}
MaySend Paired Start = Unit {0}
MaySend Paired End = Unit {0}
MaySend _ _ = ⊥

-- the modes without a memory
abbrev pub NeedsNoRoom : Mode → Type 0
NeedsNoRoom Alone = Unit {0}
NeedsNoRoom Gone = Unit {0}
NeedsNoRoom _ = ⊥

-- where the memory waits to be taken, nothing is in flight
abbrev pub IsStill : Mode → List BackupSeat → Type 0
IsStill Raising seats = Unit {0}
IsStill Paired seats = Unit {0}
IsStill Down seats = list_any is_flying seats ≡ false
IsStill Alone seats = Unit {0}
IsStill Gone seats = Unit {0}

-- there is room, nothing is in it, and nothing is in flight where the memory waits to be taken
pub record HasEmptyRoom (mode : Mode) (seats : List BackupSeat) (room : Vec Held) : Type 0 where
  pub empty : room.items ≡ []
  pub fits : FitsIn mode seats (vec_capacity room)
  pub still : IsStill mode seats
