-- What contracts see of the ends of a lane, and of a receipt.
use Rattle.std.specs.Prelude.{ℕ, Option, Some, Result, Ok, Err}
use Rattle.std.specs.declared.alloc.Global.{Global}
use Rattle.atomic_table.specs.declared.badge.Badge.{Badge}
use Rattle.crossbeam_channel.specs.declared.flavors.array.Doing.{Doing}
use Rattle.crossbeam_channel.specs.declared.flavors.array.Key.{Key}
use Rattle.crossbeam_channel.specs.declared.flavors.array.Lockers.{Lockers}
use Rattle.crossbeam_channel.specs.declared.flavors.array.Rounds.{Rounds}
use Rattle.crossbeam_channel.specs.declared.flavors.array.Rows.{Rows}
use Rattle.crossbeam_channel.specs.declared.flavors.array.Whole.{Whole}
use Rattle.std.specs.Result.{ForOk}
use Rattle.crossbeam_channel.specs.Claims.{Pass, view, IsSeatAt}
use Rattle.crossbeam_channel.specs.Ends.{sends_on}
use Rattle.pw_link.specs.declared.rule.InOrder.{InOrder}
use Rattle.pw_link.specs.declared.rule.PassNote.{PassNote}
use Rattle.pw_link.specs.declared.types.BackupEnd.{BackupEnd}
use Rattle.pw_link.specs.declared.types.PrimaryEnd.{PrimaryEnd}
use Rattle.pw_link.specs.declared.types.Receipt.{Receipt}

-- which lane it is
abbrev pub Lane : Type 0 → Type 0
Lane M = Rows (Badge (Key M)) (Doing M (PassNote M)) (Rounds InOrder) (Option M) (Key M) (Lockers Whole) Global

module _ {M : Type 0} where
  -- the lane of an end
  abbrev pub primary_lane : PrimaryEnd M → Lane M
  primary_lane p = sends_on p.sender

  abbrev pub backup_lane : BackupEnd M → Lane M
  backup_lane b = sends_on b.sender

  -- where the channel has the receipt's message, the channel is this lane's
  abbrev pub IsOn : Receipt M → Lane M → Type 0
  IsOn r lane = ForOk r.place (λ pass. IsSeatAt lane pass)

  -- how many messages the end has sent, and how many it has taken
  abbrev pub sent_count : PrimaryEnd M → ℕ
  sent_count p = p.sent

  abbrev pub taken_count : BackupEnd M → ℕ
  taken_count b = b.taken

  -- the number of the receipt's message on its lane, from 0
  abbrev pub message_number : Receipt M → ℕ
  message_number r = r.number

  -- the message that a pass knows, or that was handed back
  abbrev pub placed : Result (Pass M (PassNote M)) M → Option M
  placed (Ok pass) = (view pass).due
  placed (Err x) = Some x

  -- the receipt's message
  abbrev pub message_of : Receipt M → Option M
  message_of r = placed r.place
