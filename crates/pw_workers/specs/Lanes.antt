-- The task that waits on a lane.
use Rattle.std.specs.Prelude.{Option, None, Some}
use Rattle.pw_link.specs.Lanes.{message_of}
use Rattle.pw_link.specs.declared.types.Receipt.{Receipt}

-- the message of a receipt, if there is one
abbrev pub waiting_in : {M : Type 0} → Option (Receipt M) → Option M
waiting_in None = None
waiting_in (Some receipt) = message_of receipt
