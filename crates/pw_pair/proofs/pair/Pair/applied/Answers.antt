-- There is room as before.
use Rattle.pw_pair.specs.Seats.{applied}
use Rattle.pw_pair.proofs.Room.{applied-calm, applied-used, room-at}
use Rattle.pw_pair.proofs.pair.Pair.applied.Goals as goal

pub invariant_of-self : goal.invariant_of-self
invariant_of-self c =
    room-at c.self.inside.mode c.args.terminal applied c.self.inside.seats c.apply.new.self c.self.inside.room applied-used applied-calm c.self.invariant c.apply.ensures
