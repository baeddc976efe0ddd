-- There is room as before.
use Rattle.pw_pair.specs.Seats.{built}
use Rattle.pw_pair.proofs.Room.{built-calm, built-used, room-at}
use Rattle.pw_pair.proofs.pair.Pair.give_back.Goals as goal

pub invariant_of-self : goal.invariant_of-self
invariant_of-self c =
    room-at c.self.inside.mode c.task.inside.terminal built c.self.inside.seats c.put_image.new.self c.self.inside.room built-used built-calm c.self.invariant c.put_image.ensures
