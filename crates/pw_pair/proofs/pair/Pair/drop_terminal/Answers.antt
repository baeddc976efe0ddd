-- There is room as before.
use Rattle.pw_pair.specs.Seats.{dropped}
use Rattle.pw_pair.proofs.Room.{dropped-calm, dropped-used, room-at}
use Rattle.pw_pair.proofs.pair.Pair.drop_terminal.Goals as goal

pub invariant_of-self : goal.invariant_of-self
invariant_of-self c =
    room-at c.self.inside.mode c.args.terminal dropped c.self.inside.seats c.drop_terminal.new.self c.self.inside.room dropped-used dropped-calm c.self.invariant c.drop_terminal.ensures
