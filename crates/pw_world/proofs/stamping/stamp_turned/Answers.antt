use Rattle.pw_world.proofs.Stamped.{members-placed}
use Rattle.pw_world.proofs.stamping.stamp_turned.Goals as goal

pub stamp_pair-requires-clause-members : goal.stamp_pair-requires-clause-members
stamp_pair-requires-clause-members g c =
    members-placed c.args.keep.now.system c.known_parts.ensures.valid c.in-Tcp.tcp c.pair.result.now.seats c.pair.ensures.members.each
