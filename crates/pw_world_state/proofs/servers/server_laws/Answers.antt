use Rattle.pw_world_state.proofs.Replying.{failed-reply, replied, replied-last}
use Rattle.pw_world_state.proofs.Served.{fails-stands, file-stands, take-stands}
use Rattle.pw_world_state.proofs.servers.server_laws.Goals as goal

pub returns-clause-take : goal.returns-clause-take
returns-clause-take c system script state kept class i t info new stands here legal starts =
    take-stands system script state kept class i info legal.request legal.others new stands here legal.first legal.free starts

pub returns-clause-file : goal.returns-clause-file
returns-clause-file c system script state kept class i op mode f status info own start new stands here legal is_open runs goes =
    file-stands system script state kept class i info legal.job legal.call own start new stands here legal.at_work legal.asks is_open runs goes

pub returns-clause-reply : goal.returns-clause-reply
returns-clause-reply c system script state kept class i t info terminal new stands here there legal inside path =
    replied system script state kept class i info legal.job stands here legal.at_work t terminal there new inside path

pub returns-clause-reply_ends : goal.returns-clause-reply_ends
returns-clause-reply_ends c system script state kept class i t info terminal reply new stands here there legal outside is path =
    replied-last system script state kept class i info legal.job stands here legal.at_work t terminal there new reply outside is path

pub returns-clause-fault : goal.returns-clause-fault
returns-clause-fault c system script state kept class i t x info terminal new stands here there legal path =
    failed-reply system script state kept class i info legal.job stands here legal.at_work t terminal there new x path

pub returns-clause-fails : goal.returns-clause-fails
returns-clause-fails c system script state kept class i k info stands here low high = fails-stands system script state kept class i k info stands here low high
