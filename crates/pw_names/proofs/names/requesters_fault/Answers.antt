use Rattle.pw_names.specs.Order.{first}
use Rattle.pw_names.specs.Faults.{program_faults}
use Rattle.pw_names.specs.Names.{requester_program, requester_faults}
use Rattle.pw_names.proofs.Noted.{first-further}
use Rattle.pw_names.proofs.names.requesters_fault.Goals as goal

pub loop-requester-preserved : goal.loop-requester-preserved
loop-requester-preserved c =
    let outside = c.args.outside.now in
    first-further (λ one. program_faults (requester_program outside.usings outside.links one)) c.args.requesters.now c.loop-requester.requester-index c.requester-item.result c.loop-requester.found c.in_ok-found.found
    (first c.args.known (requester_faults outside.usings outside.links c.args.requesters.now)) c.loop-requester-test.true c.requester-item.is c.in_ok-found.ensures c.loop-requester.invariant
