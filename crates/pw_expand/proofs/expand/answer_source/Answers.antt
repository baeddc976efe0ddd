use Rattle.pw_expand.proofs.Long.{too-long}
use Rattle.pw_expand.proofs.expand.answer_source.Goals as goal

pub returns-in_ok-fault_line-in-Err-TooLong-clause-ok :
    goal.returns-in_ok-fault_line-in-Err-TooLong-clause-ok
returns-in_ok-fault_line-in-Err-TooLong-clause-ok g c =
    let reads = rw c.in-Err-TooLong.field-0-is at c.in-Err-TooLong.ensures.reads in
    too-long (g.S.Source.left c.args.source.now) _ reads.0 _ reads.1 reads.2 c.in_ok-fault_line-in-Err-TooLong.ensures
