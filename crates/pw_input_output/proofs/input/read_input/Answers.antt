use Rattle.pw_input_output.proofs.Inputs.{too-long}
use Rattle.pw_input_output.proofs.input.read_input.Goals as goal

pub returns-in-Err-TooLong-clause-ok : goal.returns-in-Err-TooLong-clause-ok
returns-in-Err-TooLong-clause-ok g c =
    let reads = rw c.in-Err-TooLong.field-0-is at c.in-Err-TooLong.ensures.reads in
    too-long _ _ reads.0 reads.1 reads.2
