use Rattle.pw_invariants.proofs.Statements.{statements-ask}
use Rattle.pw_invariants.proofs.files.servers_use_files_as_their_statements_say.Goals as goal

pub returns : goal.returns
returns c = λ rule deck sound f may fine. statements-ask deck f may rule sound fine
