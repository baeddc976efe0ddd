use Rattle.std.proofs.Common.{◌<◌, length}
use Rattle.std.proofs.lemmas.Bool.Decides.{nat_tests}
use Rattle.std.proofs.Common.{arith}
use Rattle.pw_machine.proofs.TurnLemmas.{split_last-is}
use Rattle.pw_machine.proofs.turns.last_of.Goals as goal

pub returns : goal.returns
returns c =
    let some : 0 < length c.args.returns.now = grind (arith, nat_tests, c.is_empty.ensures, c.if-is_empty.false) in
    split_last-is c.args.returns.now _ some
