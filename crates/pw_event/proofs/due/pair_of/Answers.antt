use Rattle.std.proofs.Common.{length, ap, arith}
use Rattle.pw_event.proofs.Dues.{no_pair}
use Rattle.pw_event.proofs.due.pair_of.Goals as goal

pub returns-else-place-terminals : goal.returns-else-place-terminals
returns-else-place-terminals c = no_pair c.args.system.now c.args.terminal (omega (arith, ap length c.as_slice-terminals.ensures, c.if-place-terminals.false))
