use Rattle.pw_log_lines.proofs.Opened.{header_opened, old_opened}
use Rattle.pw_log_lines.proofs.log.opened_at.Goals as goal

pub returns-then-eq-clause-opened : goal.returns-then-eq-clause-opened
returns-then-eq-clause-opened c = header_opened c.args.number _ _ c.args.line.now c.requires.line c.requires.some c.if-eq.ensures

pub returns-else-eq-clause-opened : goal.returns-else-eq-clause-opened
returns-else-eq-clause-opened c = old_opened c.args.number _ _ c.args.line.now c.requires.line c.requires.some c.if-eq.ensures
