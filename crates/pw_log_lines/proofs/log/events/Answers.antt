use Rattle.pw_log_lines.proofs.log.events.Goals as goal

pub returns : goal.returns
returns c = rw c.open_log-log.ensures.opened c.read_lines.ensures
