use Rattle.pw_log_lines.proofs.log.count_entries.Goals as goal

pub returns : goal.returns
returns c = rw (c.open_log-log.ensures.opened, ← c.rule_of.ensures) c.count_under.ensures
