use Rattle.pw_log_lines.proofs.log.+is_number.Given as goal

abbrev pub decreases-is_number : goal.decreases-is_number
decreases-is_number l = l.n
