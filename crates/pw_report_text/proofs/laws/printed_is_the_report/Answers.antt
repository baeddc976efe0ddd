use Rattle.pw_report_text.proofs.Printed.{files-printed, text-printed}
use Rattle.pw_report_text.proofs.laws.printed_is_the_report.Goals as goal
use Rattle.pw_laws.proofs.blocks.Serializable.{is-serializable}

pub returns-clause-text : goal.returns-clause-text
returns-clause-text c = λ system sys b log run. text-printed system sys log (is-serializable sys b log run)

pub returns-clause-files : goal.returns-clause-files
returns-clause-files c = λ system sys b log run. files-printed system sys log (is-serializable sys b log run)
