use Rattle.pw_report_text.proofs.OneLines.{event-one}
use Rattle.pw_report_text.proofs.laws.entries_are_lines.Goals as goal

pub returns : goal.returns
returns c = event-one
