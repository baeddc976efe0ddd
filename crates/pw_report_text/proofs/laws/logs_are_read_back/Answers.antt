use Rattle.pw_report_text.proofs.ReadingBack.{report-cut}
use Rattle.pw_report_text.proofs.laws.logs_are_read_back.Goals as goal

pub returns : goal.returns
returns c = report-cut
