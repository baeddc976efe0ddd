use Rattle.pw_read_back.proofs.Ranges.{run-small}
use Rattle.pw_read_back.proofs.laws.numbers_are_in_range.Goals as goal

pub returns : goal.returns
returns c = run-small
