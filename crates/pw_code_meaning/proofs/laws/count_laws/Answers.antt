use Rattle.pw_code_meaning.proofs.Counting.{counts-stand}
use Rattle.pw_code_meaning.proofs.laws.count_laws.Goals as goal

pub returns : goal.returns
returns c = counts-stand
