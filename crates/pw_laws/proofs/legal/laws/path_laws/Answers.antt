use Rattle.pw_laws.proofs.decided.Values.{same_path}
use Rattle.pw_laws.proofs.legal.laws.path_laws.Goals as goal

pub returns : goal.returns
returns c = same_path
