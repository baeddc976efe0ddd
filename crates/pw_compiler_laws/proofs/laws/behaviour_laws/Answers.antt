use Rattle.pw_compiler_laws.proofs.Serves.{behaves-same, is-behaviour}
use Rattle.pw_compiler_laws.proofs.laws.behaviour_laws.Goals as goal

pub returns : goal.returns
returns c = record { same = behaves-same; behaves = is-behaviour }
