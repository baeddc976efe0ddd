use Rattle.pw_world.proofs.Baring.{bare}
use Rattle.pw_world.proofs.laws.bare_laws.Goals as goal

pub returns : goal.returns
returns c system seats disc book jobs pairs births k = bare system seats disc book jobs pairs births k
