use Rattle.pw_world.proofs.Making.{can-act}
use Rattle.pw_world.proofs.laws.act_laws.Goals as goal

pub returns : goal.returns
returns c world books entry w bare can = can-act world books w entry can bare.requests
