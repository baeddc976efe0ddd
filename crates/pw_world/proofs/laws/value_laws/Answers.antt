use Rattle.pw_world.proofs.Testing.{all-valued}
use Rattle.pw_world.proofs.laws.value_laws.Goals as goal

pub returns : goal.returns
returns c world books entry w low values copies = all-valued world books w entry low values copies
