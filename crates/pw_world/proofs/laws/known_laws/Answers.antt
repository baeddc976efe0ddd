use Rattle.pw_world.proofs.KnownWorlds.{is-known}
use Rattle.pw_world.proofs.laws.known_laws.Goals as goal

pub returns : goal.returns
returns c world books w bare = is-known world books w bare
