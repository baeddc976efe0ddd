use Rattle.pw_code_meaning.proofs.Sizes.{small-stands, sound-stands}
use Rattle.pw_code_meaning.proofs.SizesOfServers.{server-stands}
use Rattle.pw_code_meaning.proofs.laws.sound_laws.Goals as goal

pub returns-clause-sound : goal.returns-clause-sound
returns-clause-sound c = sound-stands

pub returns-clause-servers : goal.returns-clause-servers
returns-clause-servers c = server-stands

pub returns-clause-small : goal.returns-clause-small
returns-clause-small c = small-stands
