-- The next step looks at what is held only where it needs that.
use Rattle.pw_tcp.proofs.Looking.{says-enough}
use Rattle.pw_tcp.proofs.laws.note_laws.Goals as goal

pub returns : goal.returns
returns c = says-enough
