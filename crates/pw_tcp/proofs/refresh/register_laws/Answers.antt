use Rattle.pw_tcp.proofs.Registers.{stands-at}
use Rattle.pw_tcp.proofs.refresh.register_laws.Goals as goal

pub returns : goal.returns
returns c = stands-at
