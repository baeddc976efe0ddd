use Rattle.pw_compiler_laws.proofs.Valid.{programs-are, servers-are, valid-is}
use Rattle.pw_compiler_laws.proofs.laws.code_laws.Goals as goal

pub returns : goal.returns
returns c = record { requesters = programs-are; servers = servers-are; system = valid-is }
