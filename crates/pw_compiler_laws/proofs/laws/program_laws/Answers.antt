use Rattle.pw_compiler_laws.proofs.Behaves.{requester-answers, server-answers}
use Rattle.pw_compiler_laws.proofs.laws.program_laws.Goals as goal

pub returns : goal.returns
returns c = record { terminals = requester-answers; servers = server-answers }
