use Rattle.pw_world_model.proofs.Failures.{only-fails, server-fails, tcp-fails}
use Rattle.pw_world_model.proofs.failing.fail_laws.Goals as goal

pub returns-clause-tcp : goal.returns-clause-tcp
returns-clause-tcp c world books p k after primary w unfinished due names = tcp-fails world books w p k after primary unfinished due names

pub returns-clause-server : goal.returns-clause-server
returns-clause-server c world books class i k after w unfinished due names = server-fails world books w class i k after unfinished due names

pub returns-clause-only : goal.returns-clause-only
returns-clause-only c world books actor entry k w e due = only-fails world books w actor entry k e due
