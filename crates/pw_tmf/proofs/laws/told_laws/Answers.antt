use Rattle.pw_tmf.proofs.Telling.{tells-begin, tells-operate, tells-commit, tells-drop, tells-restart}
use Rattle.pw_tmf.proofs.laws.told_laws.Goals as goal

pub returns-clause-begins : goal.returns-clause-begins
returns-clause-begins c = tells-begin

pub returns-clause-operates : goal.returns-clause-operates
returns-clause-operates c = tells-operate

pub returns-clause-commits : goal.returns-clause-commits
returns-clause-commits c = tells-commit

pub returns-clause-drops : goal.returns-clause-drops
returns-clause-drops c = tells-drop

pub returns-clause-restarts : goal.returns-clause-restarts
returns-clause-restarts c = tells-restart
