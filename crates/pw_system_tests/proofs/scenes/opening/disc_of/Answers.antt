use Rattle.pw_system_tests.proofs.Starting.{counted}
use Rattle.pw_system_tests.proofs.scenes.opening.disc_of.Goals as goal

pub returns : goal.returns
returns c = counted c.args.system.now _ c.new-2.result c.in_ok-tmf.ensures c.new-2.ensures.inner
