use Rattle.std.proofs.Common.{subst}
use Rattle.pw_code.specs.declared.system.System.{System}
use Rattle.pw_tmf.specs.Faulty.{with_faults}
use Rattle.pw_tmf.specs.Tmf.{told_of}
use Rattle.pw_world_model.specs.Worlds.{IsDiscOf}
use Rattle.pw_system_tests.proofs.scenes.opening.open.Goals as goal

pub returns : goal.returns
returns c =
    let setup = c.setup_of-setup.result in
    let disc = c.in-Ok.disc in
    subst (λ (s : System). IsDiscOf s setup.script (with_faults disc.calls.faults (told_of disc.inner))) c.system.ensures.system
    (c.in-Ok.ensures setup.script)
