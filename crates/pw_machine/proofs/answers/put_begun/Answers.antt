-- What else goes on.
use Rattle.std.proofs.Common.{◌∙◌}
use Rattle.pw_machine.specs.Config.{config_with}
use Rattle.pw_machine.proofs.PutLemmas.{begin_else}
use Rattle.pw_machine.proofs.answers.put_begun.Goals as goal

pub returns-in_default-clause-config : goal.returns-in_default-clause-config
returns-in_default-clause-config c =
    λ frames. c.pass.ensures.config frames ∙ begin_else c.args.answer.now (config_with frames c.args.top.now c.args.context.now) c.in_default.not-Begun
