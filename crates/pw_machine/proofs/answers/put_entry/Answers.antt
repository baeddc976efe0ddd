-- What else goes on.
use Rattle.std.proofs.Common.{◌∙◌}
use Rattle.pw_code.specs.Instrs.{screen_at}
use Rattle.pw_machine.specs.Config.{config_with}
use Rattle.pw_machine.proofs.PutLemmas.{entry_else}
use Rattle.pw_machine.proofs.answers.put_entry.Goals as goal

pub returns-in_default-clause-config : goal.returns-in_default-clause-config
returns-in_default-clause-config c =
    λ frames.
    c.pass.ensures.config frames
    ∙ entry_else (screen_at c.args.system.now c.args.screen) c.args.keys.now c.args.answer.now (config_with frames c.args.top.now c.args.context.now) c.in_default.not-Entry
