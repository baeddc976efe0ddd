-- The status, or what else goes on.
use Rattle.std.proofs.Common.{sym, ap, ◌∙◌}
use Rattle.pw_code.specs.declared.verb.Answer.{Answer}
use Rattle.pw_code_meaning.specs.Answers as answers
use Rattle.pw_machine.specs.Config.{config_with}
use Rattle.pw_machine.proofs.PutLemmas.{file_else}
use Rattle.pw_machine.proofs.answers.put_file.Goals as goal

pub returns-in-FileDone-clause-config : goal.returns-in-FileDone-clause-config
returns-in-FileDone-clause-config c =
    λ frames.
    c.put_status.ensures.config frames ∙ ap (λ (a : Answer). answers.file_put a (config_with frames c.args.top.now c.args.context.now)) (sym c.in-FileDone.is)

pub returns-in_default-clause-config : goal.returns-in_default-clause-config
returns-in_default-clause-config c =
    λ frames. c.pass_file.ensures.config frames ∙ file_else c.args.answer.now (config_with frames c.args.top.now c.args.context.now) c.in_default.not-FileDone
