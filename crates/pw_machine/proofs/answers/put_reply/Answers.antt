-- A reply goes to the item of its code.
use Rattle.std.proofs.Common.{ℕ, List, sym, ap, ◌∙◌}
use Rattle.pw_code.specs.declared.verb.Answer.{Answer}
use Rattle.pw_code_meaning.specs.Answers as answers
use Rattle.pw_machine.specs.Config.{config_with}
use Rattle.pw_machine.proofs.answers.put_reply.Goals as goal

pub returns-in-Replied-clause-config : goal.returns-in-Replied-clause-config
returns-in-Replied-clause-config c =
    λ frames.
    c.replied.ensures.config frames
    ∙ ap (λ (l : List ℕ). answers.code_after_reply c.args.codes.now l (config_with frames c.args.top.now c.args.context.now)) c.as_slice.ensures
    ∙ ap (λ (a : Answer). answers.reply_put c.args.codes.now a (config_with frames c.args.top.now c.args.context.now)) (sym c.in-Replied.is)
