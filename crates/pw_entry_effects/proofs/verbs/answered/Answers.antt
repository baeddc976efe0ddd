use Rattle.std.proofs.Common.{subst}
use Rattle.pw_code.specs.declared.context.Context.{Context}
use Rattle.pw_code_meaning.specs.Contexts.{PutsAnswer}
use Rattle.pw_entry_effects.proofs.Answering.{takes-is}
use Rattle.pw_entry_effects.proofs.verbs.answered.Goals as goal

pub returns : goal.returns
returns c =
    takes-is c.args.system.now c.args.answer c.args.context.now c.answer.new.context c.requires.sound
    (subst (λ (x : Context). PutsAnswer c.args.system.now c.args.answer x c.answer.new.context) c.in_ok-next.ensures c.answer.ensures.takes)
