-- What each instruction makes of an answer.
use Rattle.std.proofs.Common.{Some, sym, ap, ◌∙◌}
use Rattle.pw_code.specs.declared.instr.Instr.{Instr}
use Rattle.pw_code_meaning.specs.Answers as answers
use Rattle.pw_machine.specs.Config.{config_with}
use Rattle.pw_machine.proofs.answers.put_by.Goals as goal

pub returns-in-DisplayScreen-clause-config : goal.returns-in-DisplayScreen-clause-config
returns-in-DisplayScreen-clause-config c =
    λ frames.
    c.put_shown.ensures.config frames
    ∙ ap (λ (i : Instr). answers.answered_by c.args.system.now (Some i) c.args.answer.now (config_with frames c.args.top.now c.args.context.now)) (sym c.in-DisplayScreen.is)

pub returns-in-Display-clause-config : goal.returns-in-Display-clause-config
returns-in-Display-clause-config c =
    λ frames.
    c.put_shown-in-Display.ensures.config frames
    ∙ ap (λ (i : Instr). answers.answered_by c.args.system.now (Some i) c.args.answer.now (config_with frames c.args.top.now c.args.context.now)) (sym c.in-Display.is)

pub returns-in-End-clause-config : goal.returns-in-End-clause-config
returns-in-End-clause-config c =
    λ frames.
    c.put_end.ensures.config frames
    ∙ ap (λ (i : Instr). answers.answered_by c.args.system.now (Some i) c.args.answer.now (config_with frames c.args.top.now c.args.context.now)) (sym c.in-End.is)

pub returns-in-Abort-clause-config : goal.returns-in-Abort-clause-config
returns-in-Abort-clause-config c =
    λ frames.
    c.put_end-in-Abort.ensures.config frames
    ∙ ap (λ (i : Instr). answers.answered_by c.args.system.now (Some i) c.args.answer.now (config_with frames c.args.top.now c.args.context.now)) (sym c.in-Abort.is)
