-- Arithmetic that has counted goes on behind its instruction.
use Rattle.std.proofs.Common.{sym, ◌∙◌}
use Rattle.pw_code_meaning.specs.Config.{on}
use Rattle.pw_code_meaning.specs.Steps as steps
use Rattle.pw_machine.specs.Config.{config_of}
use Rattle.pw_machine.proofs.ActLemmas.{computes_sure, count_on}
use Rattle.pw_machine.proofs.arms.begin_arithmetic.Goals as goal

pub returns-clause-config : goal.returns-clause-config
returns-clause-config c =
    let a = c.args.arithmetic.now in
    let top = c.args.top.now in
    let counted = c.count.new.context in
    c.calculate.ensures.config ∙ computes_sure a (config_of top counted)
    ∙ sym (count_on (steps.computes a on on) top c.args.context.now counted c.count.result c.count.ensures.told c.if-not-count.false c.count.ensures.context)
