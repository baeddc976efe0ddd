-- Arithmetic that has counted goes on behind its instruction, or behind so many more.
use Rattle.std.proofs.Common.{sym, ◌∙◌}
use Rattle.pw_code_meaning.specs.Config.{on, over}
use Rattle.pw_code_meaning.specs.Steps as steps
use Rattle.pw_machine.specs.Config.{config_of}
use Rattle.pw_machine.proofs.ActLemmas.{computes_guarded, count_on}
use Rattle.pw_machine.proofs.arms.begin_guarded.Goals as goal

pub returns-clause-config : goal.returns-clause-config
returns-clause-config c =
    let a = c.args.arithmetic.now in
    let top = c.args.top.now in
    let counted = c.count.new.context in
    c.calculate.ensures.config ∙ computes_guarded a c.args.over (config_of top counted)
    ∙ sym (count_on (steps.computes a on (over c.args.over)) top c.args.context.now counted c.count.result c.count.ensures.told c.if-not-count.false c.count.ensures.context)
