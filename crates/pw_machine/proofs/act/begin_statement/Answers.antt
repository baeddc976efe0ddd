-- A statement that has begun is done.
use Rattle.std.proofs.Common.{sym, ◌∙◌}
use Rattle.pw_code_meaning.specs.Steps as steps
use Rattle.pw_machine.specs.Config.{config_of}
use Rattle.pw_machine.proofs.ActLemmas.{act_counted, count_on}
use Rattle.pw_machine.proofs.act.begin_statement.Goals as goal

pub returns-in_ok-does-clause-config : goal.returns-in_ok-does-clause-config
returns-in_ok-does-clause-config c =
    let system = c.args.system.now in
    let i = c.args.instr.now in
    let now = config_of c.args.top.now c.args.context.now in
    c.in_ok-does.ensures.config
    ∙ sym (count_on (steps.does system i) c.args.top.now c.args.context.now c.count.new.context c.count.result c.count.ensures.told c.if-count.true c.count.ensures.context)
    ∙ sym (act_counted system i now c.requires.statement)
