-- One step more.
use Rattle.std.proofs.Common.{sym, ◌∙◌}
use Rattle.pw_machine.specs.Config.{config_of}
use Rattle.pw_machine.proofs.RunSteps.{comes_on, counts_on, goes_on-is, inner_falls, test-off, test-on}
use Rattle.pw_machine.proofs.run.run.Goals as goal

pub count-preserved-then-not-context : goal.count-preserved-then-not-context
count-preserved-then-not-context c =
    let now = config_of c.count.top c.count.context in
    let here = goes_on-is now c.verb.context.count (sym c.count-test.true ∙ c.count.invariant.test) in
    record {
      comes = comes_on c.args.system.now _ now _ c.in_ok-step.ensures.config c.count.invariant.comes here.0;
      counts = counts_on c.args.system.now now _ _ c.in_ok-step.ensures.config here.1;
      test = test-on c.step.new.context.at_verb _ c.if-not-context.true;
      sound = c.in_ok-step.ensures.sound;
    }

pub count-preserved : goal.count-preserved
count-preserved c =
    let now = config_of c.count.top c.count.context in
    let here = goes_on-is now c.verb.context.count (sym c.count-test.true ∙ c.count.invariant.test) in
    record {
      comes = comes_on c.args.system.now _ now _ c.in_ok-step.ensures.config c.count.invariant.comes here.0;
      counts = counts_on c.args.system.now now _ _ c.in_ok-step.ensures.config here.1;
      test = test-off c.step.new.context.at_verb _ c.if-not-context.false;
      sound = c.in_ok-step.ensures.sound;
    }

pub count-smaller-then-not-context : goal.count-smaller-then-not-context
count-smaller-then-not-context c =
    let now = config_of c.count.top c.count.context in
    let here = goes_on-is now c.verb.context.count (sym c.count-test.true ∙ c.count.invariant.test) in
    inner_falls c.args.system.now c.verb.context.count now _ c.in_ok-step.ensures.config here.0 here.1
