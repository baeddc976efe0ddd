-- A sound context has a program at work.
use Rattle.std.proofs.Common.{Option, ap, ◌∙◌}
use Rattle.pw_code.specs.declared.context.Frame.{Frame}
use Rattle.pw_machine.specs.Stack.{popped}
use Rattle.pw_machine.proofs.TopLemmas.{some_frame}
use Rattle.pw_machine.proofs.run.verb.Goals as goal

pub unreachable-requires : goal.unreachable-requires
unreachable-requires c =
    some_frame c.args.system.now c.args.context.now c.pop.new.context.frames c.requires.sound
    (c.pop.ensures.last ∙ ap (λ (r : Option Frame). popped c.pop.new.context.frames r) c.in_default.is)
