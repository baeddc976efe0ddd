-- The caller waits for the program that is left.
use Rattle.std.proofs.Common.{◌++◌, Option, refl, ap, ◌∙◌}
use Rattle.std.specs.Option.{option_to_list}
use Rattle.pw_code.specs.declared.context.Frame.{Frame}
use Rattle.pw_machine.specs.Config.{config_of}
use Rattle.pw_machine.proofs.SoundLemmas.{caller_waits, returned_sound}
use Rattle.pw_machine.proofs.calls.leave.Goals as goal

pub come_back-requires-clause-waits : goal.come_back-requires-clause-waits
come_back-requires-clause-waits c =
    caller_waits c.args.system.now (config_of c.args.top.now c.args.context.now) c.pop.new.context.frames _ c.requires.sound
    (c.pop.ensures.frames ∙ ap (λ (r : Option Frame). c.pop.new.context.frames ++ option_to_list r) c.in-Some.is)

pub returns-in_ok-come_back-in-Some-clause-sound : goal.returns-in_ok-come_back-in-Some-clause-sound
returns-in_ok-come_back-in-Some-clause-sound c =
    returned_sound c.args.system.now (config_of c.args.top.now c.args.context.now) (config_of c.come_back.new.top c.pop.new.context) c.pop.new.context.frames c.in-Some.caller c.requires.sound
    (c.pop.ensures.frames ∙ ap (λ (r : Option Frame). c.pop.new.context.frames ++ option_to_list r) c.in-Some.is)
    (ap (λ (frame : Frame). frame.program) c.in_ok-come_back-in-Some.ensures.top) c.in_ok-come_back-in-Some.ensures.size refl
