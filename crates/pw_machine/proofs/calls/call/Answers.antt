-- The programs at work are the system's, and the called one is one more.
use Rattle.std.proofs.Common.{length, ap, ◌∙◌, arith}
use Rattle.pw_code.specs.declared.context.Context.{Context}
use Rattle.pw_code.specs.declared.context.Frame.{Frame}
use Rattle.pw_machine.specs.Config.{config_of, frame_of}
use Rattle.pw_machine.proofs.SoundLemmas.{call_sound, waiting_known}
use Rattle.pw_machine.proofs.calls.call.Goals as goal

pub active-requires-clause-others : goal.active-requires-clause-others
active-requires-clause-others c = waiting_known c.args.system.now c.args.context.now.frames (frame_of c.args.top.now) c.requires.sound.waiting

pub returns-clause-sound : goal.returns-clause-sound
returns-clause-sound c =
    call_sound c.args.system.now (config_of c.args.top.now c.args.context.now) (config_of c.enter.new.top c.enter.new.context) c.args.program c.args.arguments.now c.args.keeps
    c.requires.sound c.requires.call.known c.requires.at (omega arith)
    (ap (λ (frame : Frame). frame.program) c.in_ok-enter.ensures.top ∙ c.in_ok-callee.ensures.program)
    (ap (λ (frame : Frame). length frame.storage) c.in_ok-enter.ensures.top ∙ c.in_ok-callee.ensures.size)
    (ap (λ (context : Context). context.frames) c.in_ok-enter.ensures.context)
