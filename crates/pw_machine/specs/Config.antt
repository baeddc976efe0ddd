-- The configuration that a program at work and the rest of its context are.
use Rattle.std.specs.Prelude.{List}
use Rattle.pw_code.specs.declared.context.Context.{Context}
use Rattle.pw_code.specs.declared.context.Frame.{Frame}
use Rattle.pw_code_meaning.specs.Config.{Config}
use Rattle.pw_machine.specs.declared.top.Top.{Top}

-- the frame of a program at work
abbrev pub frame_of : Top → Frame
frame_of top = record { program = top.program; at = top.at; storage = top.storage.items; returns = top.returns.items }

-- with the rest of its context, whose frames are those that wait for it
abbrev pub config_of : Top → Context → Config
config_of top context = record { top = frame_of top; rest = context }

-- the same, whoever waits
abbrev pub config_with : List Frame → Top → Context → Config
config_with frames top context = record { top = frame_of top; rest = record context { frames = frames } }
