-- Another statement leaves the same programs at work.
use Rattle.pw_machine.specs.Config.{config_of}
use Rattle.pw_machine.proofs.ActLemmas.{if_stays_sound}
use Rattle.pw_machine.proofs.act.does.Goals as goal

pub returns-in_default : goal.returns-in_default
returns-in_default c = record {
  config = c.does_here.ensures.config;
  sound =
      if_stays_sound c.args.system.now (config_of c.args.top.now c.args.context.now) (config_of c.does_here.new.top c.does_here.new.context) c.does_here.result
      c.requires.sound c.does_here.ensures.stays;
}
