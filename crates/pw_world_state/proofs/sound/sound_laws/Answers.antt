use Rattle.pw_world_state.proofs.Sounds.{job-sound, kept-sound, ready-kept-sound, start-kept-sound}
use Rattle.pw_world_state.proofs.sound.sound_laws.Goals as goal

pub returns-clause-context : goal.returns-clause-context
returns-clause-context c system script state kept t info context valid stands here is = kept-sound system script state kept valid stands t info context here is

pub returns-clause-ready : goal.returns-clause-ready
returns-clause-ready c system script state kept t info context valid stands here is = ready-kept-sound system script state kept valid stands t info context here is

pub returns-clause-start : goal.returns-clause-start
returns-clause-start c system script state kept t info context valid stands here is = start-kept-sound system script state kept valid stands t info context here is

pub returns-clause-job : goal.returns-clause-job
returns-clause-job c system script state kept class i info context valid stands here is = job-sound system script state kept valid stands class i info context here is
