use Rattle.pw_world_state.proofs.Restarted.{restart-stands}
use Rattle.pw_world_state.proofs.restarts.restart_laws.Goals as goal

pub returns : goal.returns
returns c = record {
  restart = λ system script state kept t n cause terminal stands here legal.
      restart-stands system script state kept t n cause legal.unit legal.caused.start stands legal.caused.is_open legal.caused.runs;
}
