use Rattle.pw_world_state.proofs.TakenOver.{takeover-stands}
use Rattle.pw_world_state.proofs.takeovers.takeover_laws.Goals as goal

pub returns : goal.returns
returns c = record {
  takeover = λ system script state kept p terminals stands legal few are whole.
      takeover-stands system script state kept p terminals stands legal.down few are whole;
}
