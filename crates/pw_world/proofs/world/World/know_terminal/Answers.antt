use Rattle.std.proofs.Common.{◌∙◌, ap}
use Rattle.pw_image.specs.Values.{HasValues}
use Rattle.pw_world_state.specs.Kept.{KeptTerminal}
use Rattle.pw_world.proofs.ShownValues.{if-some, ready-values}
use Rattle.pw_world.proofs.world.World.know_terminal.Goals as goal

pub returns : goal.returns
returns g c =
    rw (← c.self.view_is) (record {
      behind = λ context is.
          if-some HasValues c.seat-seat.result.now.context context c.know_if_any.ensures (ap (λ (k : KeptTerminal). k.context) c.seat-seat.ensures.kept ∙ is);
      ready = λ context is.
          ready-values c.seat-seat.result.now.ready context c.know_if_ready.ensures (ap (λ (k : KeptTerminal). k.ready) c.seat-seat.ensures.kept ∙ is);
    })
