use Rattle.std.proofs.Common.{◌∙◌, ap}
use Rattle.pw_image.specs.Values.{HasValues}
use Rattle.pw_world_state.specs.Kept.{KeptTerminal}
use Rattle.pw_world.proofs.ShownValues.{if-some}
use Rattle.pw_world.proofs.world.World.know_own.Goals as goal

pub returns : goal.returns
returns g c =
    rw (← c.self.view_is)
    (λ context is.
    if-some HasValues c.seat.result.now.context context c.know_if_any.ensures
    (ap (λ (k : KeptTerminal). k.context) c.seat.ensures.kept ∙ is))
