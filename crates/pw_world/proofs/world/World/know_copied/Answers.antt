use Rattle.std.proofs.Common.{◌∙◌, ap}
use Rattle.pw_world_state.specs.Entered.{copied}
use Rattle.pw_world_state.specs.Kept.{KeptTerminal}
use Rattle.pw_world.proofs.ShownValues.{copied-values}
use Rattle.pw_world.proofs.world.World.know_copied.Goals as goal

pub returns : goal.returns
returns g c =
    rw (← c.self.view_is)
    (λ context is.
    copied-values c.seat-seat.result.now.start c.seat-seat.result.now.context context c.know_if_any.ensures c.know_if_any-2.ensures
    (ap (λ (k : KeptTerminal). copied k.start k.context) c.seat-seat.ensures.kept ∙ is))
