use Rattle.pw_order_laws.proofs.Units.{units-balance}
use Rattle.pw_order_laws.proofs.taken.order_units_balance.Goals as goal
use Rattle.pw_order_laws.specs.Clerk.{clerk_deck}

pub returns : goal.returns
returns c = λ items rule screens choices sound.
    units-balance items screens choices rule sound (c.deck_laws.ensures rule (clerk_deck screens choices) sound)
