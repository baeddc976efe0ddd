use Rattle.pw_world_model.proofs.Touched.{changes, stamps, stays}
use Rattle.pw_world_model.proofs.pushing.touch_laws.Goals as goal

pub returns-clause-changes : goal.returns-clause-changes
returns-clause-changes c world books entry actor w can of e = changes world books w entry can actor of e

pub returns-clause-stays : goal.returns-clause-stays
returns-clause-stays c world books entry actor w can of e = stays world books w entry can actor of e

pub returns-clause-stamps : goal.returns-clause-stamps
returns-clause-stamps c world books entry actor w can of = stamps world books w entry can actor of
