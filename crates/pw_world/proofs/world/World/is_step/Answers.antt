use Rattle.std.proofs.Common.{◌∙◌, sym}
use Rattle.pw_world.proofs.Entering.{come-on}
use Rattle.pw_world.specs.States.{seen}
use Rattle.pw_world.proofs.world.World.is_step.Goals as goal

pub returns-then-not-may_come-clause-exact : goal.returns-then-not-may_come-clause-exact
returns-then-not-may_come-clause-exact g c =
    ((λ no. absurd (cc no)), (λ legal. sym c.if-not-may_come.true ∙ c.may_come.ensures.must legal))

pub passes-requires-clause-comes : goal.passes-requires-clause-comes
passes-requires-clause-comes g c κs within =
    come-on (seen g.D.Disc.told c.args.self.now)
    (seen g.D.Disc.told c.read_for.new.self) c.args.event.now c.read_for.ensures.ran
    (c.may_come.ensures.comes.0 c.if-not-may_come.false)
