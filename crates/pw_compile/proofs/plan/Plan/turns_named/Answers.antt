use Rattle.std.proofs.Common.{ap, ◌∙◌}
use Rattle.pw_compile.specs.Plan.{turn_of}
use Rattle.pw_compile.proofs.Branches.{map_further}
use Rattle.pw_compile.proofs.plan.Plan.turns_named.Goals as goal

pub loop-name-preserved : goal.loop-name-preserved
loop-name-preserved c =
    map_further (turn_of c.args.self.now) c.args.names.now c.loop-name.name-index c.name-item.result c.loop-name.turns c.push.new.self c.turn.result c.loop-name-test.true c.name-item.is
    c.loop-name.invariant c.in_ok-push.ensures.ok (c.turn.ensures ∙ ap (turn_of c.args.self.now) c.as_slice.ensures)
