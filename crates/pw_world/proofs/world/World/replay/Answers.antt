use Rattle.std.proofs.Common.{◌≡◌, ◌∙◌, ◌+◌, List, ap, length, sym}
use Rattle.pw_event.specs.declared.event.Event.{Event}
use Rattle.pw_world.proofs.Replaying.{no-step, replayed-next}
use Rattle.pw_world.specs.States.{seen}
use Rattle.pw_world.proofs.world.World.replay.Goals as goal

pub returns-in-NotAStep-clause-no_step : goal.returns-in-NotAStep-clause-no_step
returns-in-NotAStep-clause-no_step g c n is =
    let world = seen g.D.Disc.told c.loop-event.world in
    let long : length c.log.result.now + 1 ≡ n = cc is in
    let same : c.log.result.now ≡ world.log = c.log.ensures.log ∙ c.in-NotAStep.ensures.leaves.1.0 in
    let number : n ≡ length world.log + 1 = sym long ∙ ap (λ (log : List Event). length log + 1) same in
    no-step c.args.system c.args.script.lines
    (g.D.Disc.told c.args.disc) c.args.log.now c.loop-event.event-index n _ world
    c.loop-event-test.true number
    c.loop-event.invariant c.in-NotAStep.ensures.comes

pub loop-event-preserved : goal.loop-event-preserved
loop-event-preserved g c =
    replayed-next c.args.system c.args.script.lines
    (g.D.Disc.told c.args.disc) c.args.log.now c.loop-event.event-index _
    (seen g.D.Disc.told c.loop-event.world)
    (seen g.D.Disc.told c.enter.new.self) c.loop-event-test.true c.loop-event.invariant
    c.in-Done.ensures.comes c.in-Done.ensures.leaves
