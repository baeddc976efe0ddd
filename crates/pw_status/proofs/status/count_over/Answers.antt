use Rattle.std.proofs.Common.{◌+◌, ap, arith}
use Rattle.pw_status.proofs.WatchCounting.{all-pushed, first-none, none-pushed, pushed-more, so-long}
use Rattle.pw_status.proofs.status.count_over.Goals as goal

pub loop-event-init : goal.loop-event-init
loop-event-init c = none-pushed c.args.watch.now c.requires.new

pub push-requires : goal.push-requires
push-requires c =
    let w = c.args.watch.now in
    let low = c.loop-event-test.true in
    let long = so-long w.system w.script c.args.log.now c.loop-event.event-index c.loop-event.watch low c.loop-event.invariant in
    let few = c.requires.log in
    omega (arith, long, low, few)

pub loop-event-preserved : goal.loop-event-preserved
loop-event-preserved c =
    let w = c.args.watch.now in
    pushed-more w.system w.script c.args.log.now c.loop-event.event-index _ c.loop-event-test.true c.loop-event.watch c.loop-event.invariant c.push.new.self c.in-Ok.ensures

pub returns-in-Err-NotAStep : goal.returns-in-Err-NotAStep
returns-in-Err-NotAStep c =
    let w = c.args.watch.now in
    let n = c.entries.result + 1 in
    let pushes = rw c.in-Err-NotAStep.field-0-is at c.in-Err-NotAStep.ensures in (
      n,
      (
        first-none w.system w.script c.args.log.now c.loop-event.event-index _ c.loop-event-test.true c.loop-event.watch c.loop-event.invariant n c.push.new.self pushes
            (ap (λ k. k + 1) c.entries.ensures),
        c.in_ok-no_step_line-in-Err-NotAStep.ensures,
      ),
    )

pub returns : goal.returns
returns c =
    let w = c.args.watch.now in
    all-pushed w.system w.script c.args.log.now c.loop-event.event-index c.loop-event.watch _ c.loop-event-test.false c.loop-event.invariant c.in_ok-text.ensures
