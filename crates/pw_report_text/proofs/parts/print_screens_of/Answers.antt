use Rattle.pw_report_text.proofs.Seen.{seen-step, text-step}
use Rattle.pw_report_text.proofs.parts.print_screens_of.Goals as goal

pub loop-refresh-preserved : goal.loop-refresh-preserved
loop-refresh-preserved c = record {
  text = text-step c.args.system.now c.args.terminal c.loop-refresh.refresh-index c.args.refreshes.now c.refresh-item.result c.loop-refresh.seen _ _ _ c.loop-refresh-test.true c.refresh-item.is
      c.loop-refresh.invariant.seen c.loop-refresh.invariant.text c.in_ok-print_screen.ensures.text;
  seen = seen-step c.args.terminal c.loop-refresh.refresh-index c.args.refreshes.now c.refresh-item.result c.loop-refresh.seen c.print_screen.new.seen c.loop-refresh-test.true c.refresh-item.is
      c.loop-refresh.invariant.seen (λ other. c.in_ok-print_screen.ensures.seen other);
}
