use Rattle.std.proofs.Common.{ap, subst}
use Rattle.std.specs.Prelude.{IfOk}
use Rattle.pw_status.specs.Status.{TellsStatus}
use Rattle.pw_status.specs.Watching.{WatchState, sys_in}
use Rattle.pw_status.proofs.status.count.Goals as goal

pub count_over-output-requires-clause-new : goal.count_over-output-requires-clause-new
count_over-output-requires-clause-new c = ap (λ (w : WatchState). w.log) c.in_ok-watch.ensures

pub returns : goal.returns
returns c =
    subst (λ (w : WatchState). IfOk c.count_over-output.result (λ output. TellsStatus (sys_in w) w.system c.args.log.now output.0 output.1)) c.in_ok-watch.ensures c.count_over-output.ensures
