use Rattle.std.proofs.Common.{◌≡◌, subst}
use Rattle.std.specs.Prelude.{IfOk}
use Rattle.pw_status.specs.Text.{status_text}
use Rattle.pw_status.specs.Watching.{WatchState, sys_in}
use Rattle.pw_status.proofs.watch.Watch.text.Goals as goal

pub returns : goal.returns
returns c =
    subst (λ (v : WatchState). IfOk c.text_of.result (λ text. text ≡ status_text v.system (sys_in v) v.log)) c.self.view_is c.text_of.ensures
