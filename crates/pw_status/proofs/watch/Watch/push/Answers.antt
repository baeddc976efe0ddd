use Rattle.std.proofs.Common.{◌<◌, length, subst, sym}
use Rattle.pw_code.specs.Limits.{most_log_lines}
use Rattle.pw_code.specs.declared.system.System.{System}
use Rattle.pw_world_state.specs.May.{IsThere}
use Rattle.pw_world.specs.Ledgers.{books_of}
use Rattle.pw_world.specs.States.{seen}
use Rattle.pw_world_model.proofs.Steps.{there}
use Rattle.pw_paired.specs.Step.{Legal}
use Rattle.pw_tmf.specs.Tmf.{told_of}
use Rattle.pw_status.specs.Watching.{PushesToWatch, WatchState, state_in, sys_in, watched}
use Rattle.pw_status.proofs.watch.Watch.push.Goals as goal

pub returns-then-not-is_there : goal.returns-then-not-is_there
returns-then-not-is_there c =
    let w = c.self.inside.world in (
      λ legal.
          let here = subst (λ (v : WatchState). Legal (sys_in v) (state_in v) c.args.event) (sym c.self.view_is) legal in
          let named = there (seen told_of w) (books_of w.ledger) c.holds.ensures c.args.event here in
          let is = c.is_there.ensures.1 (subst (λ (s : System). IsThere s c.args.event) (sym c.system.ensures.system) named) in
          absurd (cc (is, c.if-not-is_there.true)),
      (cc),
    )

pub enter-requires-clause-room : goal.enter-requires-clause-room
enter-requires-clause-room c = subst (λ (v : WatchState). length v.log < most_log_lines) (sym c.self.view_is) c.requires

pub enter-requires-clause-there : goal.enter-requires-clause-there
enter-requires-clause-there c =
    subst (λ (s : System). IsThere s c.args.event) c.system.ensures.system (c.is_there.ensures.0 c.if-not-is_there.false)

pub returns : goal.returns
returns c =
    subst (λ (v : WatchState). PushesToWatch v c.args.event c.enter.result (watched c.enter.new.world)) c.self.view_is c.enter.ensures.pushes
