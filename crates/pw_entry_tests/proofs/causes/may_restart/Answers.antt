-- The unit runs, is the one that was asked for, and may restart once more.
use Rattle.std.proofs.Common.{◌≡◌, Some, sym, ◌∙◌}
use Rattle.std.proofs.lemmas.Result.{IfOk-weaker}
use Rattle.pw_world_store.specs.Keeps.{kept_in}
use Rattle.pw_world_state.specs.CauseTests.{kept_cause_holds, may_restart}
use Rattle.pw_entry_tests.proofs.Opened.{is-run, run-unit}
use Rattle.pw_entry_tests.proofs.Runs.{idle-restart, restarts, restarts-not}
use Rattle.pw_tmf.specs.Told.{ToldUnit}
use Rattle.pw_entry_tests.proofs.causes.may_restart.Goals as goal

pub holds-requires-clause-open : goal.holds-requires-clause-open
holds-requires-clause-open g c κs within =
    let kept = kept_in g.D.Disc.told c.args.keep.now in
    run-unit c.args.terminal kept c.args.keep.now.system c.in-Some.own c.requires.there
    (is-run c.args.terminal kept c.in-Some.own (sym c.running.ensures ∙ c.in-Some.is))

pub returns-in_default : goal.returns-in_default
returns-in_default g c =
    sym (idle-restart c.args.keep.now.system (kept_in g.D.Disc.told c.args.keep.now) c.args.terminal
    (sym c.running.ensures ∙ c.in_default.is)
    c.args.unit c.args.cause)

pub returns-else-has_restart_left : goal.returns-else-has_restart_left
returns-else-has_restart_left g c =
    let kept = kept_in g.D.Disc.told c.args.keep.now in
    restarts-not c.args.keep.now.system kept c.args.terminal c.in-Some.own
    (is-run c.args.terminal kept c.in-Some.own (sym c.running.ensures ∙ c.in-Some.is)) c.args.unit
    c.args.cause
    (sym c.has_restart_left.ensures ∙ c.if-has_restart_left.false)

pub returns-then-has_restart_left : goal.returns-then-has_restart_left
returns-then-has_restart_left g c =
    let system = c.args.keep.now.system in
    let kept = kept_in g.D.Disc.told c.args.keep.now in
    let own = c.in-Some.own in
    let t = c.args.terminal in
    IfOk-weaker c.holds.result
    (λ passes. (told : ToldUnit) → kept.disc.units own.terminal ≡ Some told → passes
    ≡ kept_cause_holds system kept own.terminal told c.args.cause)
    (λ passes. passes ≡ may_restart system kept t c.args.unit c.args.cause)
    (restarts system kept t own (is-run t kept own (sym c.running.ensures ∙ c.in-Some.is)) c.args.unit
    c.args.cause
    (sym c.has_restart_left.ensures ∙ c.if-has_restart_left.true)) c.holds.ensures
