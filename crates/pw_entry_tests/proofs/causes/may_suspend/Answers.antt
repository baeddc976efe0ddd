-- The unit runs, and has restarted as often as it may.
use Rattle.std.proofs.Common.{◌≡◌, Some, sym, ◌∙◌}
use Rattle.std.proofs.lemmas.Result.{IfOk-weaker}
use Rattle.pw_world_store.specs.Keeps.{kept_in}
use Rattle.pw_world_state.specs.CauseTests.{kept_cause_holds, may_suspend}
use Rattle.pw_entry_tests.proofs.Opened.{is-run, run-unit}
use Rattle.pw_entry_tests.proofs.Runs.{idle-suspend, suspends, suspends-not}
use Rattle.pw_tmf.specs.Told.{ToldUnit}
use Rattle.pw_entry_tests.proofs.causes.may_suspend.Goals as goal

pub holds-requires-clause-open : goal.holds-requires-clause-open
holds-requires-clause-open g c κs within =
    let kept = kept_in g.D.Disc.told c.args.keep.now in
    run-unit c.args.terminal kept c.args.keep.now.system c.in-Some.own c.requires.there
    (is-run c.args.terminal kept c.in-Some.own (sym c.running.ensures ∙ c.in-Some.is))

pub returns-in_default : goal.returns-in_default
returns-in_default g c =
    sym (idle-suspend c.args.keep.now.system (kept_in g.D.Disc.told c.args.keep.now) c.args.terminal
    (sym c.running.ensures ∙ c.in_default.is)
    c.args.cause)

pub returns-else-is_at_most : goal.returns-else-is_at_most
returns-else-is_at_most g c =
    let kept = kept_in g.D.Disc.told c.args.keep.now in
    suspends-not c.args.keep.now.system kept c.args.terminal c.in-Some.own
    (is-run c.args.terminal kept c.in-Some.own (sym c.running.ensures ∙ c.in-Some.is)) c.args.cause
    (sym c.is_at_most.ensures ∙ c.if-is_at_most.false)

pub returns-then-is_at_most : goal.returns-then-is_at_most
returns-then-is_at_most g c =
    let system = c.args.keep.now.system in
    let kept = kept_in g.D.Disc.told c.args.keep.now in
    let own = c.in-Some.own in
    let t = c.args.terminal in
    IfOk-weaker c.holds.result
    (λ passes. (told : ToldUnit) → kept.disc.units own.terminal ≡ Some told → passes
    ≡ kept_cause_holds system kept own.terminal told c.args.cause)
    (λ passes. passes ≡ may_suspend system kept t c.args.cause)
    (suspends system kept t own (is-run t kept own (sym c.running.ensures ∙ c.in-Some.is)) c.args.cause
    (sym c.is_at_most.ensures ∙ c.if-is_at_most.true)) c.holds.ensures
