-- RESTART or END SUSPENDED where a cause holds, and else neither.
use Rattle.std.proofs.Common.{◌≡◌, ap, arith, subst, sym, ◌∙◌}
use Rattle.pw_world_store.specs.Keeps.{kept_in}
use Rattle.pw_world_state.specs.CauseTests.{most_restarts}
use Rattle.pw_world_state.specs.Kept.{KeptTerminal}
use Rattle.pw_entry_tests.proofs.Forced.{no-cause, restart-step, suspend-step}
use Rattle.pw_entry_tests.proofs.Found.{none-if}
use Rattle.pw_entry_tests.proofs.Opened.{is-run}
use Rattle.pw_entry_tests.specs.Causes.{HoldsFor, IsCauseFound}
use Rattle.pw_entry_tests.proofs.step.caused_step.Goals as goal

pub returns-in_default-2 : goal.returns-in_default-2
returns-in_default-2 g c =
    let system = c.args.keep.now.system in
    let kept = kept_in g.D.Disc.told c.args.keep.now in
    let t = c.args.terminal in
    let own = c.in-Some.own in
    no-cause system kept t own (is-run t kept own (sym c.running.ensures ∙ c.in-Some.is))
    (subst (IsCauseFound system kept own) (none-if c.in_ok-cause.field-0 c.in_default-2.not-Some) c.in_ok-cause.ensures)

pub returns-then-restarts-most-2 : goal.returns-then-restarts-most-2
returns-then-restarts-most-2 g c =
    let system = c.args.keep.now.system in
    let kept = kept_in g.D.Disc.told c.args.keep.now in
    let t = c.args.terminal in
    let own = c.in-Some.own in
    let had = ap (λ (seat : KeptTerminal). seat.restarts) c.seat.ensures.kept in
    let most : c.most_restarts-most.result ≡ most_restarts system t = c.most_restarts-most.ensures ∙ ap (λ s. most_restarts s t) c.system.ensures in
    let holds : HoldsFor system kept own c.in-Some-2.cause = subst (IsCauseFound system kept own) c.in-Some-2.is c.in_ok-cause.ensures in
    restart-step system kept t own (is-run t kept own (sym c.running.ensures ∙ c.in-Some.is)) c.requires.there c.in-Some-2.cause holds
    (omega (arith, had, most, c.if-restarts-most-2.true))

pub returns : goal.returns
returns g c =
    let system = c.args.keep.now.system in
    let kept = kept_in g.D.Disc.told c.args.keep.now in
    let t = c.args.terminal in
    let own = c.in-Some.own in
    let had = ap (λ (seat : KeptTerminal). seat.restarts) c.seat.ensures.kept in
    let most : c.most_restarts-most.result ≡ most_restarts system t = c.most_restarts-most.ensures ∙ ap (λ s. most_restarts s t) c.system.ensures in
    let holds : HoldsFor system kept own c.in-Some-2.cause = subst (IsCauseFound system kept own) c.in-Some-2.is c.in_ok-cause.ensures in
    suspend-step system kept t own (is-run t kept own (sym c.running.ensures ∙ c.in-Some.is)) c.requires.there c.in-Some-2.cause holds
    (omega (arith, had, most, c.if-restarts-most.false, c.if-restarts-most-2.false))
