use Rattle.std.proofs.Common.{refl, sym, ap, ◌∙◌}
use Rattle.pw_screen.proofs.Readings.{clauses-none, clauses-end, clauses-further}
use Rattle.pw_screen.specs.Clauses.{added}
use Rattle.pw_screen.proofs.clauses.clauses_in.Goals as goal

pub returns-in_err-one : goal.returns-in_err-one
returns-in_err-one c =
    let so_far = c.loop-ahead.invariant in
    c.from_residual.ensures ∙ sym (clauses-none c.args.cursor.now.text c.args.layout.now so_far.0 c.loop-ahead.found c.loop-ahead.ahead (sym c.is_end.ensures ∙ c.loop-ahead-test.true) c.in_err-one.ensures.value) ∙ so_far.2

pub loop-ahead-preserved : goal.loop-ahead-preserved
loop-ahead-preserved c =
    let so_far = c.loop-ahead.invariant in
    clauses-further c.args.cursor.now.text c.args.layout.now so_far.0 c.loop-ahead.found c.with-found.result c.loop-ahead.ahead c.one_clause.new.cursor c.in_ok-one.one _ (sym c.is_end.ensures ∙ c.loop-ahead-test.true) c.in_ok-one.ensures.value
    (c.with-found.ensures ∙ ap (λ t. added t c.args.layout.now c.loop-ahead.found c.in_ok-one.one) c.text.ensures) (c.in_ok-one.ensures.shorter refl) so_far.1 so_far.2

pub returns : goal.returns
returns c =
    let so_far = c.loop-ahead.invariant in
    sym (clauses-end c.args.cursor.now.text c.args.layout.now so_far.0 c.loop-ahead.found c.loop-ahead.ahead (sym c.is_end.ensures ∙ c.loop-ahead-test.false) so_far.1) ∙ so_far.2
