use Rattle.std.proofs.Common.{sym, ap, ◌∙◌, arith}
use Rattle.pw_forms.specs.Words.{begins_piece}
use Rattle.pw_forms.specs.Pieces.{first_mark}
use Rattle.pw_forms.proofs.Cuts.{run-ends, run-goes_on, run-all, none-first, drop-next}
use Rattle.pw_forms.proofs.pieces.run_end.Goals as goal

pub loop-token-preserved : goal.loop-token-preserved
loop-token-preserved c = record {
  so_far = run-goes_on c.args.server c.args.text.now c.loop-token.size c.loop-token.rest.now c.args.tokens.now c.in-Some.behind.now c.in-Some.token.now c.in-Some.ensures.cases.0
      (ap begins_piece (sym c.mark_of-mark.ensures) ∙ sym c.if-begins_piece.ensures) c.loop-token.invariant.so_far;
  at = drop-next c.loop-token.size c.loop-token.rest.now c.args.tokens.now c.in-Some.behind.now c.in-Some.token.now c.in-Some.ensures.cases.0 c.loop-token.invariant.at;
  within = omega (arith, c.in-Some.ensures.cases.1);
}

pub returns-then-begins_piece-clause-size : goal.returns-then-begins_piece-clause-size
returns-then-begins_piece-clause-size c =
    run-ends c.args.server c.args.text.now c.loop-token.size c.loop-token.rest.now c.args.tokens.now c.in-Some.behind.now c.in-Some.token.now c.in-Some.ensures.cases.0
    (ap begins_piece (sym c.mark_of-mark.ensures) ∙ sym c.if-begins_piece.ensures) c.loop-token.invariant.so_far

pub returns-then-begins_piece-clause-next : goal.returns-then-begins_piece-clause-next
returns-then-begins_piece-clause-next c =
    c.mark_of-mark.ensures ∙ ap (first_mark c.args.server c.args.text.now) (sym c.in-Some.ensures.cases.0 ∙ c.loop-token.invariant.at)

pub returns-clause-size : goal.returns-clause-size
returns-clause-size c = run-all c.args.server c.args.text.now c.loop-token.size c.loop-token.rest.now c.args.tokens.now c.in_default.ensures.cases c.loop-token.invariant.so_far

pub returns-clause-next : goal.returns-clause-next
returns-clause-next c = none-first c.args.server c.args.text.now c.loop-token.rest.now _ c.in_default.ensures.cases c.loop-token.invariant.at
