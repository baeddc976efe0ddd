use Rattle.std.proofs.Common.{◌≡◌, ◌+◌, ◌<◌, ◌++◌, ◌∷◌, [], false, ap, sym, ◌∙◌, get_or, length, take, arith}
use Rattle.pw_event.specs.declared.script.FailLine.{FailLine}
use Rattle.pw_event.specs.declared.script.FailLine.TheVariants as line
use Rattle.pw_world_model.specs.Dues.{opened_from}
use Rattle.pw_world_model.proofs.Dues.{opened-more}
use Rattle.pw_world_model.proofs.due.DueLines.new.Goals as goal

pub loop-line-preserved : goal.loop-line-preserved
loop-line-preserved c =
    let i = c.loop-line.line-index in
    let lines = c.args.script.now.lines in
    let d : FailLine = line.Tcp 0 false 0 in
    let low : i < length lines = omega (arith, ap length c.as_slice-line-items.ensures, c.loop-line-test.true) in
    let number : c.loop-line.number ≡ 1 + i = let e = c.loop-line.invariant.number in omega (arith, e) in
    record {
      lines =
          c.in_ok-push.ensures.items
          ∙ (ap (λ xs. xs ++ record { number = c.loop-line.number; line = get_or c.as_slice-line-items.result.now i d } ∷ []) c.loop-line.invariant.lines
          ∙ (ap (λ n. opened_from 1 (take i lines) ++ record { number = n; line = get_or c.as_slice-line-items.result.now i d } ∷ []) number
          ∙ (ap (λ s. opened_from 1 (take i lines) ++ record { number = 1 + i; line = get_or s i d } ∷ []) c.as_slice-line-items.ensures
          ∙ sym (opened-more 1 i lines d low))));
      number = ap (λ n. n + 1) c.loop-line.invariant.number;
    }
