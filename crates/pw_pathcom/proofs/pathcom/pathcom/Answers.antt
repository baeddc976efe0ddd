use Rattle.std.proofs.Common.{Ok, arith, rules, sym, ap, ◌∙◌}
use Rattle.pw_base.specs.First.{Refuses}
use Rattle.pw_pathcom.specs.Reading.{commands_of}
use Rattle.pw_sections.specs.Steps.{◌>>=◌}
use Rattle.pw_pathcom.proofs.Orders.{one_more, none_left, refused_line, no_lines}
use Rattle.pw_pathcom.proofs.pathcom.pathcom.Goals as goal

pub returns-in_err-read_line : goal.returns-in_err-read_line
returns-in_err-read_line c =
    let refused : Refuses c.in_err-read_line.field-0.0 (commands_of c.args.text.now c.args.first_line) =
    refused_line _ c.loop-line.number c.loop-line.reading _ _ _ _ c.in-Some.ensures.cases c.in_err-read_line.ensures c.loop-line.invariant.so_far in
    search rules

pub loop-line-preserved : goal.loop-line-preserved
loop-line-preserved c = record {
  so_far = one_more c.loop-line.number c.loop-line.reading _ _ _ _ c.in-Some.ensures.cases c.in_ok-read_line.ensures ∙ c.loop-line.invariant.so_far;
  number = omega (arith, c.in-Some.ensures.shorter);
}

pub returns : goal.returns
returns c =
    ap (λ s. s >>= (λ reading. Ok reading.commands))
    (sym c.loop-line.invariant.so_far ∙ none_left c.loop-line.number c.loop-line.reading _ (no_lines _ c.in_default.ensures.cases))
