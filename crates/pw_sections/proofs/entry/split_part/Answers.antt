use Rattle.std.proofs.Common.{◌<◌, length, sym, ◌∙◌, arith}
use Rattle.pw_sections.proofs.Spans.{one_part, first_part}
use Rattle.pw_sections.proofs.entry.split_part.Goals as goal

pub returns-then-size-line-clause-parts : goal.returns-then-size-line-clause-parts
returns-then-size-line-clause-parts c = one_part _ c.args.line.now (sym c.part_size-size.ensures.value ∙ c.if-size-line.true)

pub returns-else-size-line-clause-parts : goal.returns-else-size-line-clause-parts
returns-else-size-line-clause-parts c =
    let within : c.part_size-size.result < length c.args.line.now = omega (arith, c.part_size-size.ensures.bound, c.if-size-line.false) in
    rw (c.split_at.ensures.front, c.split_at-else-size-line.ensures.back) (first_part _ c.args.line.now c.part_size-size.result c.part_size-size.ensures.value within)
