use Rattle.std.proofs.Common.{ap, ◌∙◌}
use Rattle.pw_sections.specs.Parts.{front}
use Rattle.pw_sections.proofs.Cuts.{no_sections, first_of}
use Rattle.pw_sections.proofs.part.next_section.Goals as goal

pub returns-then-is_empty-clause-cases : goal.returns-then-is_empty-clause-cases
returns-then-is_empty-clause-cases c = no_sections c.args.text.now c.if-is_empty.ensures

pub returns-clause-cases : goal.returns-clause-cases
returns-clause-cases c =
    rw (c.split_at-2.ensures.front, c.split_at-2.ensures.back)
    (first_of c.args.text.now c.split_at.result.1.now c.front_size-size.result c.if-is_empty.ensures c.split_at.ensures.back c.requires c.front_size-size.ensures.value).0

pub returns-clause-at_section : goal.returns-clause-at_section
returns-clause-at_section c =
    ap front c.split_at-2.ensures.back
    ∙ (first_of c.args.text.now c.split_at.result.1.now c.front_size-size.result c.if-is_empty.ensures c.split_at.ensures.back c.requires c.front_size-size.ensures.value).1
