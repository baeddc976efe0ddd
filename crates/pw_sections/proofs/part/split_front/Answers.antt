use Rattle.std.proofs.Common.{ap, ◌∙◌}
use Rattle.pw_sections.specs.Parts.{sections, front}
use Rattle.pw_sections.proofs.Cuts.{front_is, sections_behind, none_before}
use Rattle.pw_sections.proofs.part.split_front.Goals as goal

pub returns-clause-front : goal.returns-clause-front
returns-clause-front c = c.split_at.ensures.front ∙ front_is c.args.text.now c.front_size.result c.front_size.ensures.value

pub returns-clause-sections : goal.returns-clause-sections
returns-clause-sections c = ap sections c.split_at.ensures.back ∙ sections_behind c.args.text.now c.front_size.result c.front_size.ensures.value

pub returns-clause-at_section : goal.returns-clause-at_section
returns-clause-at_section c = ap front c.split_at.ensures.back ∙ none_before c.args.text.now c.front_size.result c.front_size.ensures.value
