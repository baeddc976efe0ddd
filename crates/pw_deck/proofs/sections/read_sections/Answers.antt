use Rattle.std.proofs.Common.{arith, rules, sym, ◌∙◌}
use Rattle.pw_base.specs.First.{Refuses}
use Rattle.pw_sections.specs.Parts.{sections}
use Rattle.pw_deck.specs.Parts.{sections_read}
use Rattle.pw_deck.proofs.Folds.{section_refused, section_ended, section_more, none_read}
use Rattle.pw_deck.proofs.sections.read_sections.Goals as goal

pub returns-in_err-read_section : goal.returns-in_err-read_section
returns-in_err-read_section c =
    let refused : Refuses c.in_err-read_section.field-0.0 (sections_read c.args.start c.args.first_line (sections c.args.text.now)) =
    section_refused _ c.loop-section.parts c.loop-section.line _ _ _ _ c.in-Some.ensures.cases c.in_err-read_section.ensures c.loop-section.invariant.so_far in
    search rules

pub returns-then-parts : goal.returns-then-parts
returns-then-parts c =
    section_ended c.loop-section.parts _ c.loop-section.line _ _ _ _ c.in-Some.ensures.cases c.in_ok-read_section.ensures c.if-parts.true c.loop-section.invariant.so_far

pub loop-section-preserved : goal.loop-section-preserved
loop-section-preserved c = record {
  so_far = section_more c.loop-section.parts _ c.loop-section.line _ _ _ _ _ c.in-Some.ensures.cases c.in_ok-read_section.ensures c.if-parts.false c.line_count-line.ensures.value c.loop-section.invariant.so_far;
  at_section = c.in-Some.ensures.at_section;
  first = omega (arith, c.loop-section.invariant.first);
  within = omega (arith, c.in-Some.ensures.joined, c.line_count-line.ensures.bound, c.loop-section.invariant.within);
}

pub returns : goal.returns
returns c = sym c.loop-section.invariant.so_far ∙ none_read c.loop-section.parts c.loop-section.line _ c.in_default.ensures.cases
