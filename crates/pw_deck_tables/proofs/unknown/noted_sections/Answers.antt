use Rattle.std.proofs.Common.{ap, ◌∙◌}
use Rattle.pw_base.specs.First.{least}
use Rattle.pw_deck_tables.specs.Unknown.{unknown_terminal}
use Rattle.pw_pathcom.proofs.Unknowns.{one_noted, all_noted}
use Rattle.pw_deck_tables.proofs.unknown.noted_sections.Goals as goal

pub loop-section-preserved : goal.loop-section-preserved
loop-section-preserved c =
    let faults = unknown_terminal c.args.system.now in
    one_noted faults c.args.sections.now c.loop-section.section-index c.section-item.result c.loop-section.best c.noted_section-best.result _
    c.loop-section-test.true (c.noted_section-best.ensures ∙ ap (λ t. least c.loop-section.best (faults t)) c.section-item.is) c.loop-section.invariant

pub returns : goal.returns
returns c =
    all_noted (unknown_terminal c.args.system.now) c.args.sections.now c.loop-section.section-index c.loop-section.best _ c.loop-section-test.false c.loop-section.invariant
