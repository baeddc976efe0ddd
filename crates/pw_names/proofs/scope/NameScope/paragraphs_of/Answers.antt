use Rattle.std.proofs.Common.{ap, ◌∙◌}
use Rattle.std.specs.List.{flat_map}
use Rattle.pw_names.specs.Order.{first}
use Rattle.pw_names.specs.Faults.{faults, paragraph_faults}
use Rattle.pw_names.proofs.Noted.{first-further}
use Rattle.pw_names.proofs.scope.NameScope.paragraphs_of.Goals as goal

pub loop-paragraph-preserved : goal.loop-paragraph-preserved
loop-paragraph-preserved c =
    first-further (paragraph_faults c.args.self.now) c.args.paragraphs.now c.loop-paragraph.paragraph-index c.paragraph-item.result c.loop-paragraph.found c.statements-found.result
    (first c.args.known (flat_map (paragraph_faults c.args.self.now) c.args.paragraphs.now)) c.loop-paragraph-test.true c.paragraph-item.is
    (c.statements-found.ensures ∙ ap (λ xs. first c.loop-paragraph.found (flat_map (faults c.args.self.now) xs)) c.as_slice.ensures) c.loop-paragraph.invariant
