use Rattle.std.proofs.Common.{sym, ap, ◌∙◌}
use Rattle.std.specs.Prelude.{bytes_eq, position}
use Rattle.std.proofs.lemmas.Iterator.Adapters.{position_from-zero}
use Rattle.pw_forms.specs.declared.statement.Paragraph.{Paragraph}
use Rattle.pw_compile.specs.Plan.{Plan}
use Rattle.pw_compile.proofs.plan.Plan.place_of_paragraph.Goals as goal

pub returns : goal.returns
returns c =
    c.number_of.ensures ∙ c.self.invariant.1 c.args.name.now
    ∙ sym (position_from-zero (λ (one : Paragraph). bytes_eq one.name c.args.name.now) c.self.inside.paragraphs.now)
    ∙ ap (λ (plan : Plan). position (λ (one : Paragraph). bytes_eq one.name c.args.name.now) plan.paragraphs) c.self.view_is
