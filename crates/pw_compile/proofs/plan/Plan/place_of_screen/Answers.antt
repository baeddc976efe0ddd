use Rattle.std.proofs.Common.{sym, ap, ◌∙◌}
use Rattle.std.specs.Prelude.{bytes_eq, position}
use Rattle.std.proofs.lemmas.Iterator.Adapters.{position_from-zero}
use Rattle.pw_code.specs.declared.field.ScreenTable.{ScreenTable}
use Rattle.pw_compile.specs.Plan.{Plan}
use Rattle.pw_compile.proofs.plan.Plan.place_of_screen.Goals as goal

pub returns : goal.returns
returns c =
    c.number_of.ensures ∙ c.self.invariant.0 c.args.name.now
    ∙ sym (position_from-zero (λ (one : ScreenTable). bytes_eq one.name c.args.name.now) c.self.inside.screens.now)
    ∙ ap (λ (plan : Plan). position (λ (one : ScreenTable). bytes_eq one.name c.args.name.now) plan.screens) c.self.view_is
