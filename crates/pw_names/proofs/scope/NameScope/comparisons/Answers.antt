use Rattle.std.proofs.Common.{sym, ap, ◌∙◌}
use Rattle.std.specs.List.{flat_map}
use Rattle.pw_operands.specs.Uses.{comparison_uses}
use Rattle.pw_names.specs.Flaws.{flaws, flaws_of}
use Rattle.pw_names.proofs.Noted.{noted-further, noted-done, flat_map-flat_map}
use Rattle.pw_names.specs.Order.{noted}
use Rattle.pw_names.proofs.scope.NameScope.comparisons.Goals as goal

pub loop-comparison-preserved : goal.loop-comparison-preserved
loop-comparison-preserved c =
    noted-further c.args.line (λ one. flaws_of c.args.self.now.scope (comparison_uses one)) c.args.all.now c.loop-comparison.comparison-index c.comparison-item.result c.loop-comparison.found c.comparison-found.result
    (noted c.args.known c.args.line (flat_map (λ one. flaws_of c.args.self.now.scope (comparison_uses one)) c.args.all.now)) c.loop-comparison-test.true c.comparison-item.is c.comparison-found.ensures c.loop-comparison.invariant

pub returns : goal.returns
returns c =
    noted-done c.args.line (λ one. flaws_of c.args.self.now.scope (comparison_uses one)) c.args.all.now c.loop-comparison.comparison-index c.loop-comparison.found (noted c.args.known c.args.line (flat_map (λ one. flaws_of c.args.self.now.scope (comparison_uses one)) c.args.all.now))
    c.loop-comparison-test.false c.loop-comparison.invariant
    ∙ ap (noted c.args.known c.args.line) (sym (flat_map-flat_map (flaws c.args.self.now.scope) comparison_uses c.args.all.now))
