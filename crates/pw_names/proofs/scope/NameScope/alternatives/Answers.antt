use Rattle.std.proofs.Common.{sym, ap, ◌∙◌}
use Rattle.std.specs.List.{flat_map}
use Rattle.pw_operands.specs.Uses.{comparison_uses}
use Rattle.pw_names.specs.Flaws.{flaws, flaws_of}
use Rattle.pw_names.proofs.Noted.{noted-further, noted-done, flat_map-flat_map}
use Rattle.pw_names.specs.Order.{noted}
use Rattle.pw_names.proofs.scope.NameScope.alternatives.Goals as goal

pub loop-all-preserved : goal.loop-all-preserved
loop-all-preserved c =
    noted-further c.args.line (λ all. flaws_of c.args.self.now.scope (flat_map comparison_uses all)) c.args.any.now c.loop-all.all-index c.all-item.result c.loop-all.found c.comparisons-found.result
    (noted c.args.known c.args.line (flat_map (λ all. flaws_of c.args.self.now.scope (flat_map comparison_uses all)) c.args.any.now)) c.loop-all-test.true c.all-item.is
    (c.comparisons-found.ensures ∙ ap (λ all. noted c.loop-all.found c.args.line (flaws_of c.args.self.now.scope (flat_map comparison_uses all))) c.as_slice.ensures) c.loop-all.invariant

pub returns : goal.returns
returns c =
    noted-done c.args.line (λ all. flaws_of c.args.self.now.scope (flat_map comparison_uses all)) c.args.any.now c.loop-all.all-index c.loop-all.found (noted c.args.known c.args.line (flat_map (λ all. flaws_of c.args.self.now.scope (flat_map comparison_uses all)) c.args.any.now))
    c.loop-all-test.false c.loop-all.invariant
    ∙ ap (noted c.args.known c.args.line) (sym (flat_map-flat_map (flaws c.args.self.now.scope) (λ all. flat_map comparison_uses all) c.args.any.now))
