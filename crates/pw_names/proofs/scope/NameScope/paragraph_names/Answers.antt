use Rattle.std.proofs.Common.{sym, ap, ◌∙◌}
use Rattle.std.specs.List.{flat_map}
use Rattle.std.proofs.lemmas.List.Folds.{flat_map-map}
use Rattle.pw_operands.specs.Uses as place
use Rattle.pw_names.specs.Flaws.{flaws}
use Rattle.pw_names.proofs.Noted.{noted-further, noted-done}
use Rattle.pw_names.specs.Order.{noted}
use Rattle.pw_names.proofs.scope.NameScope.paragraph_names.Goals as goal

pub loop-name-preserved : goal.loop-name-preserved
loop-name-preserved c =
    noted-further c.args.line (λ name. flaws c.args.self.now.scope (place.Paragraph name)) c.args.names.now c.loop-name.name-index c.name-item.result c.loop-name.found c.paragraph-found.result
    (noted c.args.known c.args.line (flat_map (λ name. flaws c.args.self.now.scope (place.Paragraph name)) c.args.names.now)) c.loop-name-test.true c.name-item.is c.paragraph-found.ensures c.loop-name.invariant

pub returns : goal.returns
returns c =
    noted-done c.args.line (λ name. flaws c.args.self.now.scope (place.Paragraph name)) c.args.names.now c.loop-name.name-index c.loop-name.found (noted c.args.known c.args.line (flat_map (λ name. flaws c.args.self.now.scope (place.Paragraph name)) c.args.names.now))
    c.loop-name-test.false c.loop-name.invariant
    ∙ ap (noted c.args.known c.args.line) (sym (flat_map-map (flaws c.args.self.now.scope) place.Paragraph c.args.names.now))
