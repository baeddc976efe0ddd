use Rattle.std.proofs.Common.{◌++◌, [], ◌∷◌, sym, ap, ◌∙◌, map}
use Rattle.pw_operands.specs.Uses as place
use Rattle.pw_names.specs.Order.{noted}
use Rattle.std.proofs.lemmas.Grind.{flat_map-append}
use Rattle.pw_operands.specs.Variables.{is_number_variable}
use Rattle.pw_names.specs.Flaws.{flaws, flaws_of, item_flaws}
use Rattle.pw_names.proofs.Noted.{one-part, two-parts}
use Rattle.pw_names.proofs.scope.NameScope.perform_one_of.Goals as goal

pub returns : goal.returns
returns c =
    two-parts c.args.known c.paragraph_names-known.result c.item.result c.args.line (flaws_of c.args.self.now.scope (map place.Paragraph c.args.paragraphs.now)) (item_flaws c.args.self.now.scope is_number_variable c.args.position.now ++ [])
    (c.paragraph_names-known.ensures ∙ ap (λ names. noted c.args.known c.args.line (flaws_of c.args.self.now.scope (map place.Paragraph names))) c.as_slice.ensures)
    (one-part c.paragraph_names-known.result c.item.result c.args.line (item_flaws c.args.self.now.scope is_number_variable c.args.position.now) c.item.ensures)
    ∙ ap (noted c.args.known c.args.line) (sym (flat_map-append (flaws c.args.self.now.scope) (map place.Paragraph c.args.paragraphs.now) (place.Position c.args.position.now ∷ [])))
