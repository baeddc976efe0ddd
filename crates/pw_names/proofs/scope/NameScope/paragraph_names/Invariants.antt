-- What the things so far have, with what those that are left have, is all.
use Rattle.std.proofs.Common.{◌≡◌, drop}
use Rattle.std.specs.List.{flat_map}
use Rattle.pw_operands.specs.Uses as place
use Rattle.pw_names.specs.Flaws.{flaws}
use Rattle.pw_names.specs.Order.{noted}
use Rattle.pw_names.proofs.scope.NameScope.paragraph_names.Given as goal

abbrev pub invariant-loop-name : goal.invariant-loop-name
invariant-loop-name l =
    noted l.found l.line (flat_map (λ name. flaws l.self.scope (place.Paragraph name)) (drop l.name-index l.names)) ≡ noted l.fn.known l.line (flat_map (λ name. flaws l.self.scope (place.Paragraph name)) l.names)
