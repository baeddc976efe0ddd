-- What the paragraphs so far have, with what those that are left have, is all.
use Rattle.std.proofs.Common.{◌≡◌, drop}
use Rattle.std.specs.List.{flat_map}
use Rattle.pw_names.specs.Order.{first}
use Rattle.pw_names.specs.Faults.{paragraph_faults}
use Rattle.pw_names.proofs.scope.NameScope.paragraphs_of.Given as goal

abbrev pub invariant-loop-paragraph : goal.invariant-loop-paragraph
invariant-loop-paragraph l =
    first l.found (flat_map (paragraph_faults l.self) (drop l.paragraph-index l.paragraphs)) ≡ first l.fn.known (flat_map (paragraph_faults l.self) l.paragraphs)
